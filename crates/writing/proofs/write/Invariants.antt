use Rattle.std.proofs.Common.{◌≡◌, ◌++◌, map, drop}
use Rattle.histories.specs.Effects.{interval_record, written}
use Rattle.writing.specs.Writing.{last_record}
use Rattle.writing.proofs.write.Given as goal

-- what is left gives the whole
abbrev pub invariant-loop-x : goal.invariant-loop-x
invariant-loop-x g l =
    written (map interval_record (drop l.x-index l.xs) ++ last_record l.last) (g.S.Store.means l.store)
    ≡ written (map interval_record l.xs ++ last_record l.last) (g.S.Store.means l.initial.store)
