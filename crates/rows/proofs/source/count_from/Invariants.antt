use Rattle.std.proofs.Common.{◌≡◌, ◌≤◌, take}
use Rattle.lines.specs.Intervals.{taken}
use Rattle.rows.proofs.source.count_from.Given as goal

abbrev pub invariant-loop-x : goal.invariant-loop-x
invariant-loop-x l = (l.n ≡ taken l.source (take l.x-index l.xs)) × (l.n ≤ l.x-index)
