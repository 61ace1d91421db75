use Rattle.std.proofs.Common.{◌≡◌, ◌++◌, map}
use Rattle.recall.specs.Loaded.{unread}
use Rattle.recall.proofs.Loads.{SoFar}
use Rattle.recall.proofs.loading.load.Given as goal

abbrev pub invariant-loop-record : goal.invariant-loop-record
invariant-loop-record g l = record {
  can : (goal.iterator-loop-record g).can_next l.record-iterator;
  finite : (goal.iterator-loop-record g).is_finite l.record-iterator;
  left : unread (g.S.Store.means l.store) 0 ≡ l.yielded ++ unread (g.S.Store.means l.record-iterator.store.now) l.record-iterator.passed;
  noted : SoFar (map (λ x. x.1) l.yielded) l.initial.table l.table;
}
