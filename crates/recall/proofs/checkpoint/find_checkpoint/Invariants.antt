use Rattle.std.proofs.Common.{◌≡◌, [], ◌++◌, fold}
use Rattle.recall.specs.Loaded.{unread}
use Rattle.recall.specs.Standing.{Holds, marked_next}
use Rattle.recall.proofs.checkpoint.find_checkpoint.Given as goal

abbrev pub invariant-loop-number : goal.invariant-loop-number
invariant-loop-number g l = record {
  can : (goal.iterator-loop-number g).can_next l.number-iterator;
  finite : (goal.iterator-loop-number g).is_finite l.number-iterator;
  left : unread (g.S.Store.means l.store) 0 ≡ l.yielded ++ unread (g.S.Store.means l.number-iterator.store.now) l.number-iterator.passed;
  holds : Holds (fold (marked_next l.process) [] l.yielded) l.slots;
}
