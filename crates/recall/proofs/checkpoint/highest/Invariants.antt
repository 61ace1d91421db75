use Rattle.std.proofs.Common.{◌≡◌, List}
use Rattle.recall.specs.Standing.{Holds}
use Rattle.recall.specs.declared.checkpoint.Found.{Found}
use Rattle.recall.proofs.Bests.{best_below}
use Rattle.recall.proofs.checkpoint.highest.Given as goal

abbrev pub invariant-loop-slot : goal.invariant-loop-slot
invariant-loop-slot l = (cs : List Found) → Holds cs l.slots → l.best ≡ best_below l.slot-index cs
