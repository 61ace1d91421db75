use Rattle.std.proofs.Common.{◌≡◌, drop}
use Rattle.std.specs.List.{slice_get}
use Rattle.lines.specs.Intervals.{outputs}
use Rattle.rows.proofs.output.output_after.Given as goal

abbrev pub invariant-loop-x : goal.invariant-loop-x
invariant-loop-x l = slice_get (outputs (drop l.x-index l.xs)) l.left ≡ slice_get (outputs l.xs) l.skip
