use Rattle.std.proofs.Common.{◌≡◌, drop}
use Rattle.std.specs.List.{slice_get}
use Rattle.lines.specs.Intervals.{channel}
use Rattle.tables.proofs.channel.sent_after.Given as goal

abbrev pub invariant-loop-x : goal.invariant-loop-x
invariant-loop-x l = slice_get (channel l.target (drop l.x-index l.xs)) l.left ≡ slice_get (channel l.target l.xs) l.skip
