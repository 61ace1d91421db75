use Rattle.std.proofs.Common.{◌≡◌, List, length}
use Rattle.runs.specs.Answers.{Delivered}
use Rattle.runs.specs.Run.{Move}
use Rattle.runs.proofs.runner.Runner.settle.Given as goal

abbrev pub invariant-loop : goal.invariant-loop
invariant-loop g l = (ms : List Move) × (Delivered (g.P.Program.means l.initial.self.program) ms l.initial.self l.self × (length ms ≡ l.counter))
