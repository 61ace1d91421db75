use Rattle.std.proofs.Common.{◌≡◌, ℕ, ◌<◌, get_or, vec_items, vec_len}
use Rattle.programs.specs.Program.{zeros}
use Rattle.runs.proofs.runner.Runner.new.Given as goal

abbrev pub invariant-loop-p : goal.invariant-loop-p
invariant-loop-p g l = (vec_len l.states ≡ l.p) × ((k : ℕ) → k < l.p → get_or (vec_items l.states) k zeros ≡ (g.P.Program.means l.program).start k)
