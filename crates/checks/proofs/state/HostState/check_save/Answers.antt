use native.Mathlib.Numerals.{unary_clauses}
use Rattle.checks.proofs.state.HostState.check_save.Goals as goal

pub returns : goal.returns
returns g c = let written = c.check_writing.ensures in simp unary_clauses at written
