use Rattle.std.proofs.Common.{◌≡◌, sum}
use Rattle.tables.specs.Lowering.{Lower}
use Rattle.tables.specs.Tables.{processes, family}
use Rattle.tables.proofs.line.greatest_line.Given as goal

abbrev pub invariant-loop : goal.invariant-loop
invariant-loop l = (l.lowering.table.now ≡ l.table) × Lower (processes l.table) (family l.table) l.initial.lowering.line l.lowering.line

abbrev pub decreases-loop : goal.decreases-loop
decreases-loop l = sum l.lowering.line
