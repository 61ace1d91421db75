use Rattle.std.proofs.Common.{◌≡◌}
use Rattle.tables.specs.Tables.{processes, family}
use Rattle.tables.proofs.Lowered.{Round}
use Rattle.tables.proofs.lowering.Lowering.lower.Given as goal

abbrev pub invariant-loop-p : goal.invariant-loop-p
invariant-loop-p l =
    (l.self.table.now ≡ l.initial.self.table.now)
    × Round (processes l.initial.self.table.now) (family l.initial.self.table.now) l.initial.self.line l.self.line l.p l.lowered
