use Rattle.std.proofs.Common.{take}
use Rattle.std.specs.List.{All}
use Rattle.lines.specs.Lines.{Backed}
use Rattle.tables.specs.Answers.{line_of}
use Rattle.tables.specs.Tables.{processes}
use Rattle.tables.proofs.lowering.Lowering.front.Given as goal

abbrev pub invariant-loop-i : goal.invariant-loop-i
invariant-loop-i l =
    All (Backed (processes l.self.table.now) (line_of l.self.line)) (take l.i l.xs)
    × All (Backed (processes l.self.table.now) (line_of l.needs)) (take l.i l.xs)
