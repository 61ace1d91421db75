use Rattle.std.proofs.Common.{rules}
use Rattle.tables.specs.Answers.{line_of}
use Rattle.rows.specs.Rows.{cut_to}
use Rattle.tables.proofs.table.Table.cut.Goals as goal

pub returns : goal.returns
returns c = c.change_rows.ensures (λ p. cut_to (line_of c.args.line.now p)) (λ p a b post. search rules)
