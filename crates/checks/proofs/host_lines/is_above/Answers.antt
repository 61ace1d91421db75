use Rattle.std.proofs.Common.{rules}
use Rattle.std.proofs.iter.runs.Sources.{ranges}
use Rattle.tables.specs.Answers.{line_of}
use Rattle.tables.specs.Tables.{processes, row_of}
use Rattle.checks.proofs.Each.{some_above_is}
use Rattle.checks.proofs.host_lines.is_above.Goals as goal

pub returns : goal.returns
returns c =
    let t = c.args.table.now in
    some_above_is (processes t) (λ p. (row_of t p).saved) (line_of c.args.line.now) c.any.result (search (rules, ranges)) (search (rules, ranges))
