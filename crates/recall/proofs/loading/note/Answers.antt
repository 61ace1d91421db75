use Rattle.std.proofs.Common.{sym, subst, arith, rules}
use Rattle.tables.specs.Tables.{Changes}
use Rattle.recall.specs.Loaded.{noted_row}
use Rattle.recall.proofs.Loads.{with_row, interval_noted}
use Rattle.recall.proofs.loading.note.Goals as goal

pub returns-then-x-processes : goal.returns-then-x-processes
returns-then-x-processes c =
    let t = c.args.table.now in let x = c.in-Interval.x in
    subst (λ k. Changes (noted_row k) t (with_row t x.process c.push.new.self)) (sym c.in-Interval.is)
    (interval_noted t x c.index-rows-x.result c.push.new.self c.push.result (search rules) (omega arith) c.push.ensures)
