use Rattle.std.proofs.Common.{sym, ◌∙◌, subst}
use Rattle.tables.specs.Answers.{line_of, GreatestLine}
use Rattle.tables.specs.Lowering.{Lower, Lowers}
use Rattle.tables.specs.Tables.{processes, family}
use Rattle.tables.specs.declared.table.Table.{Table}
use Rattle.tables.proofs.Lowered.{lower_none, lower_again, answers}
use Rattle.tables.proofs.line.greatest_line.Goals as goal

pub loop-init : goal.loop-init
loop-init c = let t = c.args.table.now in (c.new-lowering.ensures.table, lower_none (processes t) (family t) c.new-lowering.result.line)

pub loop-preserved : goal.loop-preserved
loop-preserved c =
    let t = c.args.table.now in let xs = c.new-lowering.result.line in let ys = c.loop.lowering.line in let zs = c.lower.new.self.line in
    let low : Lower (processes t) (family t) ys zs = subst (λ (u : Table). Lower (processes u) (family u) ys zs) c.loop.invariant.0 c.lower.ensures.lowers.lower in
    (c.lower.ensures.table ∙ c.loop.invariant.0, lower_again (processes t) (family t) xs ys zs c.loop.invariant.1 low)

pub loop-smaller : goal.loop-smaller
loop-smaller c = c.lower.ensures.lowers.less c.loop-test.true

pub returns : goal.returns
returns c =
    let t = c.args.table.now in let xs = c.new-lowering.result.line in let ys = c.loop.lowering.line in let zs = c.lower.new.self.line in
    let last : Lowers (processes t) (family t) ys zs c.lower.result = subst (λ (u : Table). Lowers (processes u) (family u) ys zs c.lower.result) c.loop.invariant.0 c.lower.ensures.lowers in
    subst (λ ws. GreatestLine (processes t) (family t) (line_of c.args.counts.now) (line_of ws)) (sym c.line.ensures)
    (answers (processes t) (family t) (line_of c.args.counts.now) xs zs c.new-lowering.ensures.value
    (lower_again (processes t) (family t) xs ys zs c.loop.invariant.1 last.lower) (last.stays c.loop-test.false))
