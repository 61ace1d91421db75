use Rattle.std.proofs.Common.{◌<◌, length, ◌∙◌, refl, arith, rules}
use Rattle.std.proofs.lemmas.List.{length-set}
use Rattle.tables.proofs.Families.{reached_none, reached_more, reached_all}
use Rattle.tables.proofs.table.Table.change_rows.Goals as goal

pub loop-p-init : goal.loop-p-init
loop-p-init g c = (search rules, λ f h. reached_none f c.args.self.now.rows)

pub loop-p-preserved : goal.loop-p-preserved
loop-p-preserved g c =
    let rows = c.loop-p.rows in let p = c.loop-p.p in let inv = c.loop-p.invariant in
    let place : p < length rows = omega (arith, inv.0, c.processes-count.ensures, c.loop-p-test.true) in (
      length-set rows p _ ∙ inv.0,
      λ f h. reached_more f c.args.self.now.rows rows p _ c.index-rows-p.result place (h p _ _ c.change.ensures) (inv.1 f h),
    )

pub returns : goal.returns
returns g c f h = reached_all f c.args.self.now _ c.loop-p.p (omega (arith, c.processes-count.ensures)) refl (c.loop-p.invariant.1 f h)
