use Rattle.std.proofs.Common.{◌≡◌, false, take, refl, ap, ◌∙◌, subst, arith}
use Rattle.std.specs.List.{All}
use Rattle.lines.specs.Lines.{Backed}
use Rattle.tables.specs.Answers.{line_of}
use Rattle.tables.specs.Lowering.{Lower}
use Rattle.tables.specs.Tables.{processes, family}
use Rattle.tables.specs.declared.table.Table.{Table}
use Rattle.tables.proofs.Lowered.{round_none, round_more, round_all}
use Rattle.tables.proofs.lowering.Lowering.lower.Goals as goal

pub loop-p-init : goal.loop-p-init
loop-p-init c = let t = c.args.self.now.table.now in (refl, round_none (processes t) (family t) c.args.self.now.line)

pub lower_one-lowered-requires : goal.lower_one-lowered-requires
lower_one-lowered-requires c = let same = ap processes c.loop-p.invariant.0 in omega (arith, c.processes-p-end.ensures, same, c.loop-p-test.true)

pub loop-p-preserved : goal.loop-p-preserved
loop-p-preserved c =
    let t = c.args.self.now.table.now in let same = c.loop-p.invariant.0 in let done = c.lower_one-lowered.ensures in
    let ys = c.loop-p.self.line in let zs = c.lower_one-lowered.new.self.line in let p = c.loop-p.p in let r = c.lower_one-lowered.result in (
      done.table ∙ same,
      round_more (processes t) (family t) c.args.self.now.line ys zs p c.loop-p.lowered r c.loop-p.invariant.1 (subst (λ (u : Table). Lower (processes u) (family u) ys zs) same done.lower) done.less
          (subst (λ (u : Table). r ≡ false → (zs ≡ ys) × All (Backed (processes u) (line_of zs)) (take (line_of zs p) (family u p))) same done.stays),
    )

pub returns : goal.returns
returns c =
    let t = c.args.self.now.table.now in record {
      table = c.loop-p.invariant.0;
      lowers = round_all (processes t) (family t) c.args.self.now.line c.loop-p.self.line c.loop-p.p c.loop-p.lowered (omega (arith, c.processes-p-end.ensures)) c.loop-p.invariant.1;
    }
