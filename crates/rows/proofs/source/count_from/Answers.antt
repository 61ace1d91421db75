use Rattle.std.proofs.Common.{eqb, ap, ◌∙◌, arith}
use Rattle.std.proofs.lemmas.List.Filters.{length-filter_more}
use Rattle.std.proofs.lemmas.List.{take_all}
use Rattle.std.proofs.lemmas.Bool.Decides.{nat_tests}
use Rattle.lines.specs.Intervals.{taken}
use Rattle.rows.proofs.Finding.{blank}
use Rattle.rows.proofs.source.count_from.Goals as goal
use Rattle.rows.proofs.source.count_from.Goals.{then-x-source, else-x-source}

pub loop-x-preserved : goal.loop-x-preserved
loop-x-preserved c =
    let more = length-filter_more (λ x. eqb x.source c.args.source) c.args.xs.now c.loop-x.x-index blank c.loop-x-test.true in
    elim c.if-x-source.branch [
      | then-x-source w ↦ let is = w.n-is in let t = w.if-x-source.true in (grind (arith, nat_tests), omega (arith, c.loop-x.invariant.1))
      | else-x-source w ↦ let is = w.n-is in let t = w.if-x-source.false in (grind (arith, nat_tests), omega (arith, c.loop-x.invariant.1))
    ]

pub returns : goal.returns
returns c = record {
  value = c.loop-x.invariant.0 ∙ ap (taken c.args.source) (take_all c.loop-x.x-index c.args.xs.now c.loop-x-test.false);
  bound = omega (arith, c.loop-x.invariant.1);
}
