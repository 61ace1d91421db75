use Rattle.std.proofs.Common.{◌≡◌, ◌-◌, length, get_or, drop, sym, ap, ◌∙◌, arith}
use Rattle.std.specs.Option.{option_to_list}
use Rattle.std.specs.List.{slice_get}
use Rattle.records.specs.declared.Interval.{Interval}
use Rattle.lines.specs.Intervals.{outputs}
use Rattle.rows.proofs.Finding.{blank, search_here, search_on, search_none}
use Rattle.rows.proofs.output.output_after.Goals as goal
use Rattle.rows.proofs.output.output_after.Goals.{in-Some+else-left-eq0, in_default}

pub returns-then-left-eq0 : goal.returns-then-left-eq0
returns-then-left-eq0 c =
    let xs = c.args.xs.now in let i = c.loop-x.x-index in let left = c.loop-x.left in
    let long : length (option_to_list (get_or xs i blank).output) ≡ 1 = ap (λ o. length (option_to_list o)) c.in-Some.is in
    sym (sym c.loop-x.invariant ∙ search_here (λ (x : Interval). option_to_list x.output) xs i left blank c.loop-x-test.true (omega (arith, c.if-left-eq0.true))
    ∙ ap (slice_get (option_to_list (get_or xs i blank).output)) c.if-left-eq0.true ∙ ap (λ o. slice_get (option_to_list o) 0) c.in-Some.is)

pub loop-x-preserved : goal.loop-x-preserved
loop-x-preserved c =
    let xs = c.args.xs.now in let i = c.loop-x.x-index in let left = c.loop-x.left in
    let on = search_on (λ (x : Interval). option_to_list x.output) xs i left blank in
    elim c.match-x.branch [
      | in-Some+else-left-eq0 w ↦ ap (slice_get (outputs (drop _ xs))) w.left-is ∙ sym (on 1 c.loop-x-test.true (ap (λ o. length (option_to_list o)) w.in-Some.is) (omega (arith, w.if-left-eq0.false))) ∙ c.loop-x.invariant
      | in_default w ↦ let same : c.match-x.left ≡ left - 0 = omega (arith, w.left-is) in
          ap (slice_get (outputs (drop _ xs))) same ∙ sym (on 0 c.loop-x-test.true (ap (λ o. length (option_to_list o)) w.in_default.is) (omega arith)) ∙ c.loop-x.invariant
    ]

pub returns : goal.returns
returns c = sym (sym c.loop-x.invariant ∙ search_none (λ (x : Interval). option_to_list x.output) c.args.xs.now c.loop-x.x-index c.loop-x.left c.loop-x-test.false)
