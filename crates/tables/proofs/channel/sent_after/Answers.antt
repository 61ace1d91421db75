use Rattle.std.proofs.Common.{◌≡◌, ◌<◌, eqb, filter, length, get_or, Some, sym, ◌∙◌, arith, rules}
use Rattle.std.specs.List.{slice_get}
use Rattle.std.proofs.lemmas.Option.{slice_get_within}
use Rattle.programs.specs.Values.{listed}
use Rattle.lines.specs.Intervals.{sent_in, channel}
use Rattle.rows.proofs.Finding.{blank, search_here, search_on, search_none, length_sent_in, nth_sent_in, nth_drop}
use Rattle.tables.proofs.channel.sent_after.Goals as goal

pub returns-in-Some : goal.returns-in-Some
returns-in-Some c =
    let xs = c.args.xs.now in let i = c.loop-x.x-index in let left = c.loop-x.left in let t = c.args.target in let x = get_or xs i blank in
    let r = c.filter-sends.result in let same : listed r ≡ filter (λ m. eqb m.target t) (listed x.sends) = c.filter-sends.ensures.list (λ m. eqb m.target t) (λ m b h. search rules) in
    let found : slice_get (listed r) left ≡ Some c.in-Some.m = sym c.get.ensures.value ∙ c.in-Some.is in
    let l : left < length (sent_in t x) = omega (arith, length_sent_in t x r same, slice_get_within (listed r) left c.in-Some.m found) in
    sym (nth_drop c.args.skip (channel c.args.target c.args.xs.now) ∙ sym c.loop-x.invariant ∙ search_here (sent_in t) xs i left blank c.loop-x-test.true l ∙ nth_sent_in t x r same left c.in-Some.m found)

pub loop-x-preserved : goal.loop-x-preserved
loop-x-preserved c =
    let xs = c.args.xs.now in let i = c.loop-x.x-index in let left = c.loop-x.left in let t = c.args.target in let x = get_or xs i blank in
    let r = c.filter-sends.result in let same : listed r ≡ filter (λ m. eqb m.target t) (listed x.sends) = c.filter-sends.ensures.list (λ m. eqb m.target t) (λ m b h. search rules) in
    let long : length (sent_in t x) ≡ c.len-left.result = length_sent_in t x r same ∙ sym c.len-left.ensures in
    sym (search_on (sent_in t) xs i left blank c.len-left.result c.loop-x-test.true long (omega (arith, c.len-left.ensures, c.get.ensures.none c.in_default.is))) ∙ c.loop-x.invariant

pub returns : goal.returns
returns c = sym (nth_drop c.args.skip (channel c.args.target c.args.xs.now) ∙ sym c.loop-x.invariant ∙ search_none (sent_in c.args.target) c.args.xs.now c.loop-x.x-index c.loop-x.left c.loop-x-test.false)
