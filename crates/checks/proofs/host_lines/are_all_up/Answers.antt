use Rattle.std.proofs.Common.{◌≡◌, true, false, rules, tests, arith}
use Rattle.std.proofs.lemmas.Iterator.{cases_from_all, YieldsList-from_range}
use Rattle.tables.specs.Tables.{processes, row_of}
use Rattle.checks.proofs.Each.{all_up_is}
use Rattle.checks.proofs.host_lines.are_all_up.Goals as goal

pub returns : goal.returns
returns c =
    let t = c.args.table.now in
    all_up_is (processes t) (λ p. (row_of t p).up) c.all.result
    (cases_from_all _ _ c.all.result (λ p. (row_of t p).up ≡ true) (λ p. (row_of t p).up ≡ false) c.all.ensures.ran (YieldsList-from_range 0 (processes t) (processes t) (cc) (omega arith)) (λ p q k. search (rules, tests)) (λ p q k. search (rules, tests)))
