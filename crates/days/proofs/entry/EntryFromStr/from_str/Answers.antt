use Rattle.std.proofs.Common.{◌≡◌, ◌++◌, None, codes, sym, ap, ◌∙◌}
use Rattle.std.proofs.lemmas.Result.{err_from_is_err_and}
use Rattle.days.specs.declared.entry.BadLine.TheVariants.{BadNumber}
use Rattle.days.proofs.Words.{no_order}
use Rattle.days.proofs.entry.EntryFromStr.from_str.Goals as goal

pub returns-in_err-order : goal.returns-in_err-order
returns-in_err-order c =
    let front = c.in-Some-strip_prefix.ensures.cases in
    let none : c.read_order.result ≡ None = c.in_err-order.ensures.ok_part in
    let why = rw none at c.in_err-order.ensures.value in
    let bad : c.in_err-order.field-0.0 ≡ BadNumber = cc in
    let p = err_from_is_err_and c.from_residual-in_err-order.result c.from_residual-in_err-order.ensures.1 in
    rw (p.1, p.2, bad) (no_order c.args.line.now c.in-Some-strip_prefix.text.now (front.1.1 ∙ ap (λ t. codes "order " ++ t) (sym front.2)) (rw none at c.read_order.ensures))
