use Rattle.days.proofs.Splits.{no_split, numbers}
use Rattle.days.proofs.entry.read_order.Goals as goal

pub returns-in_err-number : goal.returns-in_err-number
returns-in_err-number c = rw c.from_residual.ensures (no_split c.args.text.now c.split_once.result c.split_once.ensures.cases c.in_err-number.was)

pub returns-in_err-read_number : goal.returns-in_err-read_number
returns-in_err-read_number c =
    rw c.from_residual-in_err-read_number.ensures
    (λ o s. c.in_err-read_number.ensures o.number (numbers c.args.text.now c.split_once.result c.split_once.ensures.cases _ c.in_ok-number.was o s).0)

pub returns-in_err-read_number-2 : goal.returns-in_err-read_number-2
returns-in_err-read_number-2 c =
    rw c.from_residual-in_err-read_number-2.ensures
    (λ o s. c.in_err-read_number-2.ensures o.quantity (numbers c.args.text.now c.split_once.result c.split_once.ensures.cases _ c.in_ok-number.was o s).1)
