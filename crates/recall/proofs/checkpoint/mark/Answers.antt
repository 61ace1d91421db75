use Rattle.std.proofs.Common.{cond, leb, get_or, set, Some, None, sym, ap, ◌∙◌, subst, arith}
use Rattle.recall.specs.Standing.{Holds, marked, numbered}
use Rattle.recall.proofs.Slots.{holds_own, holds_kept}
use Rattle.recall.proofs.checkpoint.mark.Goals as goal

pub returns-then-c-process : goal.returns-then-c-process
returns-then-c-process c cs holds =
    let p = c.args.process in let n = c.args.number in let slots = c.args.slots.now in let mark = c.in-Checkpoint.c in
    subst (λ k. Holds (marked p n cs k) (set slots mark.index (Some (numbered n mark)))) (sym c.in-Checkpoint.is)
    (holds_own p n mark slots c.told-slots (omega arith) (sym c.if-c-process.true) cs holds)

pub returns-in-Line : goal.returns-in-Line
returns-in-Line c cs holds =
    let p = c.args.process in let slots = c.args.slots.now in let left = c.drop_above.new.slots in let entry = get_or c.in-Line.entries p 0 in
    subst (λ k. Holds (marked p c.args.number cs k) left) (sym c.in-Line.is)
    (holds_kept cs slots left entry (λ k. c.drop_above.ensures k ∙ ap (λ e. cond (leb k e) (get_or slots k None) None) c.entry.ensures) holds)
