use Rattle.std.proofs.Common.{◌≡◌, ◌+◌, ◌<◌, None, sym, ap, ◌∙◌, arith}
use Rattle.std.proofs.lemmas.List.{length-take-le, get_or-take}
use Rattle.std.specs.Option.{option_or}
use Rattle.recall.proofs.Bests.{best_below, best_none, best_turn, best_all}
use Rattle.recall.proofs.checkpoint.highest.Goals as goal

pub loop-slot-init : goal.loop-slot-init
loop-slot-init c cs holds = sym (best_none cs)

pub loop-slot-preserved : goal.loop-slot-preserved
loop-slot-preserved c cs holds =
    let n = c.args.entry + 1 in let slots = c.args.slots.now in
    let at : c.loop-slot.slot-index < n = omega (arith, length-take-le n slots (omega arith)) in
    best_turn cs c.args.slots.now c.loop-slot.slot-index c.loop-slot.best _ (omega arith) holds (c.loop-slot.invariant cs holds) (c.or-best.ensures ∙ ap (λ slot. option_or slot c.loop-slot.best) (get_or-take n slots c.loop-slot.slot-index None at))

pub returns : goal.returns
returns c cs holds =
    let end : c.loop-slot.slot-index ≡ c.args.entry + 1 = omega (arith, length-take-le (c.args.entry + 1) c.args.slots.now (omega arith)) in
    c.loop-slot.invariant cs holds ∙ ap (λ n. best_below n cs) end ∙ best_all c.args.entry cs
