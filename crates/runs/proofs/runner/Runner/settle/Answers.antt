use Rattle.std.proofs.Common.{◌≡◌, ◌+◌, ◌<◌, [], ◌∷◌, ◌++◌, get_or, vec_items, vec_len, sym, refl, ap, ◌∙◌, arith, rules}
use Rattle.std.proofs.lemmas.List.{length_push}
use Rattle.std.proofs.lemmas.Bool.{eqb-true, eqb-false}
use Rattle.std.proofs.lemmas.Result.{err_from_is_err_and}
use Rattle.runs.specs.Run.{moved}
use Rattle.runs.proofs.Settling.{delivered_none, delivered_more, quiet_none, still_waits, settles_refused}
use Rattle.runs.proofs.runner.Runner.settle.Goals as goal

pub loop-init : goal.loop-init
loop-init g c = ([], (delivered_none (g.P.Program.means c.args.self.now.program) c.args.self.now, refl))

pub returns-in_default : goal.returns-in_default
returns-in_default g c =
    let none : vec_len c.loop.self.waiting ≡ 0 = search rules in
    (c.loop.invariant.0, (c.loop.invariant.1.0, omega (arith, c.loop.invariant.1.1), quiet_none c.loop.self none))

pub returns-in_err-move_first : goal.returns-in_err-move_first
returns-in_err-move_first g c =
    let some : 0 < vec_len c.loop.self.waiting = search rules in
    let first : c.in-Some.oldest ≡ get_or (vec_items c.loop.self.waiting) 0 c.in-Some.oldest = search rules in
    let p = err_from_is_err_and c.from_residual.result c.from_residual.ensures.1 in
    rw (p.1, p.2)
    (settles_refused g.P.Program.means c.args.limit c.loop.invariant.0 c.args.self.now c.loop.self c.move_first.new.self c.in-Some.oldest c.loop.invariant.1.0
    (omega (arith, c.loop.invariant.1.1)) some first c.in_err-move_first.field-0.0 c.in_err-move_first.ensures)

pub loop-preserved : goal.loop-preserved
loop-preserved g c =
    let ms = c.loop.invariant.0 in
    let m = moved c.in-Some.oldest.source c.in-Some.oldest.target c.in_ok-move_first.field-0 in (
      ms ++ m ∷ [],
      (
        delivered_more g.P.Program.means c.in-Some.oldest.source c.in-Some.oldest.target c.in_ok-move_first.field-0 ms c.args.self.now c.loop.self c.move_first.new.self c.loop.invariant.1.0 c.in_ok-move_first.ensures,
        length_push ms m ∙ ap (λ n. n + 1) c.loop.invariant.1.1,
      ),
    )

pub returns-then-is_empty : goal.returns-then-is_empty
returns-then-is_empty g c =
    (c.loop.invariant.0, (c.loop.invariant.1.0, omega (arith, c.loop.invariant.1.1), quiet_none c.loop.self (eqb-true (vec_len c.loop.self.waiting) 0 (sym c.if-is_empty.ensures))))

pub returns-else-is_empty : goal.returns-else-is_empty
returns-else-is_empty g c =
    (c.loop.invariant.0, (c.loop.invariant.1.0, omega (arith, c.loop.invariant.1.1), still_waits c.loop.self (eqb-false (vec_len c.loop.self.waiting) 0 (sym c.if-is_empty.ensures))))
