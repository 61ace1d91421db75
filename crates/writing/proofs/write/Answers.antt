use Rattle.std.proofs.Common.{◌≡◌, ◌+◌, ◌++◌, List, [], map, drop, sym, ap, ◌∙◌}
use Rattle.std.proofs.lemmas.List.{at_drop_more, at_drop_all}
use Rattle.std.proofs.lemmas.Result.{err_from_is_err_and}
use Rattle.records.specs.declared.Interval.{Interval}
use Rattle.rows.proofs.Finding.{blank}
use Rattle.histories.specs.Effects.{interval_record, written}
use Rattle.stores.specs.Calls.{synced}
use Rattle.writing.specs.Writing.{last_record}
use Rattle.writing.proofs.Written.{then_ok, then_err}
use Rattle.writing.proofs.write.Goals as goal
use Rattle.writing.proofs.write.Goals.{in-Some+in_ok-append-2, in_default}

pub returns-in_err-append : goal.returns-in_err-append
returns-in_err-append g c =
    let xs = c.args.xs.now in let i = c.loop-x.x-index in let m = g.S.Store.means c.loop-x.store in
    let p = err_from_is_err_and c.from_residual.result c.from_residual.ensures.1 in
    rw (p.1, p.2) (sym (sym c.loop-x.invariant ∙ at_drop_more (λ (ys : List Interval). written (map interval_record ys ++ last_record c.args.last) m) xs i blank c.loop-x-test.true
    ∙ then_err (written (map interval_record (drop (i + 1) xs) ++ last_record c.args.last)) c.in_err-append.ensures))

pub loop-x-preserved : goal.loop-x-preserved
loop-x-preserved g c =
    let xs = c.args.xs.now in let i = c.loop-x.x-index in let m = g.S.Store.means c.loop-x.store in
    sym (at_drop_more (λ (ys : List Interval). written (map interval_record ys ++ last_record c.args.last) m) xs i blank c.loop-x-test.true
    ∙ then_ok (written (map interval_record (drop (i + 1) xs) ++ last_record c.args.last)) c.in_ok-append.ensures) ∙ c.loop-x.invariant

pub returns-in_err-append-2 : goal.returns-in_err-append-2
returns-in_err-append-2 g c =
    let m = g.S.Store.means c.loop-x.store in
    let p = err_from_is_err_and c.from_residual-in_err-append-2.result c.from_residual-in_err-append-2.ensures.1 in
    rw (p.1, p.2) (sym (sym c.loop-x.invariant
    ∙ at_drop_all (λ (ys : List Interval). written (map interval_record ys ++ last_record c.args.last) m) c.args.xs.now c.loop-x.x-index c.loop-x-test.false
    ∙ ap (λ x. written (last_record x) m) c.in-Some.is ∙ then_err (written []) c.in_err-append-2.ensures))

pub returns : goal.returns
returns g c =
    let m = g.S.Store.means c.loop-x.store in
    let before = at_drop_all (λ (ys : List Interval). written (map interval_record ys ++ last_record c.args.last) m) c.args.xs.now c.loop-x.x-index c.loop-x-test.false in
    let behind : written (last_record c.args.last) m ≡ synced (g.S.Store.means c.match-last.store) = elim c.match-last.branch [
      | in-Some+in_ok-append-2 w ↦ ap (λ x. written (last_record x) m) w.in-Some.is ∙ then_ok (written []) w.in_ok-append-2.ensures ∙ ap (λ s. synced (g.S.Store.means s)) (sym w.store-is)
      | in_default w ↦ ap (λ x. written (last_record x) m) w.in_default.is ∙ ap (λ s. synced (g.S.Store.means s)) (sym w.store-is)
    ] in
    c.sync.ensures ∙ sym behind ∙ sym before ∙ c.loop-x.invariant
