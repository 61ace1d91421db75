use Rattle.std.proofs.Common.{◌≡◌, ◌∙◌, map, sym, ap, arith, rules}
use Rattle.std.proofs.lemmas.Grind.{common_steps}
use Rattle.std.proofs.lemmas.List.{map_push}
use Rattle.recall.specs.Loaded.{readable, unread}
use Rattle.recall.proofs.Fetching.{unnumbered}
use Rattle.recall.proofs.Loads.{so_far_more, so_far_all}
use Rattle.recall.proofs.loading.load.Goals as goal

pub loop-record-preserved : goal.loop-record-preserved
loop-record-preserved g c =
    let before = c.loop-record.invariant in record {
      can = search rules;
      finite = search rules;
      left = grind (arith, common_steps, before.left, c.in-Some.ensures.steps);
      noted = rw map_push (so_far_more _ _ _ _ _ before.noted c.note.ensures);
    }

pub returns : goal.returns
returns g c =
    let m = g.S.Store.means c.args.store.now in
    let before = c.loop-record.invariant in
    let all : unread m 0 ≡ c.loop-record.yielded = grind (arith, common_steps, before.left, c.in-None.ensures.steps) in
    so_far_all m _ _ _ _ c.clear_all.ensures (rw (sym (ap (map (λ x. x.1)) all) ∙ unnumbered 1 (readable m)) at before.noted) c.save_all.ensures
