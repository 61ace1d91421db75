use Rattle.std.proofs.Common.{◌≡◌, sym, ap, ◌∙◌, rules}
use Rattle.recall.specs.Loaded.{readable}
use Rattle.recall.specs.Standing.{highest, standing, begins}
use Rattle.recall.proofs.Origins.{origin_is}
use Rattle.recall.proofs.Slots.{holds_none}
use Rattle.recall.proofs.checkpoint.find_checkpoint.Goals as goal

pub loop-number-init : goal.loop-number-init
loop-number-init g c = record { can = search rules; finite = search rules; left = cc; holds = holds_none }

pub returns-clause-begins : goal.returns-clause-begins
returns-clause-begins g c M =
    let rs = readable (g.S.Store.means c.args.store.now) in let p = c.args.process in let entry = c.args.entry in
    let value : c.highest.result ≡ highest entry (standing p rs) = search rules in
    origin_is M p entry rs ∙ ap (begins M p) (sym value)
