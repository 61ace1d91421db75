use Rattle.std.proofs.Common.{vec_items, refl, subst, arith, rules}
use Rattle.runs.specs.Inside.{Frees}
use Rattle.runs.proofs.Channels.{frees}
use Rattle.runs.proofs.Moves.{moves}
use Rattle.runs.proofs.runner.Runner.move_first.Goals as goal

pub returns : goal.returns
returns g c =
    let free : Frees c.args.source c.args.target c.in-Some.at (vec_items c.args.self.now.waiting) =
    subst (Frees c.args.source c.args.target c.in-Some.at) c.as_slice.ensures.value
    (frees c.args.source c.args.target c.in-Some.at c.as_slice.result.now (search rules)) in
    moves (g.P.Program.means c.args.self.now.program) c.args.target c.args.source c.index.result.now.value c.args.self.now c.step.new.self (omega arith) c.in_ok-step.ensures
    c.in-Some.at _ free (search rules) refl refl refl (search rules)
