use Rattle.std.proofs.Common.{refl}
use Rattle.histories.proofs.Theorem.{every_history}
use Rattle.histories.proofs.histories_stand.Goals as goal

pub returns : goal.returns
returns c = record {
  theorem = every_history;
  scripts = record {
    order = refl;
    arguments = refl;
    states = refl;
    full_row = refl;
    full_store = refl;
    replay = refl;
    none_kept = refl;
    one_kept = refl;
    before_line = refl;
    line_kept = refl;
    line_dropped = refl;
    no_room = refl;
    full_recovery = refl;
    shown_again = refl;
    no_orphan = refl;
    mark_cut = refl;
    just_above = refl;
  };
}
