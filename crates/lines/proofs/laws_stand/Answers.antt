use Rattle.lines.proofs.Cut.{built_cut}
use Rattle.lines.proofs.Greatest.{greatest_is_greatest, greatest_unique}
use Rattle.lines.proofs.Played.{run_recorded}
use Rattle.lines.proofs.Vectors.{covers_consistent, consistent_covers}
use Rattle.lines.proofs.laws_stand.Goals as goal

pub returns : goal.returns
returns c = record {
  exists = greatest_is_greatest;
  unique = greatest_unique;
  cut = λ M N given F L built. built_cut built L;
  run = λ M N given F few built. run_recorded few built;
  vectors = λ M N given F L few built rows. (consistent_covers built few L, covers_consistent built few L);
}
