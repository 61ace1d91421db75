use Rattle.std.proofs.Common.{rules}
use Rattle.rows.specs.Rows.{all_saved}
use Rattle.recall.proofs.loading.save_all.Goals as goal

pub returns : goal.returns
returns c = c.change_rows.ensures (λ _ h. all_saved h) (λ p a b post. search rules)
