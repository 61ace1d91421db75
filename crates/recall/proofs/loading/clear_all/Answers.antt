use Rattle.std.proofs.Common.{rules}
use Rattle.recall.specs.Loaded.{emptied}
use Rattle.recall.proofs.loading.clear_all.Goals as goal

pub returns : goal.returns
returns c = c.change_rows.ensures (λ _ h. emptied h) (λ p a b post. search rules)
