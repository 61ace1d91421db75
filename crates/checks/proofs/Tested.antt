-- What a list of tests makes of a call, by the first that holds or by none.
use Rattle.std.proofs.Common.{◌≡◌, false, List, [], ◌∷◌, refl, ap, ◌∙◌, inl, inr}
use Rattle.std.specs.List.{AllByRecursion}
use Rattle.histories.specs.Calls as calls
use Rattle.histories.specs.Calls.{refused}
use Rattle.histories.specs.Effects.{After}
use Rattle.histories.specs.Rules.{tested}
use Rattle.histories.specs.Tests.{Test}
use Rattle.histories.specs.World.{World}
use Rattle.checks.specs.Checks.{First}

module _ (w : World) (next : After) where
  pub passes : (ts : List Test) → AllByRecursion (λ t. t.0 ≡ false) ts → tested ts w next ≡ next
  passes [] all = refl
  passes (t ∷ ts) all = ap (λ b. tested ((b, t.1) ∷ ts) w next) all.0 ∙ passes ts all.1

  pub stops : (ts : List Test) (r : calls.Refusal) → First ts r → tested ts w next ≡ (refused r, w)
  stops [] r none = absurd none
  stops (t ∷ ts) r (inl e) = ap (λ b. tested ((b, t.1) ∷ ts) w next) e.0 ∙ ap (λ s. (refused s, w)) e.1
  stops (t ∷ ts) r (inr e) = ap (λ b. tested ((b, t.1) ∷ ts) w next) e.0 ∙ stops ts r e.1
