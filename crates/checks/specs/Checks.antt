-- What a check of a call answers: the first of its tests that holds, or that none does.
use Rattle.std.specs.Prelude.{◌≡◌, true, false, ◌⊎◌, List, [], ◌∷◌, Ok, Err, Result}
use Rattle.std.specs.List.{AllByRecursion}
use Rattle.histories.specs.Calls as calls
use Rattle.histories.specs.Tests.{Test}
use Rattle.checks.specs.Refusals.{refusal}
use Rattle.checks.specs.declared.refusal.Refusal.{Refusal}

-- the first test that holds refuses with r
abbrev pub First : List Test → calls.Refusal → Type 0
First [] r = ⊥
First (t ∷ ts) r = ((t.0 ≡ true) × (t.1 ≡ r)) ⊎ ((t.0 ≡ false) × First ts r)

-- let through, with an x of which Q holds, exactly where no test holds; by recursion, since by index the proofs of the checks,
-- whose lists are written out, didn't close
abbrev pub Checked : {T : Type 0} → List Test → (T → Type 0) → Result T Refusal → Type 0
Checked ts Q (Ok x) = AllByRecursion (λ t. t.0 ≡ false) ts × Q x
Checked ts Q (Err e) = First ts (refusal e)
