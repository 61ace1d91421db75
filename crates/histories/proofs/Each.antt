-- A test on each process, and what its answer says of all of them.
use Rattle.std.proofs.Common.{◌≡◌, ℕ, zero, suc, ◌<◌, ◌≤◌, Bool, true, false, ltb, ◌⊎◌, refl, sym, subst, inl, inr, arith}
use Rattle.std.proofs.lemmas.Bool.{cases_lt, or_parts, or_from, and_parts, and_from, ltb-false, le-ltb}
use Rattle.lines.specs.Lines.{Line}
use Rattle.histories.specs.Tests.{some_above, all_up}

pub below_line : (N : ℕ) (saved L : Line) → some_above N saved L ≡ false → (p : ℕ) → p < N → saved p ≤ L p
below_line zero saved L e p h = absurd (omega arith)
below_line (suc N) saved L e p h = go (λ k. below_line N saved L both.0 p k) (cases_lt p N)
  where
    both : (some_above N saved L ≡ false) × (ltb (L N) (saved N) ≡ false)
    both = or_parts (some_above N saved L) (ltb (L N) (saved N)) e

    go : (p < N → saved p ≤ L p) → (p < N) ⊎ (N ≤ p) → saved p ≤ L p
    go before (inl k) = before k
    go before (inr k) = let same : p ≡ N = omega arith in subst (λ r. saved r ≤ L r) (sym same) (ltb-false (L N) (saved N) both.1)

pub none_above : (N : ℕ) (saved L : Line) → ((p : ℕ) → p < N → saved p ≤ L p) → some_above N saved L ≡ false
none_above zero saved L below = refl
none_above (suc N) saved L below = or_from (some_above N saved L) (ltb (L N) (saved N)) (none_above N saved L (λ p h. below p (omega arith))) (le-ltb (L N) (saved N) (below N (omega arith)))

pub each_up : (N : ℕ) (up : ℕ → Bool) → all_up N up ≡ true → (p : ℕ) → p < N → up p ≡ true
each_up zero up e p h = absurd (omega arith)
each_up (suc N) up e p h = go (λ k. each_up N up (and_parts (all_up N up) (up N) e).0 p k) (cases_lt p N)
  where
    go : (p < N → up p ≡ true) → (p < N) ⊎ (N ≤ p) → up p ≡ true
    go before (inl k) = before k
    go before (inr k) = let same : p ≡ N = omega arith in subst (λ r. up r ≡ true) (sym same) (and_parts (all_up N up) (up N) e).1

pub every_up : (N : ℕ) (up : ℕ → Bool) → ((p : ℕ) → p < N → up p ≡ true) → all_up N up ≡ true
every_up zero up each = refl
every_up (suc N) up each = and_from (all_up N up) (up N) (every_up N up (λ p h. each p (omega arith))) (each N (omega arith))
