-- A test on each process, by what a search through them answers.
use Rattle.std.proofs.Common.{◌≡◌, ℕ, ◌<◌, ◌≤◌, Bool, true, false, List, length, get_or, refl, sym, ◌∙◌, subst, arith}
use Rattle.std.specs.Bool.{MatchBool}
use Rattle.std.specs.List.{AllWithin, HoldsAt, range_with_len}
use Rattle.std.proofs.lemmas.List.FromFn.{get_or-range_with_len, length-range_with_len}
use Rattle.std.proofs.lemmas.Bool.{true≢false}
use Rattle.lines.specs.Lines.{Line}
use Rattle.histories.specs.Tests.{some_above, all_up}
use Rattle.histories.proofs.Each.{below_line, none_above, each_up, every_up}

-- the first N processes
abbrev firsts : ℕ → List ℕ
firsts N = range_with_len 0 N

nth_first : (N k : ℕ) → k < N → get_or (firsts N) k 0 ≡ k
nth_first N k h = get_or-range_with_len 0 N k 0 h ∙ omega arith

pub all_up_is : (N : ℕ) (up : ℕ → Bool) (b : Bool) →
    MatchBool b (AllWithin (λ p. up p ≡ true) (firsts N) 0 (length (firsts N))) ((k : ℕ) × (k < length (firsts N)) × HoldsAt (λ p. up p ≡ false) (firsts N) k) → b ≡ all_up N up
all_up_is N up true each = sym (every_up N up (λ p h. subst (λ q. up q ≡ true) (nth_first N p h) (each p 0 (omega arith) (omega (arith, length-range_with_len 0 N)))))
all_up_is N up false one = go (all_up N up) refl
  where
    there : one.0 < N
    there = omega (arith, one.1, length-range_with_len 0 N)

    go : (s : Bool) → all_up N up ≡ s → false ≡ s
    go false e = refl
    go true e = absurd (true≢false (sym (each_up N up e one.0 there) ∙ subst (λ q. up q ≡ false) (nth_first N one.0 there) (one.2 0)))

pub some_above_is : (N : ℕ) (saved L : Line) (b : Bool) → (b ≡ false → (p : ℕ) → p < N → saved p ≤ L p) → (((p : ℕ) → p < N → saved p ≤ L p) → b ≡ false) → b ≡ some_above N saved L
some_above_is N saved L false below none = sym (none_above N saved L (below refl))
some_above_is N saved L true below none = go (some_above N saved L) refl
  where
    go : (s : Bool) → some_above N saved L ≡ s → true ≡ s
    go true e = refl
    go false e = absurd (true≢false (none (below_line N saved L e)))
