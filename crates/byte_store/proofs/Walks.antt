-- Which frames stand.
use Rattle.std.proofs.Common.{◌≡◌, ℕ, zero, suc, ◌+◌, ◌-◌, ◌<◌, ◌≤◌, ◌⊎◌, true, false, leb, List, [], ◌∷◌, length, get_or, take, drop, ap, ◌∙◌, inl, inr, ⊎_elim, arith, take-add}
use Rattle.std.specs.List.{flat_map}
use Rattle.std.proofs.lemmas.List.{length-append, length-drop, length-take-le, get_or-take, get_or-drop}
use Rattle.std.specs.List.Sorted.{IsNonDecreasingBy, IsPartitionPoint}
use Rattle.std.proofs.lemmas.List.Sorted.{IsNonDecreasingBy-from_default}
use Rattle.std.proofs.lemmas.Bool.{cases_lt, leb-true, leb-false}
use Rattle.std.proofs.lemmas.Grind.{flat_map-append, common_steps}
use Rattle.std.proofs.lemmas.Bool.Decides.{nat_tests}
use Rattle.records.specs.declared.Record.{Record}
use Rattle.frames.specs.Frames.{framed}
use Rattle.byte_store.specs.Journals.{Exact, standing}

-- the frames from the s-th on
pub span : (s k : ℕ) (L : List Record) → length (flat_map framed (take (s + k) L)) ≡ length (flat_map framed (take s L)) + length (flat_map framed (take k (drop s L)))
span s k L =
    ap (λ xs. length (flat_map framed xs)) (take-add s k L) ∙ ap length (flat_map-append framed (take s L) (take k (drop s L)))
    ∙ length-append (flat_map framed (take s L)) (flat_map framed (take k (drop s L)))

-- k frames stand where they end within j bytes and the next does not
pub standing_is : (j : ℕ) (us : List Record) (k : ℕ) → k ≤ length us → length (flat_map framed (take k us)) ≤ j → (k ≡ length us) ⊎ (j < length (flat_map framed (take (k + 1) us))) → standing j us ≡ k
standing_is j [] k h fits next = omega arith
standing_is j (x ∷ xs) zero h fits next =
    grind (arith, common_steps, nat_tests, length-append (framed x) [])
standing_is j (x ∷ xs) (suc k) h fits next =
    let one : suc k + 1 ≡ suc (k + 1) = omega arith in
    let more = ap (λ m. length (flat_map framed (take m (x ∷ xs)))) one in
    let rest : length (framed x) ≤ j → standing (j - length (framed x)) xs ≡ k = λ l.
    standing_is (j - length (framed x)) xs k (omega arith) (omega (arith, length-append (framed x) (flat_map framed (take k xs))))
    (⊎_elim (λ all. inl (omega arith)) (λ past. inr (omega (arith, length-append (framed x) (flat_map framed (take (k + 1) xs))))) next) in
    grind (arith, common_steps, nat_tests, rest, length-append (framed x) (flat_map framed (take k xs)))

-- the places behind the safe frames, less the place where the safe ones end
module _ {bs ends : List ℕ} {n : ℕ} {rs : List Record} (h : Exact bs ends n rs) (safe : ℕ) (few : safe ≤ n) (long : n < length ends) where
  abbrev from : ℕ
  from = get_or ends safe 0

  abbrev others : List ℕ
  others = take ((n + 1) - (safe + 1)) (drop (safe + 1) ends)

  length_others : length others ≡ n - safe
  length_others = length-take-le ((n + 1) - (safe + 1)) (drop (safe + 1) ends) (omega (arith, length-drop (safe + 1) ends)) ∙ omega arith

  behind : (i : ℕ) → i < n - safe → get_or others i 0 - from ≡ length (flat_map framed (take (i + 1) (drop safe rs)))
  behind i l =
      let place = get_or-take ((n + 1) - (safe + 1)) (drop (safe + 1) ends) i 0 (omega arith) ∙ get_or-drop (safe + 1) ends i 0 in
      let same : (safe + 1) + i ≡ safe + (i + 1) = omega arith in
      let end = ap (λ k. get_or ends k 0) same ∙ h.places (safe + (i + 1)) (omega arith) ∙ span safe (i + 1) rs in
      omega (arith, h.places safe few)

  pub rises : IsNonDecreasingBy (λ y. y - from) others
  rises =
      IsNonDecreasingBy-from_default (λ y. y - from) others 0
      (λ i j l below.
      let split : j + 1 ≡ (i + 1) + (j - i) = omega arith in
      let more = ap (λ k. length (flat_map framed (take k (drop safe rs)))) split ∙ span (i + 1) (j - i) (drop safe rs) in
      omega (arith, length_others, behind i (omega (arith, length_others)), behind j (omega (arith, length_others))))

  -- the first r of them are within j bytes, and no other is
  pub stood : (j r : ℕ) → r ≤ length others → IsPartitionPoint (λ y. leb (y - from) j ≡ true) (λ y. leb (y - from) j ≡ false) others r → standing j (drop safe rs) ≡ r
  stood j r within point =
      let left = length-drop safe rs in
      standing_is j (drop safe rs) r (omega (arith, h.number, length_others))
      (⊎_elim
      (λ some.
      let last : (r - 1) + 1 ≡ r = omega arith in
      let same = ap (λ k. length (flat_map framed (take k (drop safe rs)))) last in
      let inside = leb-true _ _ (point.0 (r - 1) 0 (omega arith) (omega arith)) in
      omega (arith, length_others, behind (r - 1) (omega (arith, length_others))))
      (λ none.
      let z : r ≡ 0 = omega arith in
      let nil : length (flat_map framed (take r (drop safe rs))) ≡ 0 = ap (λ m. length (flat_map framed (take m (drop safe rs)))) z in
      omega arith)
      (cases_lt 0 r))
      (⊎_elim
      (λ more.
      let outside = leb-false _ _ (point.1 r 0 (omega arith) more) in
      inr (omega (arith, length_others, behind r (omega (arith, length_others)))))
      (λ all. inl (omega (arith, length_others, h.number)))
      (cases_lt r (length others)))
