-- A list of intervals that begins another.
use Rattle.std.proofs.Common.{◌≡◌, ℕ, zero, suc, ◌-◌, ◌<◌, ◌≤◌, ◌⊎◌, List, [], ◌∷◌, ◌++◌, length, take, drop, sym, refl, ap, ◌∙◌, inl, inr, arith}
use Rattle.std.proofs.lemmas.List.{append-nil, append_assoc, take-append-drop, take-append-le, take_all, take-take, length-append, length-take}
use Rattle.std.proofs.lemmas.Bool.{cases_lt}

abbrev pub Front : {X : Type 0} → List X → List X → Type 0
Front {X} xs ys = (rest : List X) × (ys ≡ xs ++ rest)

module _ {X : Type 0} where
  pub front_self : (xs : List X) → Front xs xs
  front_self xs = ([], sym (append-nil xs))

  pub front_none : (ys : List X) → Front [] ys
  front_none ys = (ys, refl)

  pub front_taken : (n : ℕ) (xs : List X) → Front (take n xs) xs
  front_taken n xs = (drop n xs, sym (take-append-drop n xs))

  pub front_more : (xs ys zs : List X) → Front xs ys → Front xs (ys ++ zs)
  front_more xs ys zs f = (f.0 ++ zs, ap (λ l. l ++ zs) f.1 ∙ append_assoc xs f.0 zs)

  pub front_via : (xs ys zs : List X) → Front xs ys → Front ys zs → Front xs zs
  front_via xs ys zs f g = (f.0 ++ g.0, g.1 ∙ ap (λ l. l ++ g.0) f.1 ∙ append_assoc xs f.0 g.0)

  pub front_length : (xs ys : List X) → Front xs ys → length xs ≤ length ys
  front_length xs ys f = omega (arith, ap length f.1, length-append xs f.0)

  pub front_take : (n : ℕ) (xs ys : List X) → Front xs ys → n ≤ length xs → take n ys ≡ take n xs
  front_take n xs ys f h = ap (take n) f.1 ∙ take-append-le n xs f.0 h

  -- a front is what its length takes
  pub front_is : (xs ys : List X) → Front xs ys → xs ≡ take (length xs) ys
  front_is xs ys f = sym (take_all (length xs) xs (omega arith)) ∙ sym (front_take (length xs) xs ys f (omega arith))

  pub front_cut : (n : ℕ) (xs ys : List X) → Front xs ys → length xs ≤ n → Front xs (take n ys)
  front_cut n xs ys f h =
      let is : xs ≡ take (length xs) (take n ys) = front_is xs ys f ∙ sym (take-take (length xs) n ys h) in
      (drop (length xs) (take n ys), sym (take-append-drop (length xs) (take n ys)) ∙ ap (λ l. l ++ drop (length xs) (take n ys)) (sym is))

  -- fronts of one list, each within the other's reach, are taken alike
  pub taken_front : (n m : ℕ) (xs : List X) → n ≤ m → Front (take n xs) (take m xs)
  taken_front n m xs h = (drop n (take m xs), sym (take-append-drop n (take m xs)) ∙ ap (λ l. l ++ drop n (take m xs)) (take-take n m xs h))

  pub take_past : (k : ℕ) (xs ys : List X) → length xs ≤ k → take k (xs ++ ys) ≡ xs ++ take (k - length xs) ys
  take_past k [] ys h = ap (λ n. take n ys) (omega arith)
  take_past zero (x ∷ xs) ys h = absurd (omega arith)
  take_past (suc k) (x ∷ xs) ys h = ap (λ l. x ∷ l) (take_past k xs ys (omega arith) ∙ ap (λ n. xs ++ take n ys) (omega arith))

  -- a first part of a first part is a first part
  pub take_within : (i j : ℕ) (xs : List X) → (n : ℕ) × (take i (take j xs) ≡ take n xs)
  take_within i j xs = go (cases_lt j i)
    where
      go : (j < i) ⊎ (i ≤ j) → (n : ℕ) × (take i (take j xs) ≡ take n xs)
      go (inl h) = (j, take_all i (take j xs) (omega (arith, length-take j xs)))
      go (inr h) = (i, take-take i j xs h)
