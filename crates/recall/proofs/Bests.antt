-- The highest checkpoint, index by index.
use Rattle.std.proofs.Common.{◌≡◌, ℕ, ◌+◌, ◌<◌, ◌≤◌, cond, eqb, ltb, leb, ◌⊎◌, List, [], ◌∷◌, get_or, Some, None, fold, filter, Option, sym, refl, ap, ◌∙◌, inl, inr, arith}
use Rattle.std.specs.Option.{option_or}
use Rattle.std.proofs.lemmas.Bool.{cases_lt, cases_order, cond-true, cond-false, cond_both, lt-ltb, le-ltb, le-leb, lt-leb, eq-eqb, ne_eqb}
use Rattle.recall.specs.Standing.{Holds, last_of, last_at, higher, highest}
use Rattle.recall.specs.declared.checkpoint.Found.{Found}

-- of those whose index is below n
abbrev pub below : ℕ → List Found → List Found
below n cs = filter (λ f. ltb f.index n) cs

abbrev pub best_below : ℕ → List Found → Option Found
best_below n cs = fold higher None (below n cs)

abbrev At : ℕ → Option Found → Type 0
At n None = Unit {0}
At n (Some f) = f.index ≡ n

abbrev Below : ℕ → Option Found → Type 0
Below n None = Unit {0}
Below n (Some f) = f.index < n

module _ (n : ℕ) (f : Found) where
  -- nothing is above n, so that one at n takes its place
  takes : f.index ≡ n → (a b : Option Found) → At n a → Below n b → higher (option_or a b) f ≡ Some f
  takes e None None s t = refl
  takes e None (Some b) s t = cond-true (leb b.index f.index) (Some f) (Some b) (le-leb b.index f.index (omega arith))
  takes e (Some a) b s t = cond-true (leb a.index f.index) (Some f) (Some a) (le-leb a.index f.index (omega arith))

  -- one below n does not take the place of one at n
  leaves : f.index < n → (a b : Option Found) → At n a → higher (option_or a b) f ≡ option_or a (higher b f)
  leaves h None b s = refl
  leaves h (Some a) b s = cond-false (leb a.index f.index) (Some f) (Some a) (lt-leb a.index f.index (omega arith))

  stays_below : f.index < n → (b : Option Found) → Below n b → Below n (higher b f)
  stays_below h None t = h
  stays_below h (Some b) t = cond_both (leb b.index f.index) (Some f) (Some b) (Below n) (λ _. h) (λ _. t)

  kept : (cs : List Found) → f.index < n → below n (f ∷ cs) ≡ f ∷ below n cs
  kept cs h = cond-true (ltb f.index n) (f ∷ below n cs) (below n cs) (lt-ltb f.index n h)

  passed : (cs : List Found) → n ≤ f.index → below n (f ∷ cs) ≡ below n cs
  passed cs h = cond-false (ltb f.index n) (f ∷ below n cs) (below n cs) (le-ltb f.index n h)

  is_last : (a : Option Found) → f.index ≡ n → last_of n a f ≡ Some f
  is_last a e = cond-true (eqb n f.index) (Some f) a (eq-eqb n f.index (sym e))

  not_last : (a : Option Found) → (n ≡ f.index → ⊥) → last_of n a f ≡ a
  not_last a d = cond-false (eqb n f.index) (Some f) a (ne_eqb n f.index d)

joins : (n : ℕ) (a b : Option Found) (cs : List Found) → At n a → Below n b → fold higher (option_or a b) (below (n + 1) cs) ≡ option_or (fold (last_of n) a cs) (fold higher b (below n cs))
joins n a b [] s t = refl
joins n a b (f ∷ cs) s t = go (λ x y. joins n x y cs) (cases_order f.index n)
  where
    go : ((x y : Option Found) → At n x → Below n y → fold higher (option_or x y) (below (n + 1) cs) ≡ option_or (fold (last_of n) x cs) (fold higher y (below n cs))) → (f.index ≡ n) ⊎ ((f.index < n) ⊎ (n < f.index)) → fold higher (option_or a b) (below (n + 1) (f ∷ cs)) ≡ option_or (fold (last_of n) (last_of n a f) cs) (fold higher b (below n (f ∷ cs)))
    go more (inl e) =
        ap (fold higher (option_or a b)) (kept (n + 1) f cs (omega arith))
        ∙ ap (λ o. fold higher o (below (n + 1) cs)) (takes n f e a b s t)
        ∙ more (Some f) b e t
        ∙ ap (λ l. option_or (fold (last_of n) l cs) (fold higher b (below n cs))) (sym (is_last n f a e))
        ∙ ap (λ fs. option_or (fold (last_of n) (last_of n a f) cs) (fold higher b fs)) (sym (passed n f cs (omega arith)))
    go more (inr (inl h)) =
        ap (fold higher (option_or a b)) (kept (n + 1) f cs (omega arith))
        ∙ ap (λ o. fold higher o (below (n + 1) cs)) (leaves n f h a b s)
        ∙ more a (higher b f) s (stays_below n f h b t)
        ∙ ap (λ l. option_or (fold (last_of n) l cs) (fold higher (higher b f) (below n cs))) (sym (not_last n f a (λ d. omega arith)))
        ∙ ap (λ fs. option_or (fold (last_of n) (last_of n a f) cs) (fold higher b fs)) (sym (kept n f cs h))
    go more (inr (inr h)) =
        ap (fold higher (option_or a b)) (passed (n + 1) f cs (omega arith))
        ∙ more a b s t
        ∙ ap (λ l. option_or (fold (last_of n) l cs) (fold higher b (below n cs))) (sym (not_last n f a (λ d. omega arith)))
        ∙ ap (λ fs. option_or (fold (last_of n) (last_of n a f) cs) (fold higher b fs)) (sym (passed n f cs (omega arith)))

pub best_none : (cs : List Found) → best_below 0 cs ≡ None
best_none [] = refl
best_none (f ∷ cs) = ap (fold higher None) (passed 0 f cs (omega arith)) ∙ best_none cs

-- the last of index n, if there is one, is higher than all below
pub best_more : (n : ℕ) (cs : List Found) → best_below (n + 1) cs ≡ option_or (last_at n cs) (best_below n cs)
best_more n cs = joins n None None cs tt tt

-- a turn of the loop over the slots
pub best_turn : (cs : List Found) (slots : List (Option Found)) (n : ℕ) (best new : Option Found) → n < 256 → Holds cs slots → best ≡ best_below n cs → new ≡ option_or (get_or slots n None) best → new ≡ best_below (n + 1) cs
best_turn cs slots n best new small holds is e =
    e ∙ ap (λ o. option_or o best) (holds n small) ∙ ap (option_or (last_at n cs)) is ∙ sym (best_more n cs)

pub best_all : (e : ℕ) (cs : List Found) → best_below (e + 1) cs ≡ highest e cs
best_all e cs = ap (fold higher None) (same cs)
  where
    test : (f : Found) → ltb f.index (e + 1) ≡ leb f.index e
    test f = go (cases_lt e f.index)
      where
        go : (e < f.index) ⊎ (f.index ≤ e) → ltb f.index (e + 1) ≡ leb f.index e
        go (inl h) = le-ltb f.index (e + 1) (omega arith) ∙ sym (lt-leb f.index e h)
        go (inr h) = lt-ltb f.index (e + 1) (omega arith) ∙ sym (le-leb f.index e h)

    same : (cs : List Found) → below (e + 1) cs ≡ filter (λ f. leb f.index e) cs
    same [] = refl
    same (f ∷ cs) = ap (λ b. cond b (f ∷ below (e + 1) cs) (below (e + 1) cs)) (test f) ∙ ap (λ fs. cond (leb f.index e) (f ∷ fs) fs) (same cs)
