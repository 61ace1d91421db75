-- A number holds no space, so an order's text splits in one way.
use Rattle.std.proofs.Common.{◌≡◌, ℕ, ◌-◌, ◌<◌, ◌⊎◌, List, ◌∷◌, ◌++◌, length, get_or, drop, Some, None, Option, sym, ap, ◌∙◌, subst, inl, inr, arith, lit<, Bor}
use Rattle.std.specs.Str.Parse.{AllDigits}
use Rattle.std.proofs.lemmas.List.{get_or-drop, length-drop}
use Rattle.std.proofs.lemmas.Str.Parse.{digit_at, without_leading_plus_none, without_leading_plus_plus}
use Rattle.std.proofs.lemmas.Str.Pattern.{IsSplitOnceResult, split_after, split_parts}
use Rattle.std.proofs.lemmas.Option.{MatchOption-at_some, MatchOption-at_none}
use Rattle.std.proofs.lemmas.Bool.{cases_eq}
use Rattle.programs.specs.declared.orders.Order.{Order}
use Rattle.days.specs.Entry.{Number, Spells}

no_space : (text : List ℕ) (n : ℕ) → Number text n → (i : ℕ) → i < length text → get_or text i 0 ≡ 32 → ⊥
no_space text n number i h e = go (cases_eq (get_or text 0 0) 43)
  where
    go : (get_or text 0 0 ≡ 43) ⊎ (get_or text 0 0 ≡ 43 → ⊥) → ⊥
    go (inr plain) = let d = digit_at text i (subst (AllDigits 10) (without_leading_plus_none text plain) number.0.1) h in omega arith
    go (inl plus) = after (cases_eq i 0)
      where
        after : (i ≡ 0) ⊎ (i ≡ 0 → ⊥) → ⊥
        after (inl z) = let first = ap (λ k. get_or text k 0) z in omega arith
        after (inr some) =
            let within : i - 1 < length (drop 1 text) = simp length-drop (omega arith) in
            let d = digit_at (drop 1 text) (i - 1) (subst (AllDigits 10) (without_leading_plus_plus text plus) number.0.1) within in
            let same : get_or (drop 1 text) (i - 1) 0 ≡ get_or text i 0 = get_or-drop 1 text (i - 1) 0 ∙ ap (λ k. get_or text k 0) (omega arith) in
            omega arith

module _ (text : List ℕ) (r : Option (Bor (List ℕ) × Bor (List ℕ))) (split : IsSplitOnceResult 32 text r) where
  pub no_split : r ≡ None → (o : Order) → Spells text o → ⊥
  no_split e o s = MatchOption-at_none ⊥ (λ x. (x.0.now ≡ s.0) × (x.1.now ≡ s.1.0)) e
      (split_after 32 text s.0 s.1.0 r split (lit< tt) s.1.1.0 (no_space s.0 o.number s.1.1.1))

  module _ (x : Bor (List ℕ) × Bor (List ℕ)) (is : r ≡ Some x) where
    -- what the text spells stands before and behind its first space
    pub numbers : (o : Order) → Spells text o → Number x.0.now o.number × Number x.1.now o.quantity
    numbers o s =
        let parts = MatchOption-at_some ⊥ (λ y. (y.0.now ≡ s.0) × (y.1.now ≡ s.1.0)) x is
        (split_after 32 text s.0 s.1.0 r split (lit< tt) s.1.1.0 (no_space s.0 o.number s.1.1.1)) in
        (subst (λ t. Number t o.number) (sym parts.0) s.1.1.1, subst (λ t. Number t o.quantity) (sym parts.1) s.1.1.2)

    pub spells : (o : Order) → Number x.0.now o.number → Number x.1.now o.quantity → Spells text o
    spells o m n =
        let parts = MatchOption-at_some ((i : ℕ) → i < length text → get_or text i 0 ≡ 32 → ⊥)
        (λ y. (text ≡ y.0.now ++ (32 ∷ y.1.now)) × ((i : ℕ) → i < length y.0.now → get_or y.0.now i 0 ≡ 32 → ⊥)) x is (split_parts 32 text r split (lit< tt)) in
        (x.0.now, (x.1.now, (parts.0, m, n)))
