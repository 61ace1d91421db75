-- One row changed, as the world of a host.
use Rattle.std.proofs.Common.{◌≡◌, ℕ, eqb, ◌⊎◌, sym, ap, ◌∙◌, inl, inr}
use Rattle.std.proofs.lemmas.Bool.{cases_eq, cond-true, cond-false, eq-eqb, ne_eqb}
use Rattle.rows.specs.Rows.{Held}
use Rattle.tables.specs.Tables.{Changed, row_of}
use Rattle.tables.specs.declared.table.Table.{Table}
use Rattle.histories.specs.World.{at}

module _ {t u : Table} {p : ℕ} {h : Held} (changed : Changed p h t u) where
  -- what is read off a row is changed at p alone
  pub field : {X : Type 0} (f : Held → X) (r : ℕ) → f (row_of u r) ≡ at (λ k. f (row_of t k)) p (f h) r
  field f r = go (cases_eq r p)
    where
      go : (r ≡ p) ⊎ (r ≡ p → ⊥) → f (row_of u r) ≡ at (λ k. f (row_of t k)) p (f h) r
      go (inl e) = ap (λ k. f (row_of u k)) e ∙ ap f changed.here ∙ sym (cond-true (eqb r p) (f h) (f (row_of t r)) (eq-eqb r p e))
      go (inr n) = ap f (changed.others r n) ∙ sym (cond-false (eqb r p) (f h) (f (row_of t r)) (ne_eqb r p n))

  -- and not at all where it stays at p
  pub kept : {X : Type 0} (f : Held → X) → f h ≡ f (row_of t p) → (r : ℕ) → f (row_of u r) ≡ f (row_of t r)
  kept f same r = go (cases_eq r p)
    where
      go : (r ≡ p) ⊎ (r ≡ p → ⊥) → f (row_of u r) ≡ f (row_of t r)
      go (inl e) = ap (λ k. f (row_of u k)) e ∙ ap f changed.here ∙ same ∙ ap (λ k. f (row_of t k)) (sym e)
      go (inr n) = ap f (changed.others r n)
