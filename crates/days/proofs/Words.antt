-- A line begins with one of the two words, and says one thing.
use Rattle.std.proofs.Common.{◌≡◌, ℕ, List, ◌++◌, Err, codes, sym, ◌∙◌, subst, arith}
use Rattle.std.proofs.lemmas.List.{append_cancel_left}
use Rattle.programs.specs.declared.orders.Order.{Order}
use Rattle.days.specs.Entry.{Number, Spells, Says, Reads}
use Rattle.days.specs.declared.entry.BadLine.TheVariants.{BadNumber}
use Rattle.days.specs.declared.entry.Entry.{Entry}
use Rattle.days.specs.declared.entry.Entry.TheVariants.{Stock, Placed}

apart : (line text rest : List ℕ) → line ≡ codes "stock " ++ text → line ≡ codes "order " ++ rest → ⊥
apart line text rest e f = let z : ◌≡◌ {A = ℕ} 115 111 = cc in omega arith

module _ (line text : List ℕ) where
  pub no_stock : line ≡ codes "stock " ++ text → ((n : ℕ) → Number text n → ⊥) → Reads line (Err BadNumber)
  no_stock e none = ((λ lacks. lacks.0 text e), says)
    where
      says : (entry : Entry) → Says line entry → ⊥
      says (Stock n) s = none n (subst (λ t. Number t n) (sym (append_cancel_left (codes "stock ") text s.0 (sym e ∙ s.1.0))) s.1.1)
      says (Placed o) s = apart line text s.0 e s.1.0

  pub no_order : line ≡ codes "order " ++ text → ((o : Order) → Spells text o → ⊥) → Reads line (Err BadNumber)
  no_order e none = ((λ lacks. lacks.1 text e), says)
    where
      says : (entry : Entry) → Says line entry → ⊥
      says (Stock n) s = apart line s.0 text s.1.0 e
      says (Placed o) s = none o (subst (λ t. Spells t o) (sym (append_cancel_left (codes "order ") text s.0 (sym e ∙ s.1.0))) s.1.1)
