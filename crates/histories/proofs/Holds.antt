-- What holds of a host at every moment of a history, with F all that could still be remembered and K a line that lasts.
use Rattle.std.proofs.Common.{◌≡◌, ℕ, ◌+◌, ◌<◌, ◌≤◌, true, false, ◌⊎◌, List, [], ◌∷◌, length, take, sym, ap, ◌∙◌, subst, inl, inr, arith}
use Rattle.std.specs.List.{All}
use Rattle.std.proofs.lemmas.List.Elements.{All-push}
use Rattle.std.proofs.lemmas.List.{take-append-le, length_push}
use Rattle.std.proofs.lemmas.Bool.{cases_eq}
use Rattle.programs.specs.Program.{Meaning}
use Rattle.records.specs.declared.Interval.{Interval}
use Rattle.stores.specs.Meaning as store
use Rattle.lines.specs.Built.{Given, Grows, Built}
use Rattle.lines.specs.Intervals.{Family, play}
use Rattle.lines.specs.Lines.{Line, Backed, Consistent}
use Rattle.lines.proofs.Indexes.{From, from_push, grows_each}
use Rattle.histories.specs.Reading.{reading}
use Rattle.histories.specs.World.{World}
use Rattle.histories.proofs.Fronts.{Front, front_more, front_length}
use Rattle.histories.proofs.Remembered.{Remembered}

-- What speaks of states hangs on S, the states are those played, and what speaks of runs on R too, a run made the records.

-- what holds of all that could be remembered
pub record FamilyHolds (S R : Type 0) (M : Meaning) (N : ℕ) (given : Given) (K : Line) (F : Family) : Type 0 where
  pub short : (p : ℕ) → length (F p) ≤ 96
  pub named : (p : ℕ) → All (λ x. x.process ≡ p) (F p)
  pub indexed : (p : ℕ) → From 0 (F p)
  pub idle : (p : ℕ) → N ≤ p → F p ≡ []
  pub consistent : Consistent N F K
  pub built : S → R → Built M N given F

-- what holds of a host's rows
pub record RowsHold (S : Type 0) (M : Meaning) (N : ℕ) (F : Family) (w : World) : Type 0 where
  pub fronts : (p : ℕ) → Front (w.intervals p) (F p)
  pub whole : (p : ℕ) → w.up p ≡ true → w.intervals p ≡ F p
  pub bounded : (p : ℕ) → w.saved p ≤ length (w.intervals p)
  pub downs : (p : ℕ) → w.up p ≡ false → w.saved p ≡ length (w.intervals p)
  pub present : (p : ℕ) → w.up p ≡ true → p < N
  pub states : S → (p : ℕ) → w.up p ≡ true → w.state p ≡ play M p (w.intervals p)
  pub none : w.dark ≡ true → (p : ℕ) → w.intervals p ≡ []
  pub lying : w.dark ≡ true → (p : ℕ) → w.up p ≡ false

-- what holds of its store
pub record StoreHolds (S : Type 0) (M : Meaning) (N : ℕ) (K : Line) (F : Family) (m : store.Meaning) : Type 0 where
  pub safe : m.safe ≤ store.count m
  pub lives : m.alive ≡ true → m.safe ≡ store.count m
  pub remembered : Remembered S M N F K m.records m.safe

pub record Holds (S R : Type 0) (M : Meaning) (N : ℕ) (given : Given) (K : Line) (w : World) (F : Family) : Type 0 where
  pub family : FamilyHolds S R M N given K F
  pub rows : RowsHold S M N F w
  pub stored : StoreHolds S M N K F w.store
  pub standing : w.dark ≡ false → w.store.alive ≡ true
  pub read : w.dark ≡ false → (p : ℕ) → (reading w.store.records).rows p ≡ take (w.saved p) (w.intervals p)

-- the line's intervals are as they were
abbrev pub Lasts : ℕ → Line → Family → Family → Type 0
Lasts N K F G = (p : ℕ) → p < N → take (K p) (G p) ≡ take (K p) (F p)

-- a world after a call
pub record Next (S R : Type 0) (M : Meaning) (N : ℕ) (given : Given) (K : Line) (F : Family) (v : World) : Type 0 where
  pub later : Family
  pub holds : Holds S R M N given K v later
  pub lasts : Lasts N K F later

module _ (S : Type 0) (M : Meaning) (N : ℕ) (K : Line) where
  -- K is within what is remembered, so within F
  pub low : {F : Family} (m : store.Meaning) → StoreHolds S M N K F m → (p : ℕ) → p < N → K p ≤ length (F p)
  low {F} m s p h =
      let kept = s.remembered (store.count m) s.safe (omega arith) in
      omega (arith, kept.above p h, front_length ((reading (take (store.count m) m.records)).rows p) (F p) (kept.fronts p))

  module _ {F G : Family} {p : ℕ} {x : Interval} (grows : Grows F p x G) where
    grown_front : (xs : List Interval) (r : ℕ) → Front xs (F r) → Front xs (G r)
    grown_front xs r f = go (cases_eq r p)
      where
        go : (r ≡ p) ⊎ (r ≡ p → ⊥) → Front xs (G r)
        go (inl e) = subst (λ ys. Front xs ys) (sym (ap G e ∙ grows.here)) (front_more xs (F p) (x ∷ []) (subst (λ k. Front xs (F k)) e f))
        go (inr n) = subst (λ ys. Front xs ys) (sym (grows.others r n)) f

    pub grown_lasts : ((r : ℕ) → r < N → K r ≤ length (F r)) → Lasts N K F G
    grown_lasts below r h = go (cases_eq r p)
      where
        go : (r ≡ p) ⊎ (r ≡ p → ⊥) → take (K r) (G r) ≡ take (K r) (F r)
        go (inl e) = ap (λ k. take (K r) (G k)) e ∙ ap (take (K r)) grows.here ∙ take-append-le (K r) (F p) (x ∷ []) (subst (λ k. K r ≤ length (F k)) e (below r h)) ∙ ap (λ k. take (K r) (F k)) (sym e)
        go (inr n) = ap (take (K r)) (grows.others r n)

    pub grown_store : (m : store.Meaning) → StoreHolds S M N K F m → StoreHolds S M N K G m
    grown_store m s = record {
      safe = s.safe;
      lives = s.lives;
      remembered = λ k a b. let kept = s.remembered k a b in record {
        fronts = λ r. grown_front _ r (kept.fronts r);
        above = kept.above;
        checks = kept.checks;
      };
    }

    pub grown_family : {R : Type 0} {given wider : Given} → FamilyHolds S R M N given K F → ((r : ℕ) → r < N → K r ≤ length (F r)) → p < N → length (F p) < 96 → x.process ≡ p → x.index ≡ length (F p) + 1 → (S → R → Built M N wider G) → FamilyHolds S R M N wider K G
    grown_family f below exists room named index built = record {
      short = grows_each (λ r xs. length xs ≤ 96) grows f.short (simp length_push (omega arith));
      named = grows_each (λ r xs. All (λ y. y.process ≡ r) xs) grows f.named (All-push (λ y. y.process ≡ p) (F p) x (f.named p) named);
      indexed = grows_each (λ r xs. From 0 xs) grows f.indexed (from_push 0 (F p) x (f.indexed p) (omega arith));
      idle = λ r h. grows.others r (λ e. omega arith) ∙ f.idle r h;
      consistent = λ r h. subst (All (Backed N K)) (sym (grown_lasts below r h)) (f.consistent r h);
      built = built;
    }
