-- Slots that hold the last checkpoint of each index.
use Rattle.std.proofs.Common.{◌≡◌, ℕ, ◌<◌, ◌≤◌, cond, eqb, leb, ◌⊎◌, List, [], ◌∷◌, ◌++◌, length, get_or, set, replicate, Some, None, fold, filter, Option, sym, refl, ap, ◌∙◌, subst, inl, inr, arith}
use Rattle.std.proofs.lemmas.List.{get_or-replicate, get_or-set_same, get_or-set_other}
use Rattle.std.proofs.lemmas.List.Sums.{fold_push}
use Rattle.std.proofs.lemmas.Bool.{cases_lt, cases_eq, cond-true, cond-false, le-leb, lt-leb, eq-eqb, ne_eqb}
use Rattle.records.specs.declared.Checkpoint.{Checkpoint}
use Rattle.records.specs.declared.Content.TheVariants as content
use Rattle.recall.specs.Standing.{Holds, last_of, last_at, marked, numbered}
use Rattle.recall.specs.declared.checkpoint.Found.{Found}

pub holds_none : Holds [] (replicate 256 None)
holds_none k h = get_or-replicate 256 k None None h

pub holds_push : (cs : List Found) (slots : List (Option Found)) (f : Found) → length slots ≡ 256 → f.index < 256 → Holds cs slots → Holds (cs ++ (f ∷ [])) (set slots f.index (Some f))
holds_push cs slots f long small holds k h = go (cases_eq k f.index) ∙ sym (fold_push (last_of k) None cs f)
  where
    go : (k ≡ f.index) ⊎ (k ≡ f.index → ⊥) → get_or (set slots f.index (Some f)) k None ≡ last_of k (last_at k cs) f
    go (inl e) =
        ap (λ j. get_or (set slots f.index (Some f)) j None) e ∙ get_or-set_same slots f.index (Some f) None (omega arith)
        ∙ sym (cond-true (eqb k f.index) (Some f) (last_at k cs) (eq-eqb k f.index e))
    go (inr n) = get_or-set_other slots f.index k (Some f) None n ∙ holds k h ∙ sym (cond-false (eqb k f.index) (Some f) (last_at k cs) (ne_eqb k f.index n))

-- of an index at or below the entry all stay, of one above it none
module _ (k e : ℕ) where
  below_stay : k ≤ e → (l : Option Found) (cs : List Found) → fold (last_of k) l (filter (λ f. leb f.index e) cs) ≡ fold (last_of k) l cs
  below_stay h l [] = refl
  below_stay h l (f ∷ cs) = go (λ m. below_stay h m cs) (cases_lt e f.index)
    where
      go : ((m : Option Found) → fold (last_of k) m (filter (λ f. leb f.index e) cs) ≡ fold (last_of k) m cs) → (e < f.index) ⊎ (f.index ≤ e) → fold (last_of k) l (filter (λ f. leb f.index e) (f ∷ cs)) ≡ fold (last_of k) (last_of k l f) cs
      go more (inl a) =
          ap (fold (last_of k) l) (cond-false (leb f.index e) (f ∷ filter (λ f. leb f.index e) cs) (filter (λ f. leb f.index e) cs) (lt-leb f.index e a))
          ∙ more l ∙ ap (λ m. fold (last_of k) m cs) (sym (cond-false (eqb k f.index) (Some f) l (ne_eqb k f.index (λ s. omega arith))))
      go more (inr a) =
          ap (fold (last_of k) l) (cond-true (leb f.index e) (f ∷ filter (λ f. leb f.index e) cs) (filter (λ f. leb f.index e) cs) (le-leb f.index e a))
          ∙ more (last_of k l f)

  above_go : e < k → (l : Option Found) (cs : List Found) → fold (last_of k) l (filter (λ f. leb f.index e) cs) ≡ l
  above_go h l [] = refl
  above_go h l (f ∷ cs) = go (λ m. above_go h m cs) (cases_lt e f.index)
    where
      go : ((m : Option Found) → fold (last_of k) m (filter (λ f. leb f.index e) cs) ≡ m) → (e < f.index) ⊎ (f.index ≤ e) → fold (last_of k) l (filter (λ f. leb f.index e) (f ∷ cs)) ≡ l
      go more (inl a) =
          ap (fold (last_of k) l) (cond-false (leb f.index e) (f ∷ filter (λ f. leb f.index e) cs) (filter (λ f. leb f.index e) cs) (lt-leb f.index e a))
          ∙ more l
      go more (inr a) =
          ap (fold (last_of k) l) (cond-true (leb f.index e) (f ∷ filter (λ f. leb f.index e) cs) (filter (λ f. leb f.index e) cs) (le-leb f.index e a))
          ∙ more (last_of k l f) ∙ cond-false (eqb k f.index) (Some f) l (ne_eqb k f.index (λ s. omega arith))

pub holds_kept : (cs : List Found) (slots left : List (Option Found)) (e : ℕ) → ((k : ℕ) → get_or left k None ≡ cond (leb k e) (get_or slots k None) None) → Holds cs slots → Holds (filter (λ f. leb f.index e) cs) left
holds_kept cs slots left e is holds k h = is k ∙ go (cases_lt e k)
  where
    go : (e < k) ⊎ (k ≤ e) → cond (leb k e) (get_or slots k None) None ≡ last_at k (filter (λ f. leb f.index e) cs)
    go (inl l) = cond-false (leb k e) (get_or slots k None) None (lt-leb k e l) ∙ sym (above_go k e l None cs)
    go (inr l) = cond-true (leb k e) (get_or slots k None) None (le-leb k e l) ∙ holds k h ∙ sym (below_stay k e l None cs)

-- a checkpoint of the process, put into its slot
module _ (p n : ℕ) (c : Checkpoint) (slots : List (Option Found)) where
  pub holds_own : length slots ≡ 256 → c.index < 256 → p ≡ c.process → (cs : List Found) → Holds cs slots → Holds (marked p n cs (content.Checkpoint c)) (set slots c.index (Some (numbered n c)))
  holds_own long small own cs holds =
      subst (λ fs. Holds fs (set slots c.index (Some (numbered n c)))) (sym (cond-true (eqb p c.process) (cs ++ (numbered n c ∷ [])) cs (eq-eqb p c.process own)))
      (holds_push cs slots (numbered n c) long small holds)
