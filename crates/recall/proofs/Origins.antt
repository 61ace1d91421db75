-- The checkpoints that stand, with and without the numbers of their records.
use Rattle.std.proofs.Common.{◌≡◌, ℕ, ◌+◌, Bool, true, false, cond, eqb, leb, ◌⊎◌, List, [], ◌∷◌, ◌++◌, map, get_or, Some, None, fold, filter, Option, sym, refl, ap, ◌∙◌, inl, inr}
use Rattle.std.proofs.Math.Dec.{leb-zero}
use Rattle.std.specs.List.{enumerate_from}
use Rattle.std.proofs.lemmas.List.{map_push}
use Rattle.std.proofs.lemmas.Bool.{cases_eq, cond-true, cond-false, eq-eqb, ne_eqb}
use Rattle.programs.specs.Program.{Meaning}
use Rattle.programs.specs.declared.values.State.{State}
use Rattle.records.specs.declared.Checkpoint.{Checkpoint}
use Rattle.records.specs.declared.Content.{Content}
use Rattle.records.specs.declared.Content.TheVariants as content
use Rattle.records.specs.declared.Record.{Record}
use Rattle.histories.specs.Reading.{Image, noted, reading}
use Rattle.recall.specs.Standing.{numbered, marked, marked_next, standing, higher, highest, origin_within, begins}
use Rattle.recall.specs.declared.checkpoint.Found.{Found}

-- without the number
abbrev pub checkpoint_of : ℕ → Found → Checkpoint
checkpoint_of p f = record { process = p; index = f.index; state = f.state }

kept_map : {X Y : Type 0} (f : X → Y) (test : Y → Bool) (xs : List X) → map f (filter (λ x. test (f x)) xs) ≡ filter test (map f xs)
kept_map f test [] = refl
kept_map {X} {Y} f test (x ∷ xs) = go (kept_map f test xs) (test (f x))
  where
    go : map f (filter (λ x. test (f x)) xs) ≡ filter test (map f xs) → (b : Bool) → map f (cond b (x ∷ filter (λ x. test (f x)) xs) (filter (λ x. test (f x)) xs)) ≡ cond b (f x ∷ filter test (map f xs)) (filter test (map f xs))
    go more true = ap (λ ys. f x ∷ ys) more
    go more false = more

module _ (p : ℕ) where
  -- one record more
  marks_as : (n : ℕ) (cs : List Found) (i : Image) (k : Content) → map (checkpoint_of p) cs ≡ i.checkpoints p → map (checkpoint_of p) (marked p n cs k) ≡ (noted i k).checkpoints p
  marks_as n cs i (content.Interval x) e = e
  marks_as n cs i (content.Line entries) e = kept_map (checkpoint_of p) (λ c. leb c.index (get_or entries p 0)) cs ∙ ap (filter (λ c. leb c.index (get_or entries p 0))) e
  marks_as n cs i (content.Checkpoint c) e = go (cases_eq p c.process)
    where
      go : (p ≡ c.process) ⊎ (p ≡ c.process → ⊥) → map (checkpoint_of p) (marked p n cs (content.Checkpoint c)) ≡ (noted i (content.Checkpoint c)).checkpoints p
      go (inl s) =
          ap (map (checkpoint_of p)) (cond-true (eqb p c.process) (cs ++ (numbered n c ∷ [])) cs (eq-eqb p c.process s))
          ∙ map_push (checkpoint_of p) cs (numbered n c)
          ∙ ap (λ xs. xs ++ (checkpoint_of p (numbered n c) ∷ [])) e
          ∙ ap (λ q. i.checkpoints q ++ (checkpoint_of q (numbered n c) ∷ [])) s
          ∙ sym (cond-true (eqb p c.process) (i.checkpoints c.process ++ (c ∷ [])) (i.checkpoints p) (eq-eqb p c.process s))
      go (inr d) =
          ap (map (checkpoint_of p)) (cond-false (eqb p c.process) (cs ++ (numbered n c ∷ [])) cs (ne_eqb p c.process d))
          ∙ e ∙ sym (cond-false (eqb p c.process) (i.checkpoints c.process ++ (c ∷ [])) (i.checkpoints p) (ne_eqb p c.process d))

  stands_from : (n : ℕ) (cs : List Found) (i : Image) (rs : List Record) → map (checkpoint_of p) cs ≡ i.checkpoints p → map (checkpoint_of p) (fold (marked_next p) cs (enumerate_from n rs)) ≡ (fold (λ i r. noted i r.content) i rs).checkpoints p
  stands_from n cs i [] e = e
  stands_from n cs i (r ∷ rs) e = stands_from (n + 1) (marked p n cs r.content) (noted i r.content) rs (marks_as n cs i r.content e)

  stands_as : (rs : List Record) → map (checkpoint_of p) (standing p rs) ≡ (reading rs).checkpoints p
  stands_as rs = stands_from 1 [] (record { rows = λ p. []; checkpoints = λ p. [] }) rs refl

-- what is picked of the checkpoints alone
module _ (M : Meaning) (p : ℕ) where
  abbrev pick : ℕ × State → Checkpoint → ℕ × State
  pick best c = cond (leb best.0 c.index) (c.index, c.state) best

  picks : (o : Option Found) (f : Found) → pick (begins M p o) (checkpoint_of p f) ≡ begins M p (higher o f)
  picks None f = cond-true (leb 0 f.index) (f.index, f.state) (0, M.start p) (leb-zero f.index)
  picks (Some b) f = go (leb b.index f.index)
    where
      go : (t : Bool) → cond {A = ℕ × State} t (f.index, f.state) (b.index, b.state) ≡ begins M p (cond t (Some f) (Some b))
      go true = refl
      go false = refl

  picks_all : (o : Option Found) (fs : List Found) → fold pick (begins M p o) (map (checkpoint_of p) fs) ≡ begins M p (fold higher o fs)
  picks_all o [] = refl
  picks_all o (f ∷ fs) = ap (λ b. fold pick b (map (checkpoint_of p) fs)) (picks o f) ∙ picks_all (higher o f) fs

  pub origin_is : (entry : ℕ) (rs : List Record) → origin_within M p entry ((reading rs).checkpoints p) ≡ begins M p (highest entry (standing p rs))
  origin_is entry rs =
      ap (origin_within M p entry) (sym (stands_as p rs))
      ∙ ap (fold pick (0, M.start p)) (sym (kept_map (checkpoint_of p) (λ c. leb c.index entry) (standing p rs)))
      ∙ picks_all None (filter (λ f. leb f.index entry) (standing p rs))
