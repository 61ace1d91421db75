-- What each kind of record does to what is read.
use Rattle.std.proofs.Common.{◌≡◌, ℕ, eqb, List, [], ◌∷◌, ◌++◌, map, fold, sym, refl, ap, ◌∙◌, subst}
use Rattle.std.specs.List.{All}
use Rattle.std.proofs.lemmas.List.Elements.{All-head, All-tail}
use Rattle.std.proofs.lemmas.List.{append-nil, append_assoc}
use Rattle.std.proofs.lemmas.List.Sums.{fold-append}
use Rattle.std.proofs.lemmas.Bool.{eq-eqb, ne_eqb, cond-true, cond-false}
use Rattle.records.specs.declared.Interval.{Interval}
use Rattle.records.specs.declared.Record.{Record}
use Rattle.histories.specs.Effects.{interval_record}
use Rattle.histories.specs.Reading.{Image, noted, reading}
use Rattle.histories.specs.World.{at}

pub at_same : {X : Type 0} (f : ℕ → X) (p : ℕ) (y : X) → at f p y p ≡ y
at_same f p y = cond-true (eqb p p) y (f p) (eq-eqb p p refl)

pub at_other : {X : Type 0} (f : ℕ → X) (p : ℕ) (y : X) (r : ℕ) → (r ≡ p → ⊥) → at f p y r ≡ f r
at_other f p y r n = cond-false (eqb r p) y (f r) (ne_eqb r p n)

-- reading on from an image
abbrev pub reading_on : Image → List Record → Image
reading_on i rs = fold (λ j r. noted j r.content) i rs

pub reading_append : (rs ss : List Record) → reading (rs ++ ss) ≡ reading_on (reading rs) ss
reading_append rs ss = fold-append (λ i r. noted i r.content) (record { rows = λ p. []; checkpoints = λ p. [] }) rs ss

-- intervals of process p are added to its row, and to no other
pub rows_more : (i : Image) (p : ℕ) (xs : List Interval) → All (λ x. x.process ≡ p) xs → (reading_on i (map interval_record xs)).rows p ≡ i.rows p ++ xs
rows_more i p [] named = sym (append-nil (i.rows p))
rows_more i p (x ∷ xs) named =
    rows_more (noted i (interval_record x).content) p xs (All-tail (λ (y : Interval). y.process ≡ p) x xs named)
    ∙ ap (λ ys. ys ++ xs) (subst (λ q. at i.rows q (i.rows q ++ (x ∷ [])) p ≡ i.rows p ++ (x ∷ [])) (sym (All-head (λ (y : Interval). y.process ≡ p) x xs named)) (at_same i.rows p (i.rows p ++ (x ∷ []))))
    ∙ append_assoc (i.rows p) (x ∷ []) xs

pub rows_others : (i : Image) (p : ℕ) (xs : List Interval) → All (λ x. x.process ≡ p) xs → (r : ℕ) → (r ≡ p → ⊥) → (reading_on i (map interval_record xs)).rows r ≡ i.rows r
rows_others i p [] named r n = refl
rows_others i p (x ∷ xs) named r n =
    rows_others (noted i (interval_record x).content) p xs (All-tail (λ (y : Interval). y.process ≡ p) x xs named) r n
    ∙ subst (λ q. at i.rows q (i.rows q ++ (x ∷ [])) r ≡ i.rows r) (sym (All-head (λ (y : Interval). y.process ≡ p) x xs named)) (at_other i.rows p (i.rows p ++ (x ∷ [])) r n)

pub checkpoints_same : (i : Image) (xs : List Interval) (r : ℕ) → (reading_on i (map interval_record xs)).checkpoints r ≡ i.checkpoints r
checkpoints_same i [] r = refl
checkpoints_same i (x ∷ xs) r = checkpoints_same (noted i (interval_record x).content) xs r
