-- What every reading of the store's records keeps, however many of them stand.
use Rattle.std.proofs.Common.{◌≡◌, ℕ, ◌-◌, ◌<◌, ◌≤◌, Bool, true, false, cond, leb, ◌⊎◌, List, [], ◌∷◌, ◌++◌, map, length, get_or, take, filter, sym, refl, ap, ◌∙◌, subst, inl, inr, arith}
use Rattle.std.specs.List.{All}
use Rattle.std.proofs.lemmas.List.Elements.{All-nil, All-cons, All-head, All-tail, All-weaker, All-push}
use Rattle.std.proofs.lemmas.List.{take-append-le, take-take, take_all, length-append, length-take}
use Rattle.std.proofs.lemmas.Bool.{cases_eq, leb-true}
use Rattle.programs.specs.Program.{Meaning}
use Rattle.records.specs.declared.Checkpoint.{Checkpoint}
use Rattle.records.specs.declared.Content.TheVariants as content
use Rattle.records.specs.declared.Interval.{Interval}
use Rattle.records.specs.declared.Record.{Record}
use Rattle.lines.specs.Intervals.{Family, play}
use Rattle.lines.specs.Lines.{Line}
use Rattle.histories.specs.Effects.{interval_record}
use Rattle.histories.specs.Reading.{Image, noted, reading, PlayedFront}
use Rattle.histories.specs.World.{at}
use Rattle.histories.proofs.Fronts.{Front, front_taken, front_via, take_past, take_within}
use Rattle.histories.proofs.Images.{at_same, at_other, reading_on, rows_more, rows_others, checkpoints_same}

good_longer : (M : Meaning) (p : ℕ) (xs zs : List Interval) (c : Checkpoint) → PlayedFront M p xs c → PlayedFront M p (xs ++ zs) c
good_longer M p xs zs c g = (omega (arith, g.0, length-append xs zs), g.1 ∙ ap (play M p) (sym (take-append-le c.index xs zs g.0)))

-- a fact of each row lasts where a row grows
rows_each : (P : ℕ → List Interval → Type 0) (i : Image) (p : ℕ) (zs : List Interval) → All (λ x. x.process ≡ p) zs → P p (i.rows p ++ zs) → ((r : ℕ) → P r (i.rows r)) →
    (r : ℕ) → P r ((reading_on i (map interval_record zs)).rows r)
rows_each P i p zs named here there r = go (cases_eq r p)
  where
    go : (r ≡ p) ⊎ (r ≡ p → ⊥) → P r ((reading_on i (map interval_record zs)).rows r)
    go (inl e) = subst (λ k. P k ((reading_on i (map interval_record zs)).rows k)) (sym e) (subst (P p) (sym (rows_more i p zs named)) here)
    go (inr n) = subst (P r) (sym (rows_others i p zs named r n)) (there r)

-- S: the states in the records are those played; only the checkpoints hang on it
module _ (S : Type 0) (M : Meaning) (N : ℕ) (F : Family) (K : Line) where
  pub record Kept (i : Image) : Type 0 where
    pub fronts : (p : ℕ) → Front (i.rows p) (F p)
    pub above : (p : ℕ) → p < N → K p ≤ length (i.rows p)
    pub checks : S → (p : ℕ) → All (PlayedFront M p (i.rows p)) (i.checkpoints p)

  abbrev pub Remembered : List Record → ℕ → Type 0
  Remembered rs safe = (k : ℕ) → safe ≤ k → k ≤ length rs → Kept (reading (take k rs))

  -- all of it is one of its readings
  pub kept_whole : (rs : List Record) (safe : ℕ) → safe ≤ length rs → Remembered rs safe → Kept (reading rs)
  kept_whole rs safe h r = subst (λ xs. Kept (reading xs)) (take_all (length rs) rs (omega arith)) (r (length rs) h (omega arith))

  pub kept_intervals : (i : Image) (p : ℕ) (zs : List Interval) → All (λ x. x.process ≡ p) zs → Front (i.rows p ++ zs) (F p) → Kept i → Kept (reading_on i (map interval_record zs))
  kept_intervals i p zs named front kept = record {
    fronts = rows_each (λ r xs. Front xs (F r)) i p zs named front kept.fronts;
    above = rows_each (λ r xs. r < N → K r ≤ length xs) i p zs named (λ h. omega (arith, kept.above p h, length-append (i.rows p) zs)) kept.above;
    checks = λ v r. subst (All (PlayedFront M r ((reading_on i (map interval_record zs)).rows r))) (sym (checkpoints_same i zs r))
        (rows_each (λ k xs. All (PlayedFront M k xs) (i.checkpoints k)) i p zs named
        (All-weaker (PlayedFront M p (i.rows p)) (PlayedFront M p (i.rows p ++ zs)) (good_longer M p (i.rows p) zs) (i.checkpoints p) (kept.checks v p)) (kept.checks v) r);
  }

  pub kept_checkpoint : (i : Image) (c : Checkpoint) → (S → PlayedFront M c.process (i.rows c.process) c) → Kept i → Kept (noted i (content.Checkpoint c))
  kept_checkpoint i c good kept = record {
    fronts = kept.fronts;
    above = kept.above;
    checks = λ v r. go v r (cases_eq r c.process);
  }
    where
      go : S → (r : ℕ) → (r ≡ c.process) ⊎ (r ≡ c.process → ⊥) → All (PlayedFront M r (i.rows r)) (at i.checkpoints c.process (i.checkpoints c.process ++ (c ∷ [])) r)
      go v r (inr n) = subst (All (PlayedFront M r (i.rows r))) (sym (at_other i.checkpoints c.process (i.checkpoints c.process ++ (c ∷ [])) r n)) (kept.checks v r)
      go v r (inl e) =
          subst (λ k. All (PlayedFront M k (i.rows k)) (at i.checkpoints c.process (i.checkpoints c.process ++ (c ∷ [])) k)) (sym e)
          (subst (All (PlayedFront M c.process (i.rows c.process))) (sym (at_same i.checkpoints c.process (i.checkpoints c.process ++ (c ∷ []))))
          (All-push (PlayedFront M c.process (i.rows c.process)) (i.checkpoints c.process) c (kept.checks v c.process) (good v)))

  pub kept_line : (i : Image) (entries : List ℕ) → ((p : ℕ) → p < N → K p ≤ get_or entries p 0) → Kept i → Kept (noted i (content.Line entries))
  kept_line i entries low kept = record {
    fronts = λ p. front_via (take (get_or entries p 0) (i.rows p)) (i.rows p) (F p) (front_taken (get_or entries p 0) (i.rows p)) (kept.fronts p);
    above = λ p h. let a = low p h in let b = kept.above p h in simp length-take (omega arith);
    checks = λ v p. cut p (i.checkpoints p) (kept.checks v p);
  }
    where
      cut : (p : ℕ) (cs : List Checkpoint) → All (PlayedFront M p (i.rows p)) cs → All (PlayedFront M p (take (get_or entries p 0) (i.rows p))) (filter (λ c. leb c.index (get_or entries p 0)) cs)
      cut p [] all = All-nil (PlayedFront M p (take (get_or entries p 0) (i.rows p)))
      cut p (c ∷ cs) all = here (leb c.index (get_or entries p 0)) refl (cut p cs (All-tail (PlayedFront M p (i.rows p)) c cs all))
        where
          here : (b : Bool) → leb c.index (get_or entries p 0) ≡ b → All (PlayedFront M p (take (get_or entries p 0) (i.rows p))) (filter (λ c. leb c.index (get_or entries p 0)) cs) →
              All (PlayedFront M p (take (get_or entries p 0) (i.rows p))) (cond b (c ∷ filter (λ c. leb c.index (get_or entries p 0)) cs) (filter (λ c. leb c.index (get_or entries p 0)) cs))
          here false e rest = rest
          here true e rest =
              let low : c.index ≤ get_or entries p 0 = leb-true c.index (get_or entries p 0) e in
              let first = All-head (PlayedFront M p (i.rows p)) c cs all in
              All-cons (PlayedFront M p (take (get_or entries p 0) (i.rows p))) c (filter (λ c. leb c.index (get_or entries p 0)) cs)
              (simp length-take (omega (arith, first.0)), first.1 ∙ ap (play M p) (sym (take-take c.index (get_or entries p 0) (i.rows p) low))) rest

  -- a write of which every first part keeps what is remembered
  pub remembered_write : (rs ws : List Record) (safe : ℕ) → length rs ≤ safe → ((j : ℕ) → Kept (reading (rs ++ take j ws))) → (j : ℕ) → Remembered (rs ++ take j ws) safe
  remembered_write rs ws safe h good j k low high =
      let n = take_within (k - length rs) j ws in
      subst (λ xs. Kept (reading xs)) (sym (take_past k rs (take j ws) (omega arith) ∙ ap (λ ys. rs ++ ys) n.1)) (good n.0)
