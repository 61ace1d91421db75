-- Calls that do not recover keep what holds.
use Rattle.std.proofs.Common.{◌≡◌, ℕ, ◌+◌, ◌<◌, ◌≤◌, Bool, true, false, ◌⊎◌, List, [], ◌∷◌, ◌++◌, map, length, take, drop, sym, refl, ap, ◌∙◌, subst, inl, inr, arith}
use Rattle.std.specs.List.{All}
use Rattle.std.proofs.lemmas.List.Elements.{All-take, All-drop}
use Rattle.std.proofs.lemmas.List.{append_assoc, take-append-le, take-take, take_all, take-map, length_push, length-take, length-map, take-append-drop, length-append}
use Rattle.std.proofs.lemmas.List.Sums.{fold_push}
use Rattle.std.proofs.lemmas.Bool.{cases_eq, cases_lt, true≢false}
use Rattle.programs.specs.Program.{Meaning}
use Rattle.records.specs.declared.Interval.{Interval}
use Rattle.records.specs.declared.Record.{Record}
use Rattle.stores.specs.Calls.{Outcome}
use Rattle.stores.specs.Meaning as store
use Rattle.lines.specs.Built.{Given, Grows, Built}
use Rattle.lines.specs.Intervals.{Family, play}
use Rattle.lines.specs.Lines.{Line}
use Rattle.histories.specs.Calls.{accepted}
use Rattle.histories.specs.Effects.{After, began, crashed, finished, written, interval_record, checkpoint_record, all_saved, saving, marking}
use Rattle.histories.specs.Reading.{noted, reading, PlayedFront}
use Rattle.histories.specs.Tests.{unsaved}
use Rattle.histories.specs.World.{World, at, darkened}
use Rattle.histories.proofs.Fronts.{Front, front_self, front_none, front_via, front_taken}
use Rattle.histories.proofs.Holds.{FamilyHolds, StoreHolds, Holds, Next, low, grown_lasts, grown_store, grown_family}
use Rattle.histories.proofs.Images.{at_same, at_other, reading_on, reading_append, rows_more, rows_others}
use Rattle.histories.proofs.Remembered.{Kept, Remembered, kept_whole, kept_intervals, kept_checkpoint, remembered_write}
use Rattle.histories.proofs.Writing.{Wrote, done, died, wrote}

pub at_each : {X : Type 0} (P : ℕ → X → Type 0) (f : ℕ → X) (p : ℕ) (y : X) → P p y → ((r : ℕ) → (r ≡ p → ⊥) → P r (f r)) → (r : ℕ) → P r (at f p y r)
at_each P f p y here there r = go (cases_eq r p)
  where
    go : (r ≡ p) ⊎ (r ≡ p → ⊥) → P r (at f p y r)
    go (inl e) = subst (λ k. P k (at f p y k)) (sym e) (subst (P p) (sym (at_same f p y)) here)
    go (inr n) = subst (P r) (sym (at_other f p y r n)) (there r n)

pub not_both : {A : Type 0} (b : Bool) → b ≡ true → b ≡ false → A
not_both b t f = absurd (true≢false (sym t ∙ f))

module _ (S R : Type 0) (M : Meaning) (N : ℕ) (K : Line) where
  -- nothing changed, and more may have been given
  pub next_same : {given wider : Given} {F : Family} {w : World} → Holds S R M N given K w F → (S → R → Built M N wider F) → Next S R M N wider K F w
  next_same {given} {wider} {F} {w} h built = record {
    later = F;
    holds = record {
      family = record { short = h.family.short; named = h.family.named; indexed = h.family.indexed; idle = h.family.idle; consistent = h.family.consistent; built = built };
      rows = h.rows;
      stored = h.stored;
      standing = h.standing;
      read = h.read;
    };
    lasts = λ p k. refl;
  }

  module _ {given : Given} {F : Family} {w : World} (h : Holds S R M N given K w F) (awake : w.dark ≡ false) (p : ℕ) (up : w.up p ≡ true) where
    -- p begins an interval
    pub next_began : {wider : Given} (x : Interval) → length (w.intervals p) < 96 → x.process ≡ p → x.index ≡ length (w.intervals p) + 1 →
        (S → R → Built M N wider (at F p (F p ++ (x ∷ [])))) → Next S R M N wider K F (began M p x w).1
    next_began {wider} x room named index built = record {
      later = G;
      holds = record {
        family = grown_family S M N K grows h.family (low S M N K w.store h.stored) (h.rows.present p up) (subst (λ xs. length xs < 96) same room) named (index ∙ ap (λ xs. length xs + 1) same) built;
        rows = record {
          fronts = λ r. go r (cases_eq r p);
          whole = λ r u. whole r u (cases_eq r p);
          bounded = at_each (λ r xs. w.saved r ≤ length xs) w.intervals p _ (let a = h.rows.bounded p in simp length_push (omega arith)) (λ r n. h.rows.bounded r);
          downs = λ r d. downs r d (cases_eq r p);
          present = h.rows.present;
          states = λ v r u. states v r u (cases_eq r p);
          none = λ d. not_both w.dark d awake;
          lying = λ d. not_both w.dark d awake;
        };
        stored = grown_store S M N K grows w.store h.stored;
        standing = h.standing;
        read = λ d r. h.read d r ∙ reads r (cases_eq r p);
      };
      lasts = grown_lasts S M N K grows (low S M N K w.store h.stored);
    }
      where
        G : Family
        G = at F p (F p ++ (x ∷ []))

        grows : Grows F p x (at F p (F p ++ (x ∷ [])))
        grows = record { here = at_same F p (F p ++ (x ∷ [])); others = λ r n. at_other F p (F p ++ (x ∷ [])) r n }

        same : w.intervals p ≡ F p
        same = h.rows.whole p up

        rowed : at w.intervals p (w.intervals p ++ (x ∷ [])) p ≡ at F p (F p ++ (x ∷ [])) p
        rowed = at_same w.intervals p (w.intervals p ++ (x ∷ [])) ∙ ap (λ xs. xs ++ (x ∷ [])) same ∙ sym (at_same F p (F p ++ (x ∷ [])))

        whole : (r : ℕ) → w.up r ≡ true → (r ≡ p) ⊎ (r ≡ p → ⊥) → at w.intervals p (w.intervals p ++ (x ∷ [])) r ≡ at F p (F p ++ (x ∷ [])) r
        whole r u (inl e) = subst (λ k. at w.intervals p (w.intervals p ++ (x ∷ [])) k ≡ at F p (F p ++ (x ∷ [])) k) (sym e) rowed
        whole r u (inr n) = at_other w.intervals p _ r n ∙ h.rows.whole r u ∙ sym (at_other F p _ r n)

        go : (r : ℕ) → (r ≡ p) ⊎ (r ≡ p → ⊥) → Front (at w.intervals p (w.intervals p ++ (x ∷ [])) r) (at F p (F p ++ (x ∷ [])) r)
        go r (inl e) = subst (λ ys. Front (at w.intervals p (w.intervals p ++ (x ∷ [])) r) ys) (whole r (subst (λ k. w.up k ≡ true) (sym e) up) (inl e)) (front_self _)
        go r (inr n) = subst (λ xs. Front xs (at F p (F p ++ (x ∷ [])) r)) (sym (at_other w.intervals p _ r n)) (subst (λ ys. Front (w.intervals r) ys) (sym (at_other F p _ r n)) (h.rows.fronts r))

        downs : (r : ℕ) → w.up r ≡ false → (r ≡ p) ⊎ (r ≡ p → ⊥) → w.saved r ≡ length (at w.intervals p (w.intervals p ++ (x ∷ [])) r)
        downs r d (inl e) = not_both (w.up r) (subst (λ k. w.up k ≡ true) (sym e) up) d
        downs r d (inr n) = h.rows.downs r d ∙ ap length (sym (at_other w.intervals p _ r n))

        states : S → (r : ℕ) → w.up r ≡ true → (r ≡ p) ⊎ (r ≡ p → ⊥) → at w.state p (M.step p (w.state p) x.source x.value).0 r ≡ play M r (at w.intervals p (w.intervals p ++ (x ∷ [])) r)
        states v r u (inr n) = at_other w.state p _ r n ∙ h.rows.states v r u ∙ ap (play M r) (sym (at_other w.intervals p _ r n))
        states v r u (inl e) = subst (λ k. at w.state p (M.step p (w.state p) x.source x.value).0 k ≡ play M k (at w.intervals p (w.intervals p ++ (x ∷ [])) k)) (sym e)
            (at_same w.state p _ ∙ ap (λ s. (M.step p s x.source x.value).0) (h.rows.states v p up)
            ∙ sym (ap (play M p) (at_same w.intervals p _) ∙ fold_push (λ s y. (M.step p s y.source y.value).0) (M.start p) (w.intervals p) x))

        reads : (r : ℕ) → (r ≡ p) ⊎ (r ≡ p → ⊥) → take (w.saved r) (w.intervals r) ≡ take (w.saved r) (at w.intervals p (w.intervals p ++ (x ∷ [])) r)
        reads r (inr n) = ap (take (w.saved r)) (sym (at_other w.intervals p _ r n))
        reads r (inl e) = subst (λ k. take (w.saved k) (w.intervals k) ≡ take (w.saved k) (at w.intervals p (w.intervals p ++ (x ∷ [])) k)) (sym e)
            (sym (ap (take (w.saved p)) (at_same w.intervals p _) ∙ take-append-le (w.saved p) (w.intervals p) (x ∷ []) (h.rows.bounded p)))

    -- p goes down
    pub next_crashed : {wider : Given} → (S → R → Built M N wider F) → Next S R M N wider K F (crashed p w).1
    next_crashed {wider} built = record {
      later = F;
      holds = record {
        family = record { short = h.family.short; named = h.family.named; indexed = h.family.indexed; idle = h.family.idle; consistent = h.family.consistent; built = built };
        rows = record {
          fronts = at_each (λ r xs. Front xs (F r)) w.intervals p _ (front_via _ (w.intervals p) (F p) (front_taken (w.saved p) (w.intervals p)) (h.rows.fronts p)) (λ r n. h.rows.fronts r);
          whole = λ r u. other r u (λ n. at_other w.intervals p _ r n ∙ h.rows.whole r (was r u n));
          bounded = at_each (λ r xs. w.saved r ≤ length xs) w.intervals p _ (omega (arith, count)) (λ r n. h.rows.bounded r);
          downs = λ r d. downs r d (cases_eq r p);
          present = λ r u. other r u (λ n. h.rows.present r (was r u n));
          states = λ v r u. other r u (λ n. h.rows.states v r (was r u n) ∙ ap (play M r) (sym (at_other w.intervals p _ r n)));
          none = λ d. not_both w.dark d awake;
          lying = λ d. not_both w.dark d awake;
        };
        stored = h.stored;
        standing = h.standing;
        read = λ d r. h.read d r ∙ reads r (cases_eq r p);
      };
      lasts = λ r k. refl;
    }
      where
        count : length (take (w.saved p) (w.intervals p)) ≡ w.saved p
        count = let a = h.rows.bounded p in simp length-take (omega arith)

        was : (r : ℕ) → at w.up p false r ≡ true → (r ≡ p → ⊥) → w.up r ≡ true
        was r u n = sym (at_other w.up p false r n) ∙ u

        other : {A : Type 0} (r : ℕ) → at w.up p false r ≡ true → ((r ≡ p → ⊥) → A) → A
        other r u next = next (λ e. true≢false (sym u ∙ subst (λ k. at w.up p false k ≡ false) (sym e) (at_same w.up p false)))

        downs : (r : ℕ) → at w.up p false r ≡ false → (r ≡ p) ⊎ (r ≡ p → ⊥) → w.saved r ≡ length (at w.intervals p (take (w.saved p) (w.intervals p)) r)
        downs r d (inl e) = subst (λ k. w.saved k ≡ length (at w.intervals p (take (w.saved p) (w.intervals p)) k)) (sym e) (sym (ap length (at_same w.intervals p _) ∙ count))
        downs r d (inr n) = h.rows.downs r (sym (at_other w.up p false r n) ∙ d) ∙ ap length (sym (at_other w.intervals p _ r n))

        reads : (r : ℕ) → (r ≡ p) ⊎ (r ≡ p → ⊥) → take (w.saved r) (w.intervals r) ≡ take (w.saved r) (at w.intervals p (take (w.saved p) (w.intervals p)) r)
        reads r (inr n) = ap (take (w.saved r)) (sym (at_other w.intervals p _ r n))
        reads r (inl e) = subst (λ k. take (w.saved k) (w.intervals k) ≡ take (w.saved k) (at w.intervals p (take (w.saved p) (w.intervals p)) k)) (sym e)
            (sym (ap (take (w.saved p)) (at_same w.intervals p _) ∙ take-take (w.saved p) (w.saved p) (w.intervals p) (omega arith)))

  -- the host is dark on a store that still remembers
  pub next_darkened : {given : Given} {F : Family} (m : store.Meaning) (w : World) → FamilyHolds S R M N given K F → StoreHolds S M N K F m → Next S R M N given K F (darkened m w)
  next_darkened {given} {F} m w family stored = record {
    later = F;
    holds = record {
      family = family;
      rows = record {
        fronts = λ p. front_none (F p);
        whole = λ p u. not_both false u refl;
        bounded = λ p. omega arith;
        downs = λ p d. refl;
        present = λ p u. not_both false u refl;
        states = λ v p u. not_both false u refl;
        none = λ d p. refl;
        lying = λ d p. refl;
      };
      stored = stored;
      standing = λ d. not_both true refl d;
      read = λ d. not_both true refl d;
    };
    lasts = λ p k. refl;
  }

  -- a write of which every first part keeps what is remembered: done, or the host is dark
  pub next_written : {given : Given} {F : Family} (w : World) → FamilyHolds S R M N given K F → (ws : List Record) (next : store.Meaning → After) → w.store.alive ≡ true → w.store.safe ≡ store.count w.store →
      store.count w.store + length ws ≤ w.store.capacity → ((j : ℕ) → Kept S M N F K (reading (w.store.records ++ take j ws))) →
      ((m : store.Meaning) → m.alive ≡ true → m.records ≡ w.store.records ++ ws → StoreHolds S M N K F m → Next S R M N given K F (next m).1) →
      Next S R M N given K F (finished (written ws w.store) w next).1
  next_written {given} {F} w family ws next alive safe room good success = go (wrote ws w.store alive room)
    where
      parts : (m : store.Meaning) (j : ℕ) → m.records ≡ w.store.records ++ take j ws → store.count w.store ≤ m.safe → Remembered S M N F K m.records m.safe
      parts m j e under = subst (λ rs. Remembered S M N F K rs m.safe) (sym e) (remembered_write S M N F K w.store.records ws m.safe under good j)

      go : {o : Outcome (Unit {0})} → Wrote ws w.store o → Next S R M N given K F (finished o w next).1
      go (done m e s lives) = success m lives e (record {
        safe = omega (arith, s);
        lives = λ a. s;
        remembered = parts m (length ws) (e ∙ ap (λ xs. w.store.records ++ xs) (sym (take_all (length ws) ws (omega arith)))) (omega (arith, s, ap length e, length-append w.store.records ws));
      })
      go (died x m j l e s dead) = next_darkened m w family (record {
        safe = omega (arith, s, safe, ap length e, length-append w.store.records (take j ws));
        lives = λ a. not_both m.alive a dead;
        remembered = parts m j e (omega (arith, s, safe));
      })

  module _ {given : Given} {F : Family} {w : World} (h : Holds S R M N given K w F) (awake : w.dark ≡ false) (p : ℕ) (up : w.up p ≡ true) where
    -- all of p is saved
    pub next_saved : (m : store.Meaning) → m.alive ≡ true → StoreHolds S M N K F m → (reading m.records).rows p ≡ w.intervals p →
        ((r : ℕ) → (r ≡ p → ⊥) → (reading m.records).rows r ≡ (reading w.store.records).rows r) → Next S R M N given K F (all_saved p w m)
    next_saved m alive stored here others = record {
      later = F;
      holds = record {
        family = h.family;
        rows = record {
          fronts = h.rows.fronts;
          whole = h.rows.whole;
          bounded = at_each (λ r n. n ≤ length (w.intervals r)) w.saved p _ (omega arith) (λ r n. h.rows.bounded r);
          downs = λ r d. at_each (λ k n. w.up k ≡ false → n ≡ length (w.intervals k)) w.saved p _ (λ f. refl) (λ k n f. h.rows.downs k f) r d;
          present = h.rows.present;
          states = h.rows.states;
          none = h.rows.none;
          lying = h.rows.lying;
        };
        stored = stored;
        standing = λ d. alive;
        read = λ d. at_each (λ r n. (reading m.records).rows r ≡ take n (w.intervals r)) w.saved p _ (here ∙ sym (take_all (length (w.intervals p)) (w.intervals p) (omega arith))) (λ r n. others r n ∙ h.read awake r);
      };
      lasts = λ r k. refl;
    }

    lives : w.store.alive ≡ true
    lives = h.standing awake

    all_safe : w.store.safe ≡ store.count w.store
    all_safe = h.stored.lives lives

    whole_kept : Kept S M N F K (reading w.store.records)
    whole_kept = kept_whole S M N F K w.store.records w.store.safe h.stored.safe h.stored.remembered

    names : (j : ℕ) → All (λ x. x.process ≡ p) (take j (unsaved w p))
    names j = All-take (λ (x : Interval). x.process ≡ p) j (unsaved w p) (All-drop (λ (x : Interval). x.process ≡ p) (w.saved p) (w.intervals p) (subst (All (λ x. x.process ≡ p)) (sym (h.rows.whole p up)) (h.family.named p)))

    -- the saved part of p's row, and some first part of the rest, begin it
    begins : (j : ℕ) → Front ((reading w.store.records).rows p ++ take j (unsaved w p)) (F p)
    begins j =
        let parts : w.intervals p ≡ (take (w.saved p) (w.intervals p) ++ take j (unsaved w p)) ++ drop j (unsaved w p)
        = sym (take-append-drop (w.saved p) (w.intervals p)) ∙ ap (λ ys. take (w.saved p) (w.intervals p) ++ ys) (sym (take-append-drop j (unsaved w p))) ∙ sym (append_assoc (take (w.saved p) (w.intervals p)) (take j (unsaved w p)) (drop j (unsaved w p))) in
        (drop j (unsaved w p), sym (h.rows.whole p up) ∙ parts ∙ ap (λ xs. (xs ++ take j (unsaved w p)) ++ drop j (unsaved w p)) (sym (h.read awake p)))

    some_kept : (j : ℕ) → Kept S M N F K (reading_on (reading w.store.records) (map interval_record (take j (unsaved w p))))
    some_kept j = kept_intervals S M N F K (reading w.store.records) p (take j (unsaved w p)) (names j) (begins j) whole_kept

    intervals_kept : (j : ℕ) → Kept S M N F K (reading (w.store.records ++ take j (map interval_record (unsaved w p))))
    intervals_kept j = subst (Kept S M N F K) (sym (ap (λ rs. reading (w.store.records ++ rs)) (take-map interval_record j (unsaved w p)) ∙ reading_append w.store.records (map interval_record (take j (unsaved w p))))) (some_kept j)

    -- the row of p once all of it is read
    row_read : (reading_on (reading w.store.records) (map interval_record (unsaved w p))).rows p ≡ w.intervals p
    row_read = rows_more (reading w.store.records) p (unsaved w p) (subst (All (λ x. x.process ≡ p)) (take_all (length (unsaved w p)) (unsaved w p) (omega arith)) (names (length (unsaved w p))))
        ∙ ap (λ xs. xs ++ unsaved w p) (h.read awake p) ∙ take-append-drop (w.saved p) (w.intervals p)

    row_others : (r : ℕ) → (r ≡ p → ⊥) → (reading_on (reading w.store.records) (map interval_record (unsaved w p))).rows r ≡ (reading w.store.records).rows r
    row_others = rows_others (reading w.store.records) p (unsaved w p) (subst (All (λ x. x.process ≡ p)) (take_all (length (unsaved w p)) (unsaved w p) (omega arith)) (names (length (unsaved w p))))

    pub next_saving : (0 < length (unsaved w p) → store.count w.store + length (unsaved w p) ≤ w.store.capacity) → (xs : List Interval) → xs ≡ unsaved w p → Next S R M N given K F (saving p w xs).1
    next_saving room [] e = next_same h h.family.built
    next_saving room (x ∷ xs) e =
        subst (λ ys. Next S R M N given K F (finished (written (map interval_record ys) w.store) w after).1) (sym e)
        (next_written w h.family (map interval_record (unsaved w p)) after lives all_safe (let some : 0 < length (unsaved w p) = omega (arith, ap length e) in simp length-map (room some)) intervals_kept
        (λ m alive is stored. next_saved m alive stored (ap (λ rs. (reading rs).rows p) is ∙ ap (λ i. i.rows p) (reading_append w.store.records _) ∙ row_read)
        (λ r n. ap (λ rs. (reading rs).rows r) is ∙ ap (λ i. i.rows r) (reading_append w.store.records _) ∙ row_others r n)))
      where
        after : store.Meaning → After
        after m = (accepted (length (w.intervals p) ∷ []), all_saved p w m)

    -- all of p's row and its checkpoint, read
    marked : reading (w.store.records ++ (map interval_record (unsaved w p) ++ (checkpoint_record p (length (w.intervals p)) (w.state p) ∷ [])))
        ≡ noted (reading_on (reading w.store.records) (map interval_record (unsaved w p))) (checkpoint_record p (length (w.intervals p)) (w.state p)).content
    marked = reading_append w.store.records _ ∙ fold_push (λ j r. noted j r.content) (reading w.store.records) (map interval_record (unsaved w p)) (checkpoint_record p (length (w.intervals p)) (w.state p))

    marked_kept : Kept S M N F K (noted (reading_on (reading w.store.records) (map interval_record (unsaved w p))) (checkpoint_record p (length (w.intervals p)) (w.state p)).content)
    marked_kept =
        kept_checkpoint S M N F K (reading_on (reading w.store.records) (map interval_record (unsaved w p))) (record { process = p; index = length (w.intervals p); state = w.state p })
        (λ v. subst (λ xs. PlayedFront M p xs (record { process = p; index = length (w.intervals p); state = w.state p })) (sym row_read)
        (omega arith, h.rows.states v p up ∙ ap (play M p) (sym (take_all (length (w.intervals p)) (w.intervals p) (omega arith)))))
        (subst (λ xs. Kept S M N F K (reading_on (reading w.store.records) (map interval_record xs))) (take_all (length (unsaved w p)) (unsaved w p) (omega arith)) (some_kept (length (unsaved w p))))

    mark_kept : (j : ℕ) → Kept S M N F K (reading (w.store.records ++ take j (map interval_record (unsaved w p) ++ (checkpoint_record p (length (w.intervals p)) (w.state p) ∷ []))))
    mark_kept j = go (cases_lt (length (map interval_record (unsaved w p))) j)
      where
        go : (length (map interval_record (unsaved w p)) < j) ⊎ (j ≤ length (map interval_record (unsaved w p))) → Kept S M N F K (reading (w.store.records ++ take j (map interval_record (unsaved w p) ++ (checkpoint_record p (length (w.intervals p)) (w.state p) ∷ []))))
        go (inr l) = subst (λ rs. Kept S M N F K (reading (w.store.records ++ rs))) (sym (take-append-le j (map interval_record (unsaved w p)) _ l)) (intervals_kept j)
        go (inl l) = subst (λ rs. Kept S M N F K (reading (w.store.records ++ rs))) (sym (take_all j _ (simp length_push (omega arith)))) (subst (Kept S M N F K) (sym marked) marked_kept)

    pub next_marking : store.count w.store + (length (unsaved w p) + 1) ≤ w.store.capacity → Next S R M N given K F (marking p w).1
    next_marking room =
        next_written w h.family (map interval_record (unsaved w p) ++ (checkpoint_record p (length (w.intervals p)) (w.state p) ∷ [])) (λ m. (accepted (length (w.intervals p) ∷ []), all_saved p w m)) lives all_safe
        (simp (length_push, length-map) room) mark_kept
        (λ m alive is stored. next_saved m alive stored (ap (λ rs. (reading rs).rows p) is ∙ ap (λ i. i.rows p) marked ∙ row_read)
        (λ r n. ap (λ rs. (reading rs).rows r) is ∙ ap (λ i. i.rows r) marked ∙ row_others r n))
