-- Going back to the greatest line keeps what holds.
use Rattle.std.proofs.Common.{◌≡◌, ℕ, zero, suc, ◌+◌, ◌<◌, ◌≤◌, min, Bool, true, false, cond, ltb, leb, ◌⊎◌, List, [], ◌∷◌, ◌++◌, map, length, get_or, take, drop, fold, sym, refl, ap, ◌∙◌, subst, inl, inr, arith}
use Rattle.std.specs.List.{range_with_len, All}
use Rattle.std.proofs.lemmas.List.FromFn.{get_or-map-range_with_len}
use Rattle.std.proofs.lemmas.List.Elements.{All-head, All-tail, All-take}
use Rattle.std.proofs.lemmas.List.{append-nil, take-take, take_all, take-append-drop, length-take}
use Rattle.std.proofs.lemmas.Bool.{cases_lt, ltb-true, ltb-false, leb-true, lt-ltb, cond-true, and_parts}
use Rattle.programs.specs.Program.{Meaning}
use Rattle.programs.specs.declared.values.State.{State}
use Rattle.records.specs.declared.Checkpoint.{Checkpoint}
use Rattle.records.specs.declared.Content.TheVariants as content
use Rattle.records.specs.declared.Interval.{Interval}
use Rattle.stores.specs.Calls.{room}
use Rattle.stores.specs.Meaning as store
use Rattle.lines.specs.Built.{Given, cut}
use Rattle.lines.specs.Intervals.{Family, play}
use Rattle.lines.specs.Lines.{Line, Backed, Consistent, Greatest, greatest_line}
use Rattle.lines.proofs.Cut.{built_cut}
use Rattle.lines.proofs.Greatest.{greatest_is_greatest}
use Rattle.lines.proofs.Indexes.{from_take}
use Rattle.histories.specs.Effects.{line_record, finished, written, untouched, restored, settled, settling}
use Rattle.histories.specs.Reading.{Image, noted, reading, origin, PlayedFront}
use Rattle.histories.specs.Tests.{some_above, line_records}
use Rattle.histories.specs.World.{World}
use Rattle.histories.proofs.Each.{below_line}
use Rattle.histories.proofs.Fronts.{Front, front_self, front_none, front_take, front_cut}
use Rattle.histories.proofs.Holds.{FamilyHolds, Lasts, Next}
use Rattle.histories.proofs.Images.{reading_append}
use Rattle.histories.proofs.Remembered.{Kept, kept_line}
use Rattle.histories.proofs.Steps.{not_both, next_written}

folded_append : {A B : Type 0} (f : B → A → B) (a : B) (xs ys : List A) → fold f a (xs ++ ys) ≡ fold f (fold f a xs) ys
folded_append f a [] ys = refl
folded_append f a (x ∷ xs) ys = folded_append f (f a x) xs ys

take_min : {X : Type 0} (a b : ℕ) (xs : List X) → take a (take b xs) ≡ take (min b a) xs
take_min a b xs = go (cases_lt b a)
  where
    go : (b < a) ⊎ (a ≤ b) → take a (take b xs) ≡ take (min b a) xs
    go (inl h) = take_all a (take b xs) (omega (arith, length-take b xs)) ∙ ap (λ n. take n xs) (omega arith)
    go (inr h) = take-take a b xs h ∙ ap (λ n. take n xs) (omega arith)

-- a replay begins at a checkpoint that stands, or at the start
origin_good : (M : Meaning) (p : ℕ) (xs : List Interval) (cs : List Checkpoint) → All (PlayedFront M p xs) cs → ((origin M p cs).0 ≤ length xs) × ((origin M p cs).1 ≡ play M p (take (origin M p cs).0 xs))
origin_good M p xs cs all = go (0, M.start p) (omega arith) refl cs all
  where
    go : (best : ℕ × State) → best.0 ≤ length xs → best.1 ≡ play M p (take best.0 xs) → (cs : List Checkpoint) → All (PlayedFront M p xs) cs →
        ((fold (λ b c. cond (leb b.0 c.index) (c.index, c.state) b) best cs).0 ≤ length xs) × ((fold (λ b c. cond (leb b.0 c.index) (c.index, c.state) b) best cs).1 ≡ play M p (take (fold (λ b c. cond (leb b.0 c.index) (c.index, c.state) b) best cs).0 xs))
    go best low is [] all = (low, is)
    go best low is (c ∷ cs) all = more (leb best.0 c.index) (λ b l e. go b l e cs (All-tail (PlayedFront M p xs) c cs all))
      where
        more : (t : Bool) → ((b : ℕ × State) → b.0 ≤ length xs → b.1 ≡ play M p (take b.0 xs) → ((fold (λ b c. cond (leb b.0 c.index) (c.index, c.state) b) b cs).0 ≤ length xs) × ((fold (λ b c. cond (leb b.0 c.index) (c.index, c.state) b) b cs).1 ≡ play M p (take (fold (λ b c. cond (leb b.0 c.index) (c.index, c.state) b) b cs).0 xs))) →
            ((fold (λ b c. cond (leb b.0 c.index) (c.index, c.state) b) (cond t (c.index, c.state) best) cs).0 ≤ length xs) × ((fold (λ b c. cond (leb b.0 c.index) (c.index, c.state) b) (cond t (c.index, c.state) best) cs).1 ≡ play M p (take (fold (λ b c. cond (leb b.0 c.index) (c.index, c.state) b) (cond t (c.index, c.state) best) cs).0 xs))
        more true next = let first = All-head (PlayedFront M p xs) c cs all in next (c.index, c.state) first.0 first.1
        more false next = next best low is

-- a host that can settle: its store lives and is read, and the counts reach from what is saved
pub record Ready (S R : Type 0) (M : Meaning) (N : ℕ) (given : Given) (K : Line) (F : Family) (w : World) (c : Line) : Type 0 where
  pub family : FamilyHolds S R M N given K F
  pub fronts : (p : ℕ) → Front (w.intervals p) (F p)
  pub bounded : (p : ℕ) → w.saved p ≤ length (w.intervals p)
  pub states : S → (p : ℕ) → w.up p ≡ true → w.state p ≡ play M p (w.intervals p)
  pub lives : w.store.alive ≡ true
  pub safe : w.store.safe ≡ store.count w.store
  pub kept : Kept S M N F K (reading w.store.records)
  pub read : (p : ℕ) → (reading w.store.records).rows p ≡ take (w.saved p) (w.intervals p)
  pub reach : (p : ℕ) → p < N → w.saved p ≤ c p

module _ (S R : Type 0) (M : Meaning) (N : ℕ) (given : Given) (K : Line) (F : Family) (w : World) (c L : Line) (few : N ≤ 8) (ready : Ready S R M N given K F w c) (greatest : Greatest N w.intervals c L) where
  -- K is within what is saved
  saved_above : (p : ℕ) → p < N → K p ≤ w.saved p
  saved_above p h = omega (arith, ready.kept.above p h, ap length (ready.read p), length-take (w.saved p) (w.intervals p))

  same_front : (n p : ℕ) → n ≤ length (w.intervals p) → take n (F p) ≡ take n (w.intervals p)
  same_front n p h = front_take n (w.intervals p) (F p) (ready.fronts p) h

  -- K is nowhere above the line
  under : (p : ℕ) → p < N → K p ≤ L p
  under = greatest.highest K
      (λ p h. subst (All (Backed N K)) (same_front (K p) p (omega (arith, saved_above p h, ready.bounded p))) (ready.family.consistent p h))
      (λ p h. (omega (arith, saved_above p h, ready.reach p h), omega (arith, saved_above p h, ready.bounded p)))

  line_consistent : Consistent N F L
  line_consistent p h = subst (All (Backed N L)) (sym (same_front (L p) p (greatest.inside p h).1)) (greatest.consistent p h)

  empty_row : (p : ℕ) → N ≤ p → w.intervals p ≡ []
  empty_row p h = go (w.intervals p) (ready.fronts p).1
    where
      go : (xs : List Interval) → F p ≡ xs ++ (ready.fronts p).0 → xs ≡ []
      go [] e = refl
      go (x ∷ xs) e = absurd (let none = ready.family.idle p h in let z : ◌≡◌ {A = ℕ} 0 1 = cc in omega arith)

  lasts : Lasts N K F (cut F L)
  lasts p h = take-take (K p) (L p) (F p) (under p h)

  family_cut : FamilyHolds S R M N given K (cut F L)
  family_cut = record {
    short = λ p. omega (arith, ready.family.short p, length-take (L p) (F p));
    named = λ p. All-take (λ x. x.process ≡ p) (L p) (F p) (ready.family.named p);
    indexed = λ p. from_take 0 (L p) (F p) (ready.family.indexed p);
    idle = λ p h. ap (take (L p)) (ready.family.idle p h) ∙ take_all (L p) [] (omega arith);
    consistent = λ p h. subst (All (Backed N K)) (sym (lasts p h)) (ready.family.consistent p h);
    built = λ s r. built_cut (ready.family.built s r) L line_consistent;
  }

  -- the rows that are read then
  abbrev RowsCut : Image → Type 0
  RowsCut i = (p : ℕ) → i.rows p ≡ take (min (w.saved p) (L p)) (w.intervals p)

  module _ (i : Image) (rows : RowsCut i) (kept : Kept S M N F K i) where
    -- what is read is remembered of the cut family too
    kept_cut : Kept S M N (cut F L) K i
    kept_cut = record {
      fronts = λ p. front_cut (L p) (i.rows p) (F p) (kept.fronts p) (omega (arith, ap length (rows p), length-take (min (w.saved p) (L p)) (w.intervals p)));
      above = kept.above;
      checks = kept.checks;
    }

    -- a replayed state is the state played from the start
    replay : S → (p : ℕ) → fold (λ s x. (M.step p s x.source x.value).0) (origin M p (i.checkpoints p)).1 (drop (origin M p (i.checkpoints p)).0 (take (L p) (w.intervals p))) ≡ play M p (take (L p) (w.intervals p))
    replay v p =
        let good = origin_good M p (i.rows p) (i.checkpoints p) (kept.checks v p) in
        let at = (origin M p (i.checkpoints p)).0 in
        let long : at ≤ min (w.saved p) (L p) = omega (arith, good.0, ap length (rows p), length-take (min (w.saved p) (L p)) (w.intervals p)) in
        let front : take at (i.rows p) ≡ take at (take (L p) (w.intervals p)) = ap (take at) (rows p) ∙ take-take at (min (w.saved p) (L p)) (w.intervals p) long ∙ sym (take-take at (L p) (w.intervals p) (omega arith)) in
        ap (λ s. fold (λ s x. (M.step p s x.source x.value).0) s (drop at (take (L p) (w.intervals p)))) (good.1 ∙ ap (play M p) front)
        ∙ sym (folded_append (λ s x. (M.step p s x.source x.value).0) (M.start p) (take at (take (L p) (w.intervals p))) (drop at (take (L p) (w.intervals p))))
        ∙ ap (play M p) (take-append-drop at (take (L p) (w.intervals p)))

    restored_played : S → (p : ℕ) → restored M w L i p ≡ play M p (take (L p) (w.intervals p))
    restored_played v p = go (untouched w L p) refl
      where
        go : (b : Bool) → untouched w L p ≡ b → cond b (w.state p) (fold (λ s x. (M.step p s x.source x.value).0) (origin M p (i.checkpoints p)).1 (drop (origin M p (i.checkpoints p)).0 (take (L p) (w.intervals p)))) ≡ play M p (take (L p) (w.intervals p))
        go false e = replay v p
        go true e =
            let both = and_parts (w.up p) (leb (length (w.intervals p)) (L p)) e in
            ready.states v p both.0 ∙ ap (play M p) (sym (take_all (L p) (w.intervals p) (leb-true (length (w.intervals p)) (L p) both.1)))

  next_settled : (m : store.Meaning) → m.alive ≡ true → m.safe ≡ store.count m → RowsCut (reading m.records) → Kept S M N F K (reading m.records) → Next S R M N given K F (settled M N w L m).1
  next_settled m alive safe rows kept = record {
    later = cut F L;
    holds = record {
      family = family_cut;
      rows = record {
        fronts = λ p. fronts p (cases_lt p N);
        whole = λ p u. sym (same_front (L p) p (greatest.inside p (ltb-true p N u)).1);
        bounded = λ p. omega (arith, ready.bounded p, length-take (L p) (w.intervals p));
        downs = λ p d. let none = ap length (empty_row p (ltb-false p N d)) in omega (arith, ready.bounded p, length-take (L p) (w.intervals p));
        present = λ p u. ltb-true p N u;
        states = λ v p u. cond-true (ltb p N) (restored M w L (reading m.records) p) (w.state p) u ∙ restored_played (reading m.records) rows kept v p;
        none = λ d. not_both false d refl;
        lying = λ d. not_both false d refl;
      };
      stored = record {
        safe = omega (arith, safe);
        lives = λ a. safe;
        remembered = λ k a b. subst (λ rs. Kept S M N (cut F L) K (reading rs)) (sym (take_all k m.records (omega (arith, safe)))) (kept_cut (reading m.records) rows kept);
      };
      standing = λ d. alive;
      read = λ d p. rows p ∙ sym (take-take (min (w.saved p) (L p)) (L p) (w.intervals p) (omega arith));
    };
    lasts = lasts;
  }
    where
      fronts : (p : ℕ) → (p < N) ⊎ (N ≤ p) → Front (take (L p) (w.intervals p)) (take (L p) (F p))
      fronts p (inl h) = subst (λ ys. Front (take (L p) (w.intervals p)) ys) (sym (same_front (L p) p (greatest.inside p h).1)) (front_self (take (L p) (w.intervals p)))
      fronts p (inr h) = subst (λ xs. Front xs (take (L p) (F p))) (sym (ap (take (L p)) (empty_row p h) ∙ take_all (L p) [] (omega arith))) (front_none (take (L p) (F p)))

  abbrev entries : List ℕ
  entries = map (λ p. cond (ltb p N) (L p) 0) (range_with_len 0 8)

  entry_is : (p : ℕ) → p < N → get_or entries p 0 ≡ L p
  entry_is p h = get_or-map-range_with_len (λ r. cond (ltb r N) (L r) 0) 0 8 p p 0 (omega arith) (omega arith) ∙ cond-true (ltb p N) (L p) 0 (lt-ltb p N h)

  rows_with_line : RowsCut (noted (reading w.store.records) (content.Line entries))
  rows_with_line p = go (cases_lt p N)
    where
      go : (p < N) ⊎ (N ≤ p) → take (get_or entries p 0) ((reading w.store.records).rows p) ≡ take (min (w.saved p) (L p)) (w.intervals p)
      go (inl h) = ap (λ n. take n ((reading w.store.records).rows p)) (entry_is p h) ∙ ap (take (L p)) (ready.read p) ∙ take_min (L p) (w.saved p) (w.intervals p)
      go (inr h) =
          let none : (reading w.store.records).rows p ≡ [] = ready.read p ∙ ap (take (w.saved p)) (empty_row p h) ∙ take_all (w.saved p) [] (omega arith) in
          ap (take (get_or entries p 0)) none ∙ take_all (get_or entries p 0) [] (omega arith) ∙ sym (ap (take (min (w.saved p) (L p))) (empty_row p h) ∙ take_all (min (w.saved p) (L p)) [] (omega arith))

  line_kept : Kept S M N F K (noted (reading w.store.records) (content.Line entries))
  line_kept = kept_line S M N F K (reading w.store.records) entries (λ p h. omega (arith, entry_is p h, under p h)) ready.kept

  line_read : reading (w.store.records ++ (line_record N L ∷ [])) ≡ noted (reading w.store.records) (content.Line entries)
  line_read = reading_append w.store.records (line_record N L ∷ [])

  parts_kept : (j : ℕ) → Kept S M N F K (reading (w.store.records ++ take j (line_record N L ∷ [])))
  parts_kept zero = subst (λ rs. Kept S M N F K (reading rs)) (sym (append-nil w.store.records)) ready.kept
  parts_kept (suc j) = subst (λ rs. Kept S M N F K (reading (w.store.records ++ (line_record N L ∷ rs)))) (sym (take_all j [] (omega arith))) (subst (Kept S M N F K) (sym line_read) line_kept)

  rows_without : some_above N w.saved L ≡ false → RowsCut (reading w.store.records)
  rows_without e p = ready.read p ∙ go (cases_lt p N)
    where
      go : (p < N) ⊎ (N ≤ p) → take (w.saved p) (w.intervals p) ≡ take (min (w.saved p) (L p)) (w.intervals p)
      go (inl h) = ap (λ n. take n (w.intervals p)) (omega (arith, below_line N w.saved L e p h))
      go (inr h) = ap (take (w.saved p)) (empty_row p h) ∙ take_all (w.saved p) [] (omega arith) ∙ sym (ap (take (min (w.saved p) (L p))) (empty_row p h) ∙ take_all (min (w.saved p) (L p)) [] (omega arith))

  -- with a line record or without
  pub next_line : (b : Bool) → some_above N w.saved L ≡ b → (b ≡ true → store.count w.store + 1 ≤ w.store.capacity) →
      Next S R M N given K F (cond b (finished (written (line_record N L ∷ []) w.store) w (settled M N w L)) (settled M N w L w.store)).1
  next_line false e room = next_settled w.store ready.lives ready.safe (rows_without e) ready.kept
  next_line true e room =
      next_written S R M N K w ready.family (line_record N L ∷ []) (settled M N w L) ready.lives ready.safe (room refl) parts_kept
      (λ m alive is stored. next_settled m alive (stored.lives alive) (λ p. ap (λ rs. (reading rs).rows p) is ∙ ap (λ i. i.rows p) line_read ∙ rows_with_line p)
      (subst (λ rs. Kept S M N F K (reading rs)) (sym is) (subst (Kept S M N F K) (sym line_read) line_kept)))

pub next_settling : (S R : Type 0) (M : Meaning) (N : ℕ) (given : Given) (K : Line) (F : Family) (w : World) (c : Line) → N ≤ 8 → Ready S R M N given K F w c →
    ltb (room w.store) (line_records N w.saved (greatest_line N w.intervals c)) ≡ false → Next S R M N given K F (settling M N c w).1
next_settling S R M N given K F w c few ready enough =
    next_line S R M N given K F w c (greatest_line N w.intervals c) few ready (greatest_is_greatest N w.intervals c) (some_above N w.saved (greatest_line N w.intervals c)) refl
    (λ e. let one : line_records N w.saved (greatest_line N w.intervals c) ≡ 1 = cond-true (some_above N w.saved (greatest_line N w.intervals c)) 1 0 e in
    omega (arith, ltb-false (room w.store) (line_records N w.saved (greatest_line N w.intervals c)) enough))
