-- A table read from a store, record by record.
use Rattle.std.proofs.Common.{◌≡◌, ℕ, ◌<◌, ◌≤◌, min, false, eqb, ltb, ◌⊎◌, List, [], ◌∷◌, ◌++◌, map, length, get_or, set, take, Ok, Err, Result, sym, refl, ap, ◌∙◌, inl, inr, arith}
use Rattle.std.proofs.lemmas.List.{length-take, length_push, take_all, take-append-le, take-take}
use Rattle.std.proofs.lemmas.List.Sums.{fold_push}
use Rattle.std.proofs.lemmas.Bool.{cases_lt, cases_eq, cond-true, cond-false, lt-ltb, le-ltb, eq-eqb, ne_eqb}
use Rattle.programs.specs.declared.values.State.{State}
use Rattle.records.specs.declared.Content.{Content}
use Rattle.records.specs.declared.Content.TheVariants as content
use Rattle.records.specs.declared.Interval.{Interval}
use Rattle.records.specs.declared.Record.{Record}
use Rattle.stores.specs.Meaning as store
use Rattle.rows.specs.Rows.{Held, held, grown, pushed, all_saved}
use Rattle.rows.specs.declared.full.RowFull.{RowFull}
use Rattle.rows.specs.declared.row.Row.{Row}
use Rattle.tables.specs.Tables.{Changed, Changes, processes, row_of, idle}
use Rattle.tables.specs.declared.table.Table.{Table}
use Rattle.tables.proofs.Families.{row_at, row_changed}
use Rattle.histories.specs.Reading.{Image, noted, reading}
use Rattle.recall.specs.Loaded.{readable, Loaded, emptied, noted_row, recalled, saved_row}

abbrev pub with_row : Table → ℕ → Row → Table
with_row t p row = record { rows = set t.rows p row; count = t.count }

-- an interval that was pushed onto its row is noted
pub interval_noted : (t : Table) (x : Interval) (old new : Row) (r : Result (Unit {0}) RowFull) → length t.rows ≡ 8 → x.process < processes t → ◌≡◌ {A = Result (Unit {0}) RowFull × Held} (r, held new) (pushed x (held (get_or t.rows x.process old))) → Changes (noted_row (content.Interval x)) t (with_row t x.process new)
interval_noted t x old new r long exists is = record { count = refl; rows = λ p h. go p (cases_eq p x.process) }
  where
    changed : Changed x.process (held new) t (with_row t x.process new)
    changed = row_changed t x.process new long exists

    go : (p : ℕ) → (p ≡ x.process) ⊎ (p ≡ x.process → ⊥) → row_of (with_row t x.process new) p ≡ noted_row (content.Interval x) p (row_of t p)
    go p (inl e) =
        ap (row_of (with_row t x.process new)) e ∙ changed.here ∙ ap (λ o. o.1) is
        ∙ ap (λ h. (pushed x h).1) (sym (row_at t x.process old long exists) ∙ ap (row_of t) (sym e))
        ∙ sym (cond-true (eqb p x.process) (pushed x (row_of t p)).1 (row_of t p) (eq-eqb p x.process e))
    go p (inr n) = changed.others p n ∙ sym (cond-false (eqb p x.process) (pushed x (row_of t p)).1 (row_of t p) (ne_eqb p x.process n))

-- down, and nothing of what was read is saved yet
abbrev pub read_row : List Interval → State → Held
read_row xs s = record { intervals = take 96 xs; saved = 0; up = false; state = s }

-- 96 of what was pushed stand
push_read : (xs : List Interval) (s : State) (x : Interval) → (pushed x (read_row xs s)).1 ≡ read_row (xs ++ (x ∷ [])) s
push_read xs s x = go (cases_lt (length (take 96 xs)) 96)
  where
    go : (length (take 96 xs) < 96) ⊎ (96 ≤ length (take 96 xs)) → (pushed x (read_row xs s)).1 ≡ read_row (xs ++ (x ∷ [])) s
    go (inl h) =
        let few : length xs < 96 = omega (arith, length-take 96 xs) in
        ap (λ (o : Result (Unit {0}) RowFull × Held). o.1) (cond-true (ltb (length (take 96 xs)) 96) (Ok tt, grown x (read_row xs s)) (Err (record {}), read_row xs s) (lt-ltb (length (take 96 xs)) 96 h))
        ∙ ap (λ ys. record { intervals = ys; saved = 0; up = false; state = s })
        (ap (λ ys. ys ++ (x ∷ [])) (take_all 96 xs (omega arith)) ∙ sym (take_all 96 (xs ++ (x ∷ [])) (omega (arith, length_push xs x))))
    go (inr h) =
        ap (λ (o : Result (Unit {0}) RowFull × Held). o.1) (cond-false (ltb (length (take 96 xs)) 96) (Ok tt, grown x (read_row xs s)) (Err (record {}), read_row xs s) (le-ltb (length (take 96 xs)) 96 h))
        ∙ ap (λ ys. record { intervals = ys; saved = 0; up = false; state = s }) (sym (take-append-le 96 xs (x ∷ []) (omega (arith, length-take 96 xs))))

cut_read : (xs : List Interval) (e : ℕ) → take e (take 96 xs) ≡ take 96 (take e xs)
cut_read xs e = go (cases_lt e 96)
  where
    go : (e < 96) ⊎ (96 ≤ e) → take e (take 96 xs) ≡ take 96 (take e xs)
    go (inl h) = take-take e 96 xs (omega arith) ∙ sym (take_all 96 (take e xs) (omega (arith, length-take e xs)))
    go (inr h) = take_all e (take 96 xs) (omega (arith, length-take 96 xs)) ∙ sym (take-take 96 e xs h)

noted_read : (i : Image) (k : Content) (p : ℕ) (s : State) → noted_row k p (read_row (i.rows p) s) ≡ read_row ((noted i k).rows p) s
noted_read i (content.Interval x) p s = go (cases_eq p x.process)
  where
    go : (p ≡ x.process) ⊎ (p ≡ x.process → ⊥) → noted_row (content.Interval x) p (read_row (i.rows p) s) ≡ read_row ((noted i (content.Interval x)).rows p) s
    go (inl e) =
        let test = eq-eqb p x.process e in
        cond-true (eqb p x.process) (pushed x (read_row (i.rows p) s)).1 (read_row (i.rows p) s) test
        ∙ push_read (i.rows p) s x
        ∙ ap (λ q. read_row (i.rows q ++ (x ∷ [])) s) e
        ∙ sym (ap (λ xs. read_row xs s) (cond-true (eqb p x.process) (i.rows x.process ++ (x ∷ [])) (i.rows p) test))
    go (inr n) =
        let test = ne_eqb p x.process n in
        cond-false (eqb p x.process) (pushed x (read_row (i.rows p) s)).1 (read_row (i.rows p) s) test
        ∙ sym (ap (λ xs. read_row xs s) (cond-false (eqb p x.process) (i.rows x.process ++ (x ∷ [])) (i.rows p) test))
noted_read i (content.Checkpoint c) p s = refl
noted_read i (content.Line entries) p s =
    let none : min 0 (get_or entries p 0) ≡ 0 = omega arith in
    ap (λ ys. record { intervals = ys; saved = min 0 (get_or entries p 0); up = false; state = s }) (cut_read (i.rows p) (get_or entries p 0))
    ∙ ap (λ n. record { intervals = take 96 (take (get_or entries p 0) (i.rows p)); saved = n; up = false; state = s }) none

-- the records rs are read into a table that was t
pub record SoFar (rs : List Record) (t u : Table) : Type 0 where
  pub count : u.count ≡ t.count
  pub rows : (p : ℕ) → p < processes t → row_of u p ≡ read_row ((reading rs).rows p) (row_of t p).state

pub so_far_more : (rs : List Record) (r : Record) (t u v : Table) → SoFar rs t u → Changes (noted_row r.content) u v → SoFar (rs ++ (r ∷ [])) t v
so_far_more rs r t u v so changes = record {
  count = changes.count ∙ so.count;
  rows = λ p h.
      changes.rows p (omega (arith, ap (λ n. min n 8) so.count))
      ∙ ap (noted_row r.content p) (so.rows p h)
      ∙ noted_read (reading rs) r.content p (row_of t p).state
      ∙ sym (ap (λ (i : Image). read_row (i.rows p) (row_of t p).state) (fold_push (λ i r. noted i r.content) (record { rows = λ p. []; checkpoints = λ p. [] }) rs r));
}

-- the states are still those before the table was emptied
pub so_far_all : (m : store.Meaning) (t u v w : Table) → Changes (λ _ h. emptied h) t u → SoFar (readable m) u v → Changes (λ _ h. all_saved h) v w → Loaded m t w
so_far_all m t u v w clear so save = record { count = save.count ∙ so.count ∙ clear.count; rows = λ p. go p (cases_lt p (processes t)) }
  where
    start : processes u ≡ processes t
    start = ap (λ n. min n 8) clear.count

    read : processes v ≡ processes u
    read = ap (λ n. min n 8) so.count

    end : processes w ≡ processes v
    end = ap (λ n. min n 8) save.count

    go : (p : ℕ) → (p < processes t) ⊎ (processes t ≤ p) → row_of w p ≡ saved_row (recalled (processes t) (readable m) p) (row_of t p).state
    go p (inl h) =
        save.rows p (omega (arith, start, read))
        ∙ ap all_saved (so.rows p (omega (arith, start)))
        ∙ ap (saved_row (take 96 ((reading (readable m)).rows p))) (ap (λ h. h.state) (clear.rows p h))
        ∙ sym (ap (λ xs. saved_row xs (row_of t p).state) (cond-true (ltb p (processes t)) (take 96 ((reading (readable m)).rows p)) [] (lt-ltb p (processes t) h)))
    go p (inr h) =
        cond-false (ltb p (processes w)) (get_or (map held w.rows) p idle) idle (le-ltb p (processes w) (omega (arith, start, read, end)))
        ∙ ap (saved_row []) (sym (ap (λ h. h.state) (cond-false (ltb p (processes t)) (get_or (map held t.rows) p idle) idle (le-ltb p (processes t) h))))
        ∙ sym (ap (λ xs. saved_row xs (row_of t p).state) (cond-false (ltb p (processes t)) (take 96 ((reading (readable m)).rows p)) [] (le-ltb p (processes t) h)))
