-- The rows of a table as a family, by look-up.
use Rattle.std.proofs.Common.{◌≡◌, ℕ, ◌<◌, ◌≤◌, min, true, cond, ltb, ◌⊎◌, List, map, length, get_or, set, sym, refl, ap, ◌∙◌, subst, inl, inr, arith, below_more, ◌+◌, ◌≢◌}
use Rattle.std.proofs.lemmas.List.{get_or-map, get_or_past, get_or-set_same, get_or-set_other, map-set, length-map}
use Rattle.std.proofs.lemmas.Bool.{cases_lt, cond-true, cond-false, lt-ltb, le-ltb}
use Rattle.lines.specs.Lines.{Line, clipped}
use Rattle.tables.specs.Answers.{line_of}
use Rattle.rows.specs.Rows.{Held, held}
use Rattle.tables.specs.Tables.{processes, idle, row_of, family, Changed, Changes}
use Rattle.rows.specs.declared.row.Row.{Row}
use Rattle.tables.specs.declared.table.Table.{Table}

module _ (t : Table) (p : ℕ) (row : Row) (long : length t.rows ≡ 8) (exists : p < processes t) where
  place : p < length t.rows
  place = omega (arith, long)

  test : ltb p (processes t) ≡ true
  test = lt-ltb p (processes t) exists

  pub row_at : row_of t p ≡ held (get_or t.rows p row)
  row_at = cond-true (ltb p (processes t)) (get_or (map held t.rows) p idle) idle test ∙ get_or-map held t.rows p row idle place

  -- a change of one row is a change of that process alone
  pub row_changed : Changed p (held row) t (record { rows = set t.rows p row; count = t.count })
  row_changed = record {
    count = refl;
    here = cond-true (ltb p (processes t)) (get_or (map held (set t.rows p row)) p idle) idle test ∙ ap (λ hs. get_or hs p idle) (map-set held t.rows p row)
        ∙ get_or-set_same (map held t.rows) p (held row) idle (subst (λ n. p < n) (sym (length-map t.rows held)) place);
    others = λ r n. ap (λ h. cond (ltb r (processes t)) h idle) (ap (λ hs. get_or hs r idle) (map-set held t.rows p row) ∙ get_or-set_other (map held t.rows) p r (held row) idle n);
  }

-- one row changed by f
pub changed_by : (t : Table) (p : ℕ) (old row : Row) (f : Held → Held) → length t.rows ≡ 8 → p < processes t → held row ≡ f (held (get_or t.rows p old)) →
    Changed p (f (row_of t p)) t (record { rows = set t.rows p row; count = t.count })
changed_by t p old row f long exists e =
    let change = row_changed t p row long exists in
    record { count = change.count; here = change.here ∙ e ∙ ap f (sym (row_at t p old long exists)); others = change.others }

-- and then once more
pub changed_then : {t u v : Table} {p : ℕ} {h : Held} (f : Held → Held) → Changed p h t u → Changed p (f (row_of u p)) u v → Changed p (f h) t v
changed_then f a b = record { count = b.count ∙ a.count; here = b.here ∙ ap f a.here; others = λ r n. b.others r n ∙ a.others r n }

-- what the row at a place holds
abbrev at : List Row → ℕ → Held
at rows q = get_or (map held rows) q idle

-- the rows below p are changed by f, and the others are as they were
pub record Reached (f : ℕ → Held → Held) (old new : List Row) (p : ℕ) : Type 0 where
  pub below : (q : ℕ) → q < p → at new q ≡ f q (at old q)
  pub above : (q : ℕ) → p ≤ q → at new q ≡ at old q

pub reached_none : (f : ℕ → Held → Held) (rows : List Row) → Reached f rows rows 0
reached_none f rows = record { below = λ q h. absurd (omega arith); above = λ q h. refl }

pub reached_more : (f : ℕ → Held → Held) (old new : List Row) (p : ℕ) (row d : Row) → p < length new → held row ≡ f p (held (get_or new p d)) → Reached f old new p → Reached f old (set new p row) (p + 1)
reached_more f old new p row d place e so_far = record {
  below = below_more (λ q. at (set new p row) q ≡ f q (at old q)) p
      (λ q h. let ne : q ≢ p = omega arith in other q ne ∙ so_far.below q h)
      (here ∙ e ∙ ap (f p) (sym (get_or-map held new p d idle place) ∙ so_far.above p (omega arith)));
  above = λ q h. let ne : q ≢ p = omega arith in other q ne ∙ so_far.above q (omega arith);
}
  where
    other : (q : ℕ) → q ≢ p → at (set new p row) q ≡ at new q
    other q ne = ap (λ hs. get_or hs q idle) (map-set held new p row) ∙ get_or-set_other (map held new) p q (held row) idle ne

    here : at (set new p row) p ≡ held row
    here = ap (λ hs. get_or hs p idle) (map-set held new p row) ∙ get_or-set_same (map held new) p (held row) idle (subst (λ n. p < n) (sym (length-map new held)) place)

pub reached_all : (f : ℕ → Held → Held) (t u : Table) (n : ℕ) → n ≡ processes t → u.count ≡ t.count → Reached f t.rows u.rows n → Changes f t u
reached_all f t u n e same all = record {
  count = same;
  rows = λ p h. let there : p < processes u = omega (arith, ap (λ k. min k 8) same) in
      cond-true (ltb p (processes u)) (at u.rows p) idle (lt-ltb p (processes u) there) ∙ all.below p (omega arith) ∙ ap (f p) (sym (cond-true (ltb p (processes t)) (at t.rows p) idle (lt-ltb p (processes t) h)));
}
