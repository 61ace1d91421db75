-- What a table holds once a store is read into it.
use Rattle.std.specs.Prelude.{◌≡◌, ℕ, ◌+◌, false, cond, List, [], length, take, drop, ◌==◌, nat_lt, slice_index}
use Rattle.std.specs.List.{enumerate_from}
use Rattle.programs.specs.declared.values.State.{State}
use Rattle.records.specs.declared.Content.{Content}
use Rattle.records.specs.declared.Content.TheVariants as content
use Rattle.records.specs.declared.Interval.{Interval}
use Rattle.records.specs.declared.Record.{Record}
use Rattle.stores.specs.Meaning as store
use Rattle.lines.specs.Intervals.{Family}
use Rattle.rows.specs.Rows.{Held, pushed, cut_to}
use Rattle.tables.specs.Tables.{processes, row_of}
use Rattle.tables.specs.declared.table.Table.{Table}
use Rattle.histories.specs.Reading.{reading}

-- what can be read of a store: its records, and none while it is dead
abbrev pub readable : store.Meaning → List Record
readable m = cond m.alive m.records []

-- what is still to be read once so many records are passed: each with its number, counted from 1
abbrev pub unread : store.Meaning → ℕ → List (ℕ × Record)
unread m passed = enumerate_from (passed + 1) (drop passed (readable m))

-- down, and nothing stands
abbrev pub emptied : Held → Held
emptied h = record { intervals = []; saved = 0; up = false; state = h.state }

-- what one record makes of the row of process p: an interval beyond the 96th is passed over
abbrev pub noted_row : Content → ℕ → Held → Held
noted_row (content.Interval x) p h = cond (p == x.process) (pushed x h).1 h
noted_row (content.Checkpoint c) p h = h
noted_row (content.Line entries) p h = cut_to (slice_index entries p) h

-- of N processes, what the records tell of each
abbrev pub recalled : ℕ → List Record → Family
recalled N rs p = cond (nat_lt p N) (take 96 ((reading rs).rows p)) []

-- down, and all of it saved
abbrev pub saved_row : List Interval → State → Held
saved_row xs s = record { intervals = xs; saved = length xs; up = false; state = s }

-- every process is down and holds what can be read of it, all saved; the states are as they were
pub record Loaded (m : store.Meaning) (t u : Table) : Type 0 where
  pub count : u.count ≡ t.count
  pub rows : (p : ℕ) → row_of u p ≡ saved_row (recalled (processes t) (readable m) p) (row_of t p).state
