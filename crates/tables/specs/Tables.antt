-- What a table holds, by process number.
use Rattle.std.specs.Prelude.{◌≡◌, ℕ, ◌<◌, min, false, cond, [], map, replicate, ◌≢◌, nat_lt, slice_index_or}
use Rattle.programs.specs.Program.{zeros}
use Rattle.programs.specs.declared.values.State.{State}
use Rattle.lines.specs.Intervals.{Family}
use Rattle.rows.specs.Rows.{Held, held, fresh}
use Rattle.tables.specs.declared.table.Table.{Table}

-- how many processes there are: a count above 8 means 8
abbrev pub processes : Table → ℕ
processes t = min t.count 8

-- what is no process is down and has no intervals
abbrev pub idle : Held
idle = record { intervals = []; saved = 0; up = false; state = zeros }

-- what each process holds
abbrev pub row_of : Table → ℕ → Held
row_of t p = cond (nat_lt p (processes t)) (slice_index_or (map held t.rows) p idle) idle

-- the intervals of each process
abbrev pub family : Table → Family
family t p = (row_of t p).intervals

-- a table whose processes are all up, with no intervals
pub record New (n : ℕ) (s : State) (t : Table) : Type 0 where
  pub count : t.count ≡ n
  pub rows : map held t.rows ≡ replicate 8 (fresh s)

-- process p now holds h, and nothing else has changed
pub record Changed (p : ℕ) (h : Held) (t u : Table) : Type 0 where
  pub count : u.count ≡ t.count
  pub here : row_of u p ≡ h
  pub others : (r : ℕ) → (r ≢ p) → row_of u r ≡ row_of t r

-- the row of each process is changed, and nothing else
pub record Changes (change : ℕ → Held → Held) (t u : Table) : Type 0 where
  pub count : u.count ≡ t.count
  pub rows : (p : ℕ) → p < processes t → row_of u p ≡ change p (row_of t p)
