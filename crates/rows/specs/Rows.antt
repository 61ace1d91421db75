-- What a row holds, and what each change makes of it.
use Rattle.std.specs.Prelude.{ℕ, min, Bool, true, false, cond, List, [], ◌∷◌, ◌++◌, length, take, drop, Ok, Err, Result, nat_lt}
use Rattle.programs.specs.declared.values.State.{State}
use Rattle.records.specs.declared.Interval.{Interval}
use Rattle.rows.specs.declared.full.RowFull.{RowFull}
use Rattle.rows.specs.declared.row.Row.{Row}

-- the intervals that stand
abbrev pub standing : Row → List Interval
standing row = take row.count row.intervals

-- all that a row means: its places above the intervals that stand mean nothing
pub record Held : Type 0 where
  pub intervals : List Interval
  pub saved : ℕ
  pub up : Bool
  pub state : State

abbrev pub held : Row → Held
held row = record { intervals = standing row; saved = row.saved; up = row.up; state = row.state }

-- the intervals that are not saved
abbrev pub unsaved : Held → List Interval
unsaved h = drop h.saved h.intervals

-- a process that is up, with no intervals
abbrev pub fresh : State → Held
fresh s = record { intervals = []; saved = 0; up = true; state = s }

-- one interval more
abbrev pub grown : Interval → Held → Held
grown x h = record { intervals = h.intervals ++ (x ∷ []); saved = h.saved; up = h.up; state = h.state }

-- refused where 96 stand; and what the row then holds
abbrev pub pushed : Interval → Held → Result (Unit {0}) RowFull × Held
pushed x h = cond (nat_lt (length h.intervals) 96) (Ok tt, grown x h) (Err (record {}), h)

-- only the first n stand, and no more than that are saved
abbrev pub cut_to : ℕ → Held → Held
cut_to n h = record { intervals = take n h.intervals; saved = min h.saved n; up = h.up; state = h.state }

-- down, and only what is saved stands
abbrev pub crashed : Held → Held
crashed h = record { intervals = take h.saved h.intervals; saved = h.saved; up = false; state = h.state }

abbrev pub all_saved : Held → Held
all_saved h = record { intervals = h.intervals; saved = length h.intervals; up = h.up; state = h.state }

abbrev pub resumed : State → Held → Held
resumed s h = record { intervals = h.intervals; saved = h.saved; up = true; state = s }

abbrev pub at_state : State → Held → Held
at_state s h = record { intervals = h.intervals; saved = h.saved; up = h.up; state = s }
