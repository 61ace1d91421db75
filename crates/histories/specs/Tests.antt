-- What each call is refused for, in order: first its arguments from the left, then the state.
use Rattle.std.specs.Prelude.{ℕ, zero, suc, ◌+◌, Bool, true, false, cond, not, ◌&&◌, ◌||◌, List, [], ◌∷◌, length, take, drop, ◌==◌, nat_le, nat_lt}
use Rattle.records.specs.declared.Interval.{Interval}
use Rattle.stores.specs.Calls.{room}
use Rattle.stores.specs.Meaning as store
use Rattle.lines.specs.Intervals.{waiting, next_input, outputs}
use Rattle.lines.specs.Lines.{Line, greatest_line}
use Rattle.histories.specs.Calls.{Call, input, deliver, save, mark, crash, recover, fail, restart, show, look, Refusal, by_host, by_store}
use Rattle.histories.specs.World.{World}

-- a condition, and what is refused where it holds
abbrev pub Test : Type 0
Test = Bool × Refusal

-- p's records that are not saved
abbrev pub unsaved : World → ℕ → List Interval
unsaved w p = drop (w.saved p) (w.intervals p)

-- what a recovery may go back to: the saved count of a down process, the record number of an up one
abbrev pub left : World → Line
left w p = cond (w.up p) (length (w.intervals p)) (w.saved p)

-- the committed line: the greatest line within the saved counts, up or down
abbrev pub committed : ℕ → World → Line
committed N w = greatest_line N w.intervals w.saved

-- p's outputs in the intervals up to the committed line
abbrev pub shown : ℕ → World → ℕ → List ℕ
shown N w p = outputs (take (committed N w p) (w.intervals p))

abbrev pub all_up : ℕ → (ℕ → Bool) → Bool
all_up zero up = true
all_up (suc N) up = all_up N up && up N

-- some saved count is above the line
abbrev pub some_above : ℕ → Line → Line → Bool
some_above zero saved L = false
some_above (suc N) saved L = some_above N saved L || nat_lt (L N) (saved N)

-- the records that a recovery to the line appends: a line record, where some saved count is above it
abbrev pub line_records : ℕ → Line → Line → ℕ
line_records N saved L = cond (some_above N saved L) 1 0

-- 1: there is no such process
abbrev pub absent : ℕ → ℕ → ℕ → Test
absent N p position = (nat_le N p, by_host 1 position)

-- 2: n is 0 or over 96, k or j is over 65,535
abbrev pub no_number : ℕ → ℕ → Test
no_number n position = (n == 0 || nat_lt 96 n, by_host 2 position)

abbrev pub too_large : ℕ → ℕ → Test
too_large k position = (nat_lt 65535 k, by_host 2 position)

-- 10: the host is dark. 11: restart while it isn't
abbrev pub dark : World → Test
dark w = (w.dark, by_host 10 0)

abbrev pub awake : World → Test
awake w = (not w.dark, by_host 11 0)

-- 12: the process is down. 13: none is down
abbrev pub down : World → ℕ → Test
down w p = (not (w.up p), by_host 12 0)

abbrev pub none_down : ℕ → World → Test
none_down N w = (all_up N w.up, by_host 13 0)

-- 14 and 15: n is below or above the expected number
abbrev pub old_input : World → ℕ → ℕ → Test
old_input w p n = (nat_lt n (next_input (w.intervals p)), by_host 14 0)

abbrev pub early_input : World → ℕ → ℕ → Test
early_input w p n = (nat_lt (next_input (w.intervals p)) n, by_host 15 0)

-- 16: no message waits
abbrev pub none_waits : World → ℕ → ℕ → Test
none_waits w q p = (length (waiting w.intervals q p) == 0, by_host 16 0)

-- 17: the process has 96 intervals
abbrev pub full_row : World → ℕ → Test
full_row w p = (nat_le 96 (length (w.intervals p)), by_host 17 0)

-- 18: fewer free slots than records to append
abbrev pub no_room : World → ℕ → Test
no_room w n = (nat_lt (room w.store) n, by_store 18 (store.count w.store))

-- 19: the committed line has fewer than n outputs of p
abbrev pub not_committed : ℕ → World → ℕ → ℕ → Test
not_committed N w p n = (nat_lt (length (shown N w p)) n, by_host 19 0)

abbrev pub tests : ℕ → World → Call → List Test
tests N w (input p n v) = absent N p 1 ∷ no_number n 2 ∷ dark w ∷ down w p ∷ old_input w p n ∷ early_input w p n ∷ full_row w p ∷ []
tests N w (deliver q p) = absent N q 1 ∷ absent N p 2 ∷ dark w ∷ down w p ∷ none_waits w q p ∷ full_row w p ∷ []
tests N w (save p) = absent N p 1 ∷ dark w ∷ down w p ∷ no_room w (length (unsaved w p)) ∷ []
tests N w (mark p) = absent N p 1 ∷ dark w ∷ down w p ∷ no_room w (length (unsaved w p) + 1) ∷ []
tests N w (crash p) = absent N p 1 ∷ dark w ∷ down w p ∷ []
tests N w recover = dark w ∷ none_down N w ∷ no_room w (line_records N w.saved (greatest_line N w.intervals (left w))) ∷ []
tests N w (fail k) = too_large k 1 ∷ []
tests N w (restart j) = too_large j 1 ∷ awake w ∷ []
tests N w (show p n) = absent N p 1 ∷ no_number n 2 ∷ dark w ∷ not_committed N w p n ∷ []
tests N w (look p) = absent N p 1 ∷ dark w ∷ down w p ∷ []
