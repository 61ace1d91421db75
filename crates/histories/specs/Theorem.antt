-- What holds of every history of a host.
use Rattle.std.specs.Prelude.{◌≡◌, ℕ, ◌-◌, ◌<◌, ◌≤◌, Bool, true, false, ◌&&◌, ◌||◌, List, [], ◌∷◌, map, length, take, ◌==◌, slice_index}
use Rattle.std.specs.List.{range_with_len}
use Rattle.programs.specs.Program.{Meaning}
use Rattle.runs.specs.Run.{Move}
use Rattle.lines.specs.Built.{Given}
use Rattle.lines.specs.Intervals.{play, outputs}
use Rattle.lines.specs.Lines.{Line, Greatest}
use Rattle.lines.specs.Played.{Recorded}
use Rattle.histories.specs.Calls as calls
use Rattle.histories.specs.Calls.{Call, Answer, accepted, refused}
use Rattle.histories.specs.History.{Does, History, First}
use Rattle.histories.specs.Ledger.{Event, Ledger, ledger, grounds, left_in}
use Rattle.histories.specs.Rules.{rule}
use Rattle.histories.specs.Tests.{committed, all_up}
use Rattle.histories.specs.World.{World}

-- an accepted input gave p the value v under n
abbrev pub fed : Call → Answer → ℕ → ℕ → ℕ → Bool
fed (calls.input q m u) (accepted ns) p n v = q == p && (m == n && u == v)
fed (calls.input q m u) (refused r) p n v = false
fed (calls.deliver s q) a p n v = false
fed (calls.save q) a p n v = false
fed (calls.mark q) a p n v = false
fed (calls.crash q) a p n v = false
fed calls.recover a p n v = false
fed (calls.fail k) a p n v = false
fed (calls.restart j) a p n v = false
fed (calls.show q m) a p n v = false
fed (calls.look q) a p n v = false

-- what some accepted input of the events gave
abbrev pub gave : List Event → Given
gave [] p n v = false
gave (e ∷ es) p n v = fed e.call e.answer p n v || gave es p n v

-- a host's world as a ledger would have it
abbrev pub entered : World → Ledger
entered w = record { intervals = w.intervals; saved = w.saved; up = w.up; records = w.store.records; safe = w.store.safe }

-- shape: host and ledger agree; indexes have no gap; up states are the records played from the start;
-- a down process has just the saved records, a dark host none
pub record Shape (M : Meaning) (es : List Event) (N : ℕ) (w : World) : Type 0 where
  pub agrees : ledger M N es ≡ entered w
  pub indexes : (p : ℕ) → map (λ x. x.index) (w.intervals p) ≡ range_with_len 1 (length (w.intervals p))
  pub played : (p : ℕ) → w.up p ≡ true → w.state p ≡ play M p (w.intervals p)
  pub just_saved : (p : ℕ) → w.up p ≡ false → w.saved p ≡ length (w.intervals p)
  pub dark_none : w.dark ≡ true → (p : ℕ) → w.intervals p ≡ []

-- the answered line is the greatest within what the ledger then has left
abbrev pub AnswersGreatest : ℕ → Ledger → List ℕ → Type 0
AnswersGreatest N l ns = (L : Line) × ((take N ns ≡ map L (range_with_len 0 N)) × Greatest N l.intervals (left_in l) L)

-- greatest: so does every recover or restart that is accepted next
pub record Recovers (M : Meaning) (N : ℕ) (es : List Event) (w : World) : Type 0 where
  pub recovers : (kept : ℕ) (ns : List ℕ) (v : World) → Does M N w (record { call = calls.recover; answer = accepted ns; kept = kept }) v → AnswersGreatest N (ledger M N es) ns
  pub restarts : (j kept : ℕ) (ns : List ℕ) (v : World) → Does M N w (record { call = calls.restart j; answer = accepted ns; kept = kept }) v →
      AnswersGreatest N (grounds N kept (calls.restart j) (ledger M N es)) ns

-- failure-free: with all processes up a run without failure that fits the history has the intervals as its steps,
-- and ends in the host's states, waiting messages and outputs
abbrev pub FailureFree : Meaning → ℕ → List Event → World → Type 0
FailureFree M N es w = all_up N w.up ≡ true → (moves : List Move) × Recorded M N (gave es) w.intervals moves

-- lasting: the committed line never falls while the host is not dark, the intervals up to it stay,
-- and what was shown is shown again with the same value
pub record Lasting (M : Meaning) (N : ℕ) (w v : World) : Type 0 where
  pub line : (p : ℕ) → p < N → committed N w p ≤ committed N v p
  pub intervals : (p : ℕ) → p < N → take (committed N w p) (v.intervals p) ≡ take (committed N w p) (w.intervals p)
  pub shows : (p n kept later : ℕ) (ns : List ℕ) (u : World) → (accepted ns, u) ≡ rule M N kept w (calls.show p n) → (accepted ns, v) ≡ rule M N later v (calls.show p n)

-- what holds of a history and of every way in which it goes on
pub record Claims (M : Meaning) (N : ℕ) (es : List Event) (w : World) : Type 0 where
  pub shape : Shape M es N w
  pub greatest : Recovers M N es w
  pub failure_free : FailureFree M N es w
  pub lasting : (later : List Event) (v : World) → History M N w later v → w.dark ≡ false → v.dark ≡ false → Lasting M N w v
  -- an accepted show answers the ledger's n-th output of p
  pub shows : (p n kept : ℕ) (ns : List ℕ) (u : World) → (accepted ns, u) ≡ rule M N kept w (calls.show p n) → ns ≡ slice_index (outputs ((ledger M N es).intervals p)) (n - 1) ∷ []

-- for every program meaning, up to eight processes, and every history from a first world
abbrev pub EveryHistory : Type 0
EveryHistory = (M : Meaning) (N : ℕ) → N ≤ 8 → (first : World) → First M N first → (es : List Event) (w : World) → History M N first es w → Claims M N es w
