-- What a host holds between two calls.
use Rattle.std.specs.Prelude.{ℕ, Bool, true, false, cond, [], ◌==◌, nat_lt}
use Rattle.programs.specs.Program.{zeros}
use Rattle.programs.specs.Program as program
use Rattle.programs.specs.declared.values.State.{State}
use Rattle.stores.specs.Meaning as store
use Rattle.lines.specs.Intervals.{Family}
use Rattle.lines.specs.Lines.{Line}

-- by process: its intervals, how many of them are saved, whether it is up, and its state;
-- whether the host is dark, and what its store means
pub record World : Type 0 where
  pub intervals : Family
  pub saved : Line
  pub up : ℕ → Bool
  pub state : ℕ → State
  pub dark : Bool
  pub store : store.Meaning

-- a function changed at p
abbrev pub at : {X : Type 0} → (ℕ → X) → ℕ → X → ℕ → X
at f p y r = cond (r == p) y (f r)

-- as a host is made with N processes: all up, no interval; a process from N on is idle
abbrev pub fresh : program.Meaning → ℕ → store.Meaning → World
fresh M N m = record {
  intervals = λ p. [];
  saved = λ p. 0;
  up = λ p. nat_lt p N;
  state = λ p. cond (nat_lt p N) (M.start p) zeros;
  dark = false;
  store = m;
}

-- nothing stands and all are down: after the store died, or before it is read
abbrev pub darkened : store.Meaning → World → World
darkened m w = record { intervals = λ p. []; saved = λ p. 0; up = λ p. false; state = w.state; dark = true; store = m }
