-- The ten calls, and what they answer.
use Rattle.std.specs.Prelude.{ℕ, List}

pub data Call : Type 0 where
  -- p, n, v
  input : ℕ → ℕ → ℕ → Call
  -- q, p
  deliver : ℕ → ℕ → Call
  save : ℕ → Call
  mark : ℕ → Call
  crash : ℕ → Call
  recover : Call
  fail : ℕ → Call
  restart : ℕ → Call
  -- p, n
  show : ℕ → ℕ → Call
  look : ℕ → Call

-- the host's own refusals, and those that speak of the store
pub data Layer : Type 0 where
  host : Layer
  store : Layer

pub record Refusal : Type 0 where
  pub layer : Layer
  pub number : ℕ
  pub place : ℕ

pub data Answer : Type 0 where
  accepted : List ℕ → Answer
  refused : Refusal → Answer

-- an argument is refused at its position, a state at 0, the store at its record count
abbrev pub by_host : ℕ → ℕ → Refusal
by_host number place = record { layer = host; number = number; place = place }

abbrev pub by_store : ℕ → ℕ → Refusal
by_store number place = record { layer = store; number = number; place = place }
