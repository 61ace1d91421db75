-- What a program means: its two functions, and the rule on targets.
use Rattle.std.specs.Prelude.{ℕ, ◌+◌, ◌%◌, ◌^◌, ◌<◌, None, Option}
use Rattle.std.specs.List.{All}
use Rattle.programs.specs.Values.{listed}
use Rattle.programs.specs.declared.values.State.{State}
use Rattle.programs.specs.declared.values.Send.{Send}
use Rattle.programs.specs.declared.values.Sends.{Sends}
use Rattle.programs.specs.declared.values.Sends.TheVariants.{Nothing}

-- what a step gives: the new state, the sends and the output
abbrev pub Step : Type 0
Step = State × Sends × Option ℕ

pub record Meaning : Type 0 where
  -- a process's first state
  pub start : ℕ → State
  -- by process, state, source (0 to 7 a process, 8 the outside) and value
  pub step : ℕ → State → ℕ → ℕ → Step

-- sends go to processes 0 to 7 only
abbrev pub Targeted : Meaning → Type 0
Targeted M = (p : ℕ) (s : State) (source value : ℕ) → All (λ m. m.target < 8) (listed (M.step p s source value).1)

-- The words that both programs of the house use.

-- every start of theirs
abbrev pub zeros : State
zeros = record { a = 0; b = 0; c = 0; d = 0 }

-- the state stays and nothing comes out
abbrev pub idle : State → Step
idle s = (s, Nothing, None)

-- a count wraps from the last 64-bit number to 0
abbrev pub one_more : ℕ → ℕ
one_more n = (n + 1) % 2 ^ 64

abbrev pub to : ℕ → ℕ → Send
to p v = record { target = p; value = v }
