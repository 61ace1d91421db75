-- How what was recorded stands, and which run without failure records it.
use Rattle.std.specs.Prelude.{◌≡◌, ℕ, ◌+◌, ◌<◌, cond, List, [], ◌∷◌, map, length, ◌==◌, slice_index}
use Rattle.std.specs.List.{flat_map}
use Rattle.programs.specs.Program.{Meaning}
use Rattle.records.specs.declared.Interval.{Interval}
use Rattle.runs.specs.Run.{Configuration, Move, took, moved, Run}
use Rattle.lines.specs.Built.{Given, Gives}
use Rattle.lines.specs.Intervals.{Family, play, waiting, outputs}

-- the states, waiting values and outputs of what was recorded
abbrev pub stand : Meaning → Family → Configuration
stand M F = record {
  state = λ p. play M p (F p);
  waiting = λ q p. map (λ m. m.value) (waiting F q p);
  outputs = λ p. outputs (F p);
}

-- the source and the value of a move at p
abbrev pub step_at : ℕ → Move → List (ℕ × ℕ)
step_at p (took r v) = cond (r == p) ((8, v) ∷ []) []
step_at p (moved q r v) = cond (r == p) ((q, v) ∷ []) []

abbrev pub input_at : ℕ → Move → List ℕ
input_at p (took r v) = cond (r == p) (v ∷ []) []
input_at p (moved q r v) = []

-- the steps of p in a run, and its inputs among them
abbrev pub steps_at : ℕ → List Move → List (ℕ × ℕ)
steps_at p ms = flat_map (step_at p) ms

abbrev pub inputs_at : ℕ → List Move → List ℕ
inputs_at p ms = flat_map (input_at p) ms

-- the n-th input of each process has a value that it was given under n
abbrev pub Fits : Given → List Move → Type 0
Fits given ms = (p k : ℕ) → k < length (inputs_at p ms) → Gives given p (k + 1) (slice_index (inputs_at p ms) k)

-- a run without failure whose steps are the intervals, in order at each process, and which ends as they stand
pub record Recorded (M : Meaning) (N : ℕ) (given : Given) (F : Family) (moves : List Move) : Type 0 where
  pub run : Run M N moves (stand M F)
  pub steps : (p : ℕ) → steps_at p moves ≡ map (λ (x : Interval). (x.source, x.value)) (F p)
  pub fits : Fits given moves
