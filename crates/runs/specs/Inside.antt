-- Facts on a runner's lists that only private functions promise one another.
use Rattle.std.specs.Prelude.{◌≡◌, ℕ, ◌<◌, List, ◌∷◌, ◌++◌, map, length, get_or, vec_items, Ok, Err, Result, slice_index_or, slice_set}
use Rattle.std.specs.List.{remove}
use Rattle.std.specs.Option.{option_to_list}
use Rattle.programs.specs.Program.{Meaning, zeros}
use Rattle.programs.specs.Values.{listed, reaching}
use Rattle.programs.specs.declared.values.Send.{Send}
use Rattle.runs.specs.Held.{count, channel, Unchanged}
use Rattle.runs.specs.declared.runner.Message.{Message}
use Rattle.runs.specs.declared.runner.Output.{Output}
use Rattle.runs.specs.declared.runner.RunError.{RunError}
use Rattle.runs.specs.declared.runner.RunError.TheVariants.{Memory}
use Rattle.runs.specs.declared.runner.Runner.{Runner}

-- a send of process p as a message, and an output of process p
abbrev pub message : ℕ → Send → Message
message p m = record { source = p; target = m.target; value = m.value }

abbrev pub output : ℕ → ℕ → Output
output p v = record { process = p; value = v }

-- without the message at i the channel from q to p has lost its first value, and no other channel anything
pub record Frees (q p i : ℕ) (ms : List Message) : Type 0 where
  pub within : i < length ms
  pub first : (d : Message) → channel q p ms ≡ (get_or ms i d).value ∷ channel q p (remove ms i)
  pub others : (r s : ℕ) → ((r ≡ q) × (s ≡ p) → ⊥) → channel r s (remove ms i) ≡ channel r s ms

-- one step, as the lists that a runner holds
pub record Stepped {P : Type 0} (M : Meaning) (p source value : ℕ) (a b : Runner P) : Type 0 where
  pub program : b.program ≡ a.program
  pub states : vec_items b.states ≡ slice_set (vec_items a.states) p (M.step p (slice_index_or (vec_items a.states) p zeros) source value).0
  pub waiting : vec_items b.waiting ≡ vec_items a.waiting ++ map (message p) (reaching (count a) (listed (M.step p (slice_index_or (vec_items a.states) p zeros) source value).1))
  pub outputs : vec_items b.outputs ≡ vec_items a.outputs ++ map (output p) (option_to_list (M.step p (slice_index_or (vec_items a.states) p zeros) source value).2)

-- the step was made, or there was no memory for what it might add
abbrev pub StepsOrNot : {P : Type 0} → Meaning → ℕ → ℕ → ℕ → Runner P → Runner P → Result (Unit {0}) RunError → Type 0
StepsOrNot M p source value a b (Ok _) = Stepped M p source value a b
StepsOrNot M p source value a b (Err e) = (e ≡ Memory) × Unchanged a b
