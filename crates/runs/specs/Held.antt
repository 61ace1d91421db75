-- What a runner holds, read as the configuration of a run.
use Rattle.std.specs.Prelude.{◌≡◌, ℕ, ◌&&◌, List, map, vec_items, vec_len, filter, ◌==◌, nat_eq, slice_index_or}
use Rattle.programs.specs.Program.{zeros}
use Rattle.programs.specs.declared.values.State.{State}
use Rattle.runs.specs.Run.{Configuration}
use Rattle.runs.specs.declared.runner.Message.{Message}
use Rattle.runs.specs.declared.runner.Output.{Output}
use Rattle.runs.specs.declared.runner.Runner.{Runner}

-- the number of processes
abbrev pub count : {P : Type 0} → Runner P → ℕ
count r = vec_len r.states

-- a channel is what waits from q to p, in order
abbrev pub channel : ℕ → ℕ → List Message → List ℕ
channel q p ms = map (λ m. m.value) (filter (λ m. (m.source == q) && m.target == p) ms)

abbrev pub outputs_of : ℕ → List Output → List ℕ
outputs_of p os = map (λ o. o.value) (filter (λ o. nat_eq o.process p) os)

abbrev pub of_lists : List State → List Message → List Output → Configuration
of_lists ss ms os = record {
  state = λ p. slice_index_or ss p zeros;
  waiting = λ q p. channel q p ms;
  outputs = λ p. outputs_of p os;
}

abbrev pub configuration : {P : Type 0} → Runner P → Configuration
configuration r = of_lists (vec_items r.states) (vec_items r.waiting) (vec_items r.outputs)

-- nothing that a runner holds has changed
pub record Unchanged {P : Type 0} (a b : Runner P) : Type 0 where
  pub program : b.program ≡ a.program
  pub states : vec_items b.states ≡ vec_items a.states
  pub waiting : vec_items b.waiting ≡ vec_items a.waiting
  pub outputs : vec_items b.outputs ≡ vec_items a.outputs
