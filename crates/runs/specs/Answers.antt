-- What a runner's calls answer, and what they leave.
use Rattle.std.specs.Prelude.{◌≡◌, ℕ, ◌<◌, ◌≤◌, ◌⊎◌, List, [], ◌++◌, length, Ok, Err, vec_items, Result, ◌≢◌}
use Rattle.std.specs.List.{All}
use Rattle.programs.specs.Program.{Meaning}
use Rattle.runs.specs.Run.{Configuration, Move, took, moved, Makes, Leads, Fresh}
use Rattle.runs.specs.Held.{count, configuration, Unchanged}
use Rattle.runs.specs.declared.runner.Output.{Output}
use Rattle.runs.specs.declared.runner.RunError.{RunError}
use Rattle.runs.specs.declared.runner.RunError.TheVariants.{ProcessCount, NoSuchProcess, NothingWaiting, Unsettled, Memory}
use Rattle.runs.specs.declared.runner.Runner.{Runner}

-- a runner of N processes, 1 to 8, is at the beginning of a run; want of memory can always be
abbrev pub Begins : {P : Type 0} → Meaning → P → ℕ → Result (Runner P) RunError → Type 0
Begins M program N (Ok r) = (r.program ≡ program) × (count r ≡ N) × Fresh M N (configuration r) × (vec_items r.outputs ≡ []) × (1 ≤ N) × (N ≤ 8)
Begins M program N (Err ProcessCount) = (N < 1) ⊎ (8 < N)
Begins M program N (Err NoSuchProcess) = ⊥
Begins M program N (Err Unsettled) = ⊥
Begins M program N (Err NothingWaiting) = ⊥
Begins M program N (Err Memory) = (1 ≤ N) × (N ≤ 8)

-- the outputs of all processes stay in the order in which they came
abbrev pub Grown : {P : Type 0} → Runner P → Runner P → Type 0
Grown a b = (os : List Output) × (vec_items b.outputs ≡ vec_items a.outputs ++ os)

-- one move was made, by the same program and processes
pub record Advanced {P : Type 0} (M : Meaning) (m : Move) (a b : Runner P) : Type 0 where
  pub program : b.program ≡ a.program
  pub processes : count b ≡ count a
  pub move : Makes M (count a) m (configuration a) (configuration b)
  pub grown : Grown a b

-- take (p, v): refused only for a process that does not exist, or for want of memory
abbrev pub Takes : {P : Type 0} → Meaning → ℕ → ℕ → Runner P → Runner P → Result (Unit {0}) RunError → Type 0
Takes M p v a b (Ok _) = Advanced M (took p v) a b
Takes M p v a b (Err ProcessCount) = ⊥
Takes M p v a b (Err NoSuchProcess) = (count a ≤ p) × Unchanged a b
Takes M p v a b (Err Unsettled) = ⊥
Takes M p v a b (Err NothingWaiting) = ⊥
Takes M p v a b (Err Memory) = (p < count a) × Unchanged a b

-- move (q, p): answers the value that moved; an empty channel allows no move
abbrev pub Moves : {P : Type 0} → Meaning → ℕ → ℕ → Runner P → Runner P → Result ℕ RunError → Type 0
Moves M q p a b (Ok v) = Advanced M (moved q p v) a b
Moves M q p a b (Err ProcessCount) = ⊥
Moves M q p a b (Err NoSuchProcess) = ((count a ≤ q) ⊎ (count a ≤ p)) × Unchanged a b
Moves M q p a b (Err Unsettled) = ⊥
Moves M q p a b (Err NothingWaiting) = (q < count a) × (p < count a) × ((configuration a).waiting q p ≡ []) × Unchanged a b
Moves M q p a b (Err Memory) = (q < count a) × (p < count a) × ((configuration a).waiting q p ≢ []) × Unchanged a b

-- nothing waits
abbrev pub Quiet : Configuration → Type 0
Quiet c = (q p : ℕ) → c.waiting q p ≡ []

-- a delivery, and no input
abbrev pub Delivery : Move → Type 0
Delivery (took p v) = ⊥
Delivery (moved q p v) = Unit {0}

-- deliveries were made, as many as the list has, by the same program and processes
pub record Delivered {P : Type 0} (M : Meaning) (ms : List Move) (a b : Runner P) : Type 0 where
  pub program : b.program ≡ a.program
  pub processes : count b ≡ count a
  pub deliveries : All Delivery ms
  pub moves : Leads M (count a) ms (configuration a) (configuration b)
  pub grown : Grown a b

-- settling: deliveries until nothing waits; refused if something still waits after as many as the limit.
-- Want of memory ends it after some of them
abbrev pub Settles : {P : Type 0} → Meaning → ℕ → Runner P → Runner P → Result (Unit {0}) RunError → Type 0
Settles M limit a b (Ok _) = (ms : List Move) × (Delivered M ms a b × (length ms ≤ limit) × Quiet (configuration b))
Settles M limit a b (Err ProcessCount) = ⊥
Settles M limit a b (Err NoSuchProcess) = ⊥
Settles M limit a b (Err NothingWaiting) = ⊥
Settles M limit a b (Err Unsettled) = (ms : List Move) × (Delivered M ms a b × (length ms ≡ limit) × (Quiet (configuration b) → ⊥))
Settles M limit a b (Err Memory) = (ms : List Move) × (Delivered M ms a b × (length ms < limit))
