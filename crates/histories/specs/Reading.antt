-- What a store's records tell: the saved intervals of each process, and the checkpoints that stand.
use Rattle.std.specs.Prelude.{◌≡◌, ℕ, ◌≤◌, cond, List, [], ◌∷◌, ◌++◌, length, take, fold, filter, nat_le, slice_index}
use Rattle.programs.specs.Program.{Meaning}
use Rattle.programs.specs.declared.values.State.{State}
use Rattle.records.specs.declared.Checkpoint.{Checkpoint}
use Rattle.records.specs.declared.Content.{Content}
use Rattle.records.specs.declared.Content.TheVariants as content
use Rattle.records.specs.declared.Interval.{Interval}
use Rattle.records.specs.declared.Record.{Record}
use Rattle.lines.specs.Intervals.{Family, play}
use Rattle.histories.specs.World.{at}

pub record Image : Type 0 where
  pub rows : Family
  pub checkpoints : ℕ → List Checkpoint

-- an interval goes to its process's row, a checkpoint is noted, and a line drops what is above it
abbrev pub noted : Image → Content → Image
noted i (content.Interval x) = record { rows = at i.rows x.process (i.rows x.process ++ (x ∷ [])); checkpoints = i.checkpoints }
noted i (content.Checkpoint c) = record { rows = i.rows; checkpoints = at i.checkpoints c.process (i.checkpoints c.process ++ (c ∷ [])) }
noted i (content.Line entries) = record {
  rows = λ p. take (slice_index entries p) (i.rows p);
  checkpoints = λ p. filter (λ c. nat_le c.index (slice_index entries p)) (i.checkpoints p);
}

abbrev pub reading : List Record → Image
reading rs = fold (λ i r. noted i r.content) (record { rows = λ p. []; checkpoints = λ p. [] }) rs

-- where a replay of process p begins: its highest checkpoint, of equal ones the last, or its start
abbrev pub origin : Meaning → ℕ → List Checkpoint → ℕ × State
origin M p cs = fold (λ best c. cond (nat_le best.0 c.index) (c.index, c.state) best) (0, M.start p) cs

-- a checkpoint lies within the intervals, and its state is that front of them played
abbrev pub PlayedFront : Meaning → ℕ → List Interval → Checkpoint → Type 0
PlayedFront M p xs c = (c.index ≤ length xs) × (c.state ≡ play M p (take c.index xs))
