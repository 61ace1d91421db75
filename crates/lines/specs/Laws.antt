-- The laws of lines.
use Rattle.std.specs.Prelude.{◌≡◌, ℕ, ◌<◌, ◌≤◌, List, length}
use Rattle.programs.specs.Program.{Meaning}
use Rattle.runs.specs.Run.{Move}
use Rattle.lines.specs.Built.{Given, Built, cut}
use Rattle.lines.specs.Intervals.{Family}
use Rattle.lines.specs.Lines.{Line, Consistent, Greatest, greatest_line}
use Rattle.lines.specs.Played.{Recorded}
use Rattle.lines.specs.Vectors.{Covered}

-- a greatest line exists for every family and all counts
abbrev pub GreatestExists : Type 0
GreatestExists = (N : ℕ) (F : Family) (c : Line) → Greatest N F c (greatest_line N F c)

-- and is the only one
abbrev pub GreatestUnique : Type 0
GreatestUnique = (N : ℕ) (F : Family) (c K L : Line) → Greatest N F c K → Greatest N F c L → (p : ℕ) → p < N → K p ≡ L p

-- what a run has recorded, cut back to a consistent line, is what a run records, with the same inputs under the same numbers
abbrev pub CutRecords : Type 0
CutRecords = (M : Meaning) (N : ℕ) (given : Given) (F : Family) (L : Line) → Built M N given F → Consistent N F L → Built M N given (cut F L)

-- what was recorded is recorded by a run without failure, which ends as the intervals stand
abbrev pub RunRecords : Type 0
RunRecords = (M : Meaning) (N : ℕ) (given : Given) (F : Family) → N ≤ 8 → Built M N given F → (moves : List Move) × Recorded M N given F moves

-- a line within the rows is consistent exactly if it covers its vectors
abbrev pub VectorsTell : Type 0
VectorsTell = (M : Meaning) (N : ℕ) (given : Given) (F : Family) (L : Line) → N ≤ 8 → Built M N given F → ((p : ℕ) → p < N → L p ≤ length (F p)) →
    (Consistent N F L → Covered N F L) × (Covered N F L → Consistent N F L)
