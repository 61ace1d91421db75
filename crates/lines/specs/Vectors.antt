-- What a dependency vector tells of a line.
use Rattle.std.specs.Prelude.{ℕ, ◌<◌, ◌≤◌, List, take, slice_index}
use Rattle.lines.specs.Intervals.{Family, vector_after}
use Rattle.lines.specs.Lines.{Line}

abbrev pub entry : List ℕ → ℕ → ℕ
entry v r = slice_index v r

-- the vector at the line of each process is nowhere above the line
abbrev pub Covered : ℕ → Family → Line → Type 0
Covered N F L = (p r : ℕ) → p < N → r < N → entry (vector_after (take (L p) (F p))) r ≤ L r
