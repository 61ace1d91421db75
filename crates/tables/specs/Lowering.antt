-- How a line is lowered until it is consistent.
use Rattle.std.specs.Prelude.{◌≡◌, ℕ, ◌<◌, ◌≤◌, Bool, true, false, List, [], length, take, sum, slice_index_or}
use Rattle.std.specs.List.{All}
use Rattle.records.specs.declared.Interval.{Interval}
use Rattle.lines.specs.Intervals.{Family}
use Rattle.lines.specs.Lines.{Line, Backed, Consistent, Within}
use Rattle.tables.specs.Answers.{line_of}

-- the rows have all intervals up to the line
abbrev pub RowsHold : ℕ → Family → List ℕ → Type 0
RowsHold N F xs = (p : ℕ) → p < N → line_of xs p ≤ length (F p)

-- n intervals are the longest front of xs that the line backs
pub record Longest (N : ℕ) (L : Line) (xs : List Interval) (n : ℕ) : Type 0 where
  pub within : n ≤ length xs
  pub backed : All (Backed N L) (take n xs)
  pub next : (d : Interval) → n < length xs → Backed N L (slice_index_or xs n d) → ⊥

-- ys is a lower line, and a consistent one within xs is still within it
pub record Lower (N : ℕ) (F : Family) (xs ys : List ℕ) : Type 0 where
  pub below : (p : ℕ) → line_of ys p ≤ line_of xs p
  pub keeps : (K : Line) → Consistent N F K → Within N F (line_of xs) K → Within N F (line_of ys) K

-- a process whose needs, a line, are nowhere above xs has intervals that need no more
abbrev pub Known : ℕ → Family → List ℕ → List (List ℕ) → Type 0
Known N F xs needs = (p : ℕ) → p < N → ((q : ℕ) → q < N → line_of (slice_index_or needs p []) q ≤ line_of xs q) → All (Backed N (line_of (slice_index_or needs p []))) (take (line_of xs p) (F p))

-- one round over all processes: lower unless the line was consistent
pub record Lowers (N : ℕ) (F : Family) (xs ys : List ℕ) (r : Bool) : Type 0 where
  pub lower : Lower N F xs ys
  pub less : r ≡ true → sum ys < sum xs
  pub stays : r ≡ false → Consistent N F (line_of ys)
