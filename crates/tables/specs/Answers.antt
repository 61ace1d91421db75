-- What the search for a message and the greatest line answer.
use Rattle.std.specs.Prelude.{◌≡◌, ℕ, ◌<◌, List, slice_index}
use Rattle.lines.specs.Intervals.{Family, Message}
use Rattle.lines.specs.Lines.{Line, Greatest, greatest_line}
use Rattle.tables.specs.declared.channel.Waiting.{Waiting}

-- what a search found, as a message
abbrev pub as_message : Waiting → Message
as_message m = record { value = m.value; sent_at = m.sent_at }

-- a list of entries as a line
abbrev pub line_of : List ℕ → Line
line_of xs p = slice_index xs p

-- the line is the one that the definition names, it is the greatest, and no other is
pub record GreatestLine (N : ℕ) (F : Family) (c : Line) (L : Line) : Type 0 where
  pub value : (p : ℕ) → L p ≡ greatest_line N F c p
  pub greatest : Greatest N F c L
  pub only : (K : Line) → Greatest N F c K → (p : ℕ) → p < N → K p ≡ L p
