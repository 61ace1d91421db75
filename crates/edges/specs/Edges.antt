-- The table of edge cases, each an instance of a rule that is easily got wrong.
use Rattle.std.specs.Prelude.{◌≡◌, ℕ, List, [], ◌∷◌, map, Some, None}
use Rattle.std.specs.List.{range_with_len}
use Rattle.programs.specs.Program.{to}
use Rattle.programs.specs.Relay.{relay, stirred}
use Rattle.programs.specs.declared.values.Sends.TheVariants.{Nothing, One}
use Rattle.programs.specs.declared.values.State.{State}
use Rattle.lines.specs.Lines.{greatest_line}
use Rattle.frames.specs.Reads.{LineBytes}
use Rattle.byte_store.specs.Bytes.{LineStands}
use Rattle.edges.specs.Story.{story, counts}

-- the greatest line within the counts, as its three entries
abbrev pub line_within : ℕ → ℕ → ℕ → List ℕ
line_within a b c = map (greatest_line 3 story (counts a b c)) (range_with_len 0 3)

pub record Edges : Type 0 where
  -- the relay at process 2, in any state and from any source: 513 sends 512 to process 0, and 512 is output
  pub relay_sends : (s : State) (source : ℕ) → relay.step 2 s source 513 ≡ (stirred s 513, One (to 0 512), None)
  pub relay_outputs : (s : State) (source : ℕ) → relay.step 2 s source 512 ≡ (stirred s 512, Nothing, Some 512)
  -- the picking note's interval goes with stock's lost interval; with nothing lost nothing goes
  pub line_lost : line_within 1 0 1 ≡ 1 ∷ 0 ∷ 0 ∷ []
  pub line_whole : line_within 1 2 1 ≡ 1 ∷ 2 ∷ 1 ∷ []
  -- the line 1 and then zeros has the frame 0B 00 03 00 01 00 .. 00 5A, of 13 bytes
  pub line_frame : LineBytes
  -- where it is the only unsafe record, a revive with 12 of its bytes keeps none, and with 13 one
  pub line_stands : LineStands
