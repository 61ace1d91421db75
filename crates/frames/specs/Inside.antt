-- What only private functions promise one another.
use Rattle.std.specs.Prelude.{◌≡◌, ℕ, List, length}
use Rattle.frames.specs.Frames.{Wrote}
use Rattle.frames.specs.declared.write.Pen.{Pen}

-- the pen wrote the part at its place, and stands behind it in the same bytes
pub record Puts (a : Pen) (part : List ℕ) (b : Pen) : Type 0 where
  pub lent : b.out.ghost_name ≡ a.out.ghost_name
  pub room : length b.out.now ≡ length a.out.now
  pub wrote : Wrote a.out.now a.at part b.out.now b.at
