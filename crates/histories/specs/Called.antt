-- What each call of a host promises, beside its answer.
use Rattle.std.specs.Prelude.{◌≡◌, ℕ, true, List, [], ◌∷◌, ◌++◌}
use Rattle.std.specs.List.{All}
use Rattle.programs.specs.Program.{Meaning}
use Rattle.lines.specs.Intervals.{play}
use Rattle.histories.specs.History.{Does, History, First}
use Rattle.histories.specs.Ledger.{Event}
use Rattle.histories.specs.Reading.{PlayedFront, reading}
use Rattle.histories.specs.World.{World}

-- what ties a host to its program: the state of an up process is its intervals played from the start,
-- and the state of each checkpoint that stands is the front of its process's saved intervals played
pub record Tied (M : Meaning) (w : World) : Type 0 where
  pub states : (p : ℕ) → w.up p ≡ true → w.state p ≡ play M p (w.intervals p)
  pub checkpoints : (p : ℕ) → All (PlayedFront M p ((reading w.store.records).rows p)) ((reading w.store.records).checkpoints p)

-- a host that was made, and then called
pub record Reached (M : Meaning) (N : ℕ) (w : World) : Type 0 where
  pub first : World
  pub made : First M N first
  pub events : List Event
  pub history : History M N first events w

-- the call's rule gives its answer and the world after it; every history goes on by it; and a host that was made stays one, tied to its program
pub record Called (M : Meaning) (N : ℕ) (w : World) (e : Event) (v : World) : Type 0 where
  pub does : Does M N w e v
  pub goes_on : (first : World) (es : List Event) → History M N first es w → History M N first (es ++ (e ∷ [])) v
  pub stays_made : Reached M N w → Reached M N v × Tied M v
