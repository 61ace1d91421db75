-- Histories: events, each upon the world that the one before it left.
use Rattle.std.specs.Prelude.{◌≡◌, ℕ, ◌≤◌, true, List, [], ◌∷◌, ◌++◌}
use Rattle.programs.specs.Program.{Meaning}
use Rattle.stores.specs.Calls.{unsafe_count}
use Rattle.stores.specs.Meaning as store
use Rattle.histories.specs.Ledger.{Event}
use Rattle.histories.specs.Rules.{rule}
use Rattle.histories.specs.World.{World, fresh}

-- the rule gives the answer and the world after it, and the store kept no more than it had
pub record Does (M : Meaning) (N : ℕ) (w : World) (e : Event) (v : World) : Type 0 where
  pub allowed : e.kept ≤ unsafe_count w.store
  pub ruled : (e.answer, v) ≡ rule M N e.kept w e.call

pub data History (M : Meaning) (N : ℕ) (first : World) : List Event → World → Type 0 where
  starts : History M N first [] first
  goes_on : {es : List Event} {w : World} → History M N first es w → (e : Event) (v : World) → Does M N w e v → History M N first (es ++ (e ∷ [])) v

-- a first world of now: a host made on an empty living store, of any capacity and with any fuse
abbrev pub First : Meaning → ℕ → World → Type 0
First M N w = (m : store.Meaning) × ((m.records ≡ []) × (m.safe ≡ 0) × (m.alive ≡ true) × (w ≡ fresh M N m))
