-- What a power cut at a sync, and a revive after it, make of a store.
use Rattle.std.specs.Prelude.{◌≡◌, ◌-◌, ◌≤◌, Ok, Err, Result}
use Rattle.stores.specs.Calls.{Outcome, synced, armed, revived, unsafe_count}
use Rattle.stores.specs.Faults.{number}
use Rattle.stores.specs.Meaning.{Meaning, count}
use Rattle.stores.specs.declared.fault.Fault.{Fault}
use Rattle.store_drill.specs.declared.drill.Loss.{Loss}

-- the power goes at a sync
abbrev pub cut : Meaning → Outcome (Unit {0})
cut m = synced (armed 0 m)

-- what a store held before it was revived, and after
pub record Revived (before now_held : Meaning) (loss : Loss) : Type 0 where
  pub choice : loss.kept ≤ unsafe_count before
  pub after : (Ok loss.kept, now_held) ≡ revived loss.kept before
  pub stood : loss.stood ≡ count now_held
  pub lost : loss.lost ≡ count before - count now_held

-- a refusal leaves the store as it was
abbrev pub Restored : Meaning → Meaning → Result Loss Fault → Type 0
Restored before after (Ok loss) = Revived before after loss
Restored before after (Err e) = (Err (number e), after) ≡ revived 0 before
