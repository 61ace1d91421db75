-- What holds of a store whatever is called.
use Rattle.std.specs.Prelude.{◌≡◌, ℕ, ◌≤◌, List, [], ◌∷◌, take}
use Rattle.records.specs.declared.Record.{Record}
use Rattle.stores.specs.Calls.{appended, synced, armed, revived}
use Rattle.stores.specs.Meaning.{Meaning, count}

-- the calls that change a store, a revive with what the store chose to keep
pub data Call : Type 0 where
  append : Record → Call
  sync : Call
  arm : ℕ → Call
  revive : ℕ → Call

abbrev pub after : Call → Meaning → Meaning
after (append x) m = (appended x m).1
after sync m = (synced m).1
after (arm k) m = armed k m
after (revive kept) m = (revived kept m).1

abbrev pub after_all : List Call → Meaning → Meaning
after_all [] m = m
after_all (c ∷ cs) m = after_all cs (after c m)

-- what was safe still stands, unchanged and safe
pub record Stands (before later : Meaning) : Type 0 where
  pub records : take before.safe later.records ≡ take before.safe before.records
  pub safe : before.safe ≤ later.safe
  pub within : later.safe ≤ count later

-- no calls, in any order, refused or not, and no loss of power take or change a safe record
abbrev pub Lasting : Meaning → Type 0
Lasting m = (calls : List Call) → Stands m (after_all calls m)

abbrev pub SafeRecordsLast : Type 0
SafeRecordsLast = (m : Meaning) → m.safe ≤ count m → Lasting m
