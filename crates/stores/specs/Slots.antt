-- The records of a slot store, and its slots after a record more.
use Rattle.std.specs.Prelude.{ℕ, min, List, take, slice_set}
use Rattle.records.specs.declared.Record.{Record}
use Rattle.stores.specs.declared.slots.Slots.{Slots}

-- the list is the first slots
abbrev pub listed : Slots → List Record
listed s = take s.count s.slots.now

-- the capacity over so many slots
abbrev pub room_of : ℕ → ℕ
room_of n = min n 4096

-- the one slot behind the list is written; every other is as it was
abbrev pub filled : Slots → Record → List Record
filled s x = slice_set s.slots.now s.count x
