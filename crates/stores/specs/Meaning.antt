-- What a store is to those who call it.
use Rattle.std.specs.Prelude.{ℕ, Bool, ◌≤◌, List, length, Option}
use Rattle.records.specs.declared.Record.{Record}

pub record Meaning : Type 0 where
  pub records : List Record
  pub capacity : ℕ
  -- how many of the records, from the first on, are sure to stand after a loss of power
  pub safe : ℕ
  pub alive : Bool
  -- how many more writes the store takes before it dies; unset, it does not die
  pub fuse : Option ℕ

abbrev pub count : Meaning → ℕ
count m = length m.records

-- what holds of each store; that it holds no more than its capacity is not said
pub record Sound (m : Meaning) : Type 0 where
  pub bounded : m.capacity ≤ 4096
  pub within : m.safe ≤ count m
