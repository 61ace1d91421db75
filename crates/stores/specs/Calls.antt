-- What each call of a store answers, and the store after it.
use Rattle.std.specs.Prelude.{ℕ, ◌+◌, ◌-◌, Bool, true, false, cond, ◌||◌, List, [], ◌∷◌, ◌++◌, take, Some, None, Ok, Err, Option, Result, ◌==◌, nat_le, nat_lt, slice_index_or}
use Rattle.std.specs.Option.{unwrap_or}
use Rattle.std.specs.Result.{result_ok}
use Rattle.records.specs.declared.Record.{Record}
use Rattle.stores.specs.declared.power.Power.{Power}
use Rattle.stores.specs.Meaning.{Meaning, count}

-- an answer, its refusal by the number, and the store after it
abbrev pub Outcome : Type 0 → Type 0
Outcome T = Result T ℕ × Meaning

abbrev pub with_power : Power → Meaning → Meaning
with_power p m =
    record { records = m.records; capacity = m.capacity; safe = m.safe; alive = p.alive; fuse = p.fuse }

abbrev pub with_records : List Record → Meaning → Meaning
with_records xs m =
    record { records = xs; capacity = m.capacity; safe = m.safe; alive = m.alive; fuse = m.fuse }

abbrev pub all_safe : Meaning → Meaning
all_safe m =
    record { records = m.records; capacity = m.capacity; safe = count m; alive = m.alive; fuse = m.fuse }

-- what a write finds of power in a store that is alive: with fuse 0 the store dies, the fuse becomes unset and the refusal is 40;
-- else a set fuse falls by 1
abbrev pub spent : Bool → Option ℕ → Result (Unit {0}) ℕ × Power
spent alive None = (Ok tt, record { alive = alive; fuse = None })
spent alive (Some k) =
    cond (k == 0) (Err 40, record { alive = false; fuse = None }) (Ok tt, record { alive = alive; fuse = Some (k - 1) })

abbrev pub changed : (Meaning → Meaning) → Meaning → Result (Unit {0}) ℕ × Power → Outcome (Unit {0})
changed change m (Ok _, p) = (Ok tt, change (with_power p m))
changed change m (Err e, p) = (Err e, with_power p m)

-- a change for which there has to be power
abbrev pub powered : (Meaning → Meaning) → Meaning → Outcome (Unit {0})
powered change m = changed change m (spent m.alive m.fuse)

-- refused 40 when dead and 41 when full, which is at or above the capacity
abbrev pub appended : Record → Meaning → Outcome (Unit {0})
appended x m =
    cond m.alive
    (cond (nat_le m.capacity (count m)) (Err 41, m)
    (powered (λ n. with_records (n.records ++ x ∷ []) n) m))
    (Err 40, m)

abbrev pub synced : Meaning → Outcome (Unit {0})
synced m = cond m.alive (powered all_safe m) (Err 40, m)

-- dead or alive
abbrev pub armed : ℕ → Meaning → Meaning
armed k m = with_power (record { alive = m.alive; fuse = Some k }) m

-- record i, counted from 1, and the place that it is read into, which a refusal leaves as it was
abbrev pub fetched : ℕ → Meaning → Record → Result (Unit {0}) ℕ × Record
fetched i m place =
    cond m.alive
    (cond (i == 0 || nat_lt (count m) i) (Err 42, place) (Ok tt, slice_index_or m.records (i - 1) place))
    (Err 40, place)

-- the records that are not safe
abbrev pub unsafe_count : Meaning → ℕ
unsafe_count m = count m - m.safe

-- refused 43 when alive; else all safe records and the first `kept` of the others remain, all safe,
-- and the fuse stays: `kept` is the store's choice and its answer
abbrev pub revived : ℕ → Meaning → Outcome ℕ
revived kept m =
    cond m.alive (Err 43, m) (
      Ok kept,
      all_safe (with_power (record { alive = true; fuse = m.fuse })
          (with_records (take (m.safe + kept) m.records) m)),
    )

-- what a revive answered that it kept of the others: 0 where it was refused
abbrev pub kept : {E : Type 0} → Result ℕ E → ℕ
kept r = unwrap_or (result_ok r) 0

-- how many records the store has room for yet: none where it holds as many as its capacity, or more
abbrev pub room : Meaning → ℕ
room m = m.capacity - count m
