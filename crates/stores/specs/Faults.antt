-- The numbers of a store's refusals, and a call's answer with them.
use Rattle.std.specs.Prelude.{ℕ, List, Ok, Err, Result, codes}
use Rattle.stores.specs.declared.fault.Fault.{Fault}
use Rattle.stores.specs.declared.fault.Fault.TheVariants.{Dead, Full, NoRecord, Alive}

abbrev pub number : Fault → ℕ
number Dead = 40
number Full = 41
number NoRecord = 42
number Alive = 43

-- a fault in words
abbrev pub fault_text : Fault → List ℕ
fault_text Dead = codes "the store has no power"
fault_text Full = codes "the store is full"
fault_text NoRecord = codes "the store has no record at that place"
fault_text Alive = codes "the store has power, and is not revived"

-- an answer, its refusal by the number
abbrev pub answer : {T : Type 0} → Result T Fault → Result T ℕ
answer (Ok x) = Ok x
answer (Err e) = Err (number e)
