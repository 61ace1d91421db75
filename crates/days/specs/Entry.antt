-- The lines of a day: deliveries of stock and orders.
use Rattle.std.specs.Prelude.{◌≡◌, ℕ, ◌^◌, ◌<◌, List, ◌∷◌, ◌++◌, Ok, Err, codes, Result, ◌≢◌}
use Rattle.std.specs.Str.Parse.{IsNumeral, digits_value, without_leading_plus}
use Rattle.programs.specs.declared.orders.Order.{Order}
use Rattle.days.specs.declared.entry.BadLine.{BadLine}
use Rattle.days.specs.declared.entry.BadLine.TheVariants.{NoSuchWord, BadNumber}
use Rattle.days.specs.declared.entry.Entry.{Entry}
use Rattle.days.specs.declared.entry.Entry.TheVariants.{Stock, Placed}

-- a number is decimal digits, of which a plus may stand in front, and is below 4,294,967,296
abbrev pub Number : List ℕ → ℕ → Type 0
Number text n = IsNumeral 10 (without_leading_plus text) × (digits_value 10 (without_leading_plus text) < 2 ^ 32) × (n ≡ digits_value 10 (without_leading_plus text))

-- an order's number, a space, and its quantity
abbrev pub Spells : List ℕ → Order → Type 0
Spells text o = (a : List ℕ) × ((b : List ℕ) × ((text ≡ a ++ (32 ∷ b)) × Number a o.number × Number b o.quantity))

abbrev pub Says : List ℕ → Entry → Type 0
Says line (Stock pieces) = (text : List ℕ) × ((line ≡ codes "stock " ++ text) × Number text pieces)
Says line (Placed o) = (text : List ℕ) × ((line ≡ codes "order " ++ text) × Spells text o)

-- no line begins with the word
abbrev pub Lacks : List ℕ → List ℕ → Type 0
Lacks word line = (rest : List ℕ) → line ≢ word ++ rest

-- a line is read as what it says; else it has another word, or no such numbers after its word
abbrev pub Reads : List ℕ → Result Entry BadLine → Type 0
Reads line (Ok e) = Says line e
Reads line (Err NoSuchWord) = Lacks (codes "stock ") line × Lacks (codes "order ") line
Reads line (Err BadNumber) = ((Lacks (codes "stock ") line × Lacks (codes "order ") line) → ⊥) × ((e : Entry) → Says line e → ⊥)

abbrev pub bad_text : BadLine → List ℕ
bad_text NoSuchWord = codes "neither 'stock PIECES' nor 'order NUMBER PIECES'"
bad_text BadNumber = codes "not as many whole numbers below 4294967296 as wanted"
