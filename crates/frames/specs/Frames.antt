-- The frame of a record: length and kind, the fields, a closing byte.
use Rattle.std.specs.Prelude.{◌≡◌, ℕ, ◌+◌, ◌/◌, ◌%◌, ◌^◌, ◌<◌, List, [], ◌∷◌, ◌++◌, length, take, drop, Some, None, Option}
use Rattle.programs.specs.declared.values.Send.{Send}
use Rattle.programs.specs.declared.values.Sends.{Sends}
use Rattle.programs.specs.declared.values.Sends.TheVariants.{Nothing, One, Two}
use Rattle.records.specs.declared.Content.{Content}
use Rattle.records.specs.declared.Content.TheVariants.{Interval, Checkpoint, Line}
use Rattle.records.specs.declared.Record.{Record}

-- a number in two and in eight bytes, the lowest first
abbrev pub short : ℕ → List ℕ
short n = n % 256 ∷ n / 256 % 256 ∷ []

abbrev pub word : ℕ → List ℕ
word n =
    n % 256 ∷ n / 256 % 256 ∷ n / 65536 % 256 ∷ n / 16777216 % 256 ∷ n / 4294967296 % 256
    ∷ n / 1099511627776 % 256 ∷ n / 281474976710656 % 256 ∷ n / 72057594037927936 % 256 ∷ []

-- a send is its target and its value, an absent one zero
abbrev pub sent : Send → List ℕ
sent m = m.target ∷ word m.value

abbrev pub unsent : List ℕ
unsent = 0 ∷ word 0

-- the send count and two sends
abbrev pub sends_part : Sends → List ℕ
sends_part Nothing = 0 ∷ unsent ++ unsent
sends_part (One m) = 1 ∷ sent m ++ unsent
sends_part (Two m n) = 2 ∷ sent m ++ sent n

-- the output flag and the output, an absent one zero
abbrev pub output_part : Option ℕ → List ℕ
output_part None = 0 ∷ word 0
output_part (Some v) = 1 ∷ word v

abbrev pub kind : Content → ℕ
kind (Interval _) = 1
kind (Checkpoint _) = 2
kind (Line _) = 3

-- the length counts what follows it: the kind, the fields and the closing byte
abbrev pub long : Content → ℕ
long (Interval _) = 51
long (Checkpoint _) = 37
long (Line _) = 11

abbrev pub fields : Content → List ℕ
fields (Interval x) =
    x.process ∷ x.index ∷ x.source ∷ x.sent_at ∷ []
    ++ word x.value
    ++ sends_part x.sends
    ++ output_part x.output
    ++ x.vector
fields (Checkpoint x) =
    x.process ∷ x.index ∷ [] ++ word x.state.a ++ word x.state.b ++ word x.state.c ++ word x.state.d
fields (Line entries) = entries

abbrev pub framed : Record → List ℕ
framed r = short (long r.content) ++ short (kind r.content) ++ fields r.content ++ 0x5A ∷ []

-- the bytes of a whole frame
abbrev pub size : Record → ℕ
size r = 2 + long r.content

-- what the types of the code hold a record to: words below 2 to the power 64, eight entries
abbrev pub Words : Sends → Type 0
Words Nothing = Unit {0}
Words (One m) = m.value < 2 ^ 64
Words (Two m n) = (m.value < 2 ^ 64) × (n.value < 2 ^ 64)

abbrev pub Word : Option ℕ → Type 0
Word None = Unit {0}
Word (Some v) = v < 2 ^ 64

abbrev pub Held : Content → Type 0
Held (Interval x) = (x.value < 2 ^ 64) × Words x.sends × Word x.output × (length x.vector ≡ 8)
Held (Checkpoint x) = (x.state.a < 2 ^ 64) × (x.state.b < 2 ^ 64) × (x.state.c < 2 ^ 64) × (x.state.d < 2 ^ 64)
Held (Line entries) = length entries ≡ 8

abbrev pub Typed : Record → Type 0
Typed r = Held r.content

-- `part` was written at `at`: `stop` is the place behind it, and nothing else changed
pub record Wrote (was : List ℕ) (at : ℕ) (part : List ℕ) (out : List ℕ) (end : ℕ) : Type 0 where
  pub stop : end ≡ at + length part
  pub front : take end out ≡ take at was ++ part
  pub back : drop end out ≡ drop end was
