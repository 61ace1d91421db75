-- Frames in bytes, one behind the other.
use Rattle.std.specs.Prelude.{◌≡◌, ℕ, ◌+◌, ◌-◌, ◌≤◌, Some, None, Option, cond, List, [], ◌∷◌, ◌++◌, length, take, replicate, nat_le, slice_index}
use denote.Struct.Props.{props}
use Rattle.std.specs.List.{All, flat_map}
use Rattle.programs.specs.declared.values.Sends.{Sends}
use Rattle.programs.specs.declared.values.Sends.TheVariants.{Nothing, One, Two}
use Rattle.records.specs.declared.Content.{Content}
use Rattle.records.specs.declared.Content.TheVariants.{Interval, Checkpoint, Line}
use Rattle.records.specs.declared.Record.{Record}
use Rattle.frames.specs.Frames.{framed, Words, Word, Held, Typed}

-- bytes with zeros from a place on
abbrev pub zeroed : ℕ → List ℕ → List ℕ
zeroed e bs = take e bs ++ replicate (length bs - e) 0

-- the bytes are exactly the frames of the records, with zeros behind them
abbrev pub FramesAndZeros : List ℕ → List Record → Type 0
FramesAndZeros bytes records = bytes ≡ flat_map framed records ++ replicate (length bytes - length (flat_map framed records)) 0

-- they are, and `ends` says where the first k frames end
pub record Exact (bytes ends : List ℕ) (count : ℕ) (records : List Record) : Type 0 where
  pub number : length records ≡ count
  pub typed : All Typed records
  pub frames : FramesAndZeros bytes records
  pub places : (k : ℕ) → k ≤ count → slice_index ends k ≡ length (flat_map framed (take k records))

-- of frames in order, how many have their closing byte within the first j bytes
abbrev pub standing : ℕ → List Record → ℕ
standing j [] = 0
standing j (x ∷ xs) = cond (nat_le (length (framed x)) j) (1 + standing (j - length (framed x)) xs) 0

-- all of this is a fact with one proof at most, as a fact of a type's fields has to be
words_prop : (s : Sends) → IsProp (Words s)
words_prop Nothing = Prim.hlevel props
words_prop (One m) = Prim.hlevel props
words_prop (Two m n) = Prim.hlevel props

word_prop : (o : Option ℕ) → IsProp (Word o)
word_prop None = Prim.hlevel props
word_prop (Some v) = Prim.hlevel props

held_prop : (c : Content) → IsProp (Held c)
held_prop (Interval x) = Prim.hlevel (words_prop, word_prop, props)
held_prop (Checkpoint x) = Prim.hlevel props
held_prop (Line entries) = Prim.hlevel props

pub exact_prop : (bytes ends : List ℕ) (count : ℕ) (records : List Record) → IsProp (Exact bytes ends count records)
exact_prop bytes ends count records = Prim.hlevel (held_prop, props)
