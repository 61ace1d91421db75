-- Reading a frame back: a record is read exactly where its own frame stands, byte for byte.
use Rattle.std.specs.Prelude.{◌≡◌, ℕ, zero, suc, ◌+◌, ◌*◌, ◌<◌, Bool, cond, List, [], ◌∷◌, ◌++◌, length, take, drop, replicate, Some, None, Option, ◌==◌, slice_index}
use Rattle.std.specs.List.{flat_map, All}
use Rattle.std.specs.Str.{bytes_eq}
use Rattle.programs.specs.declared.values.Send.{Send}
use Rattle.programs.specs.declared.values.Sends.{Sends}
use Rattle.programs.specs.declared.values.Sends.TheVariants.{Nothing, One, Two}
use Rattle.records.specs.declared.Content.{Content}
use Rattle.records.specs.declared.Content.TheVariants.{Interval, Checkpoint, Line}
use Rattle.records.specs.declared.Record.{Record}
use Rattle.frames.specs.Frames.{framed, Typed}

-- what stands at a place; a missing byte counts as 0
abbrev pub word_at : List ℕ → ℕ → ℕ
word_at bs i =
    slice_index bs i + slice_index bs (i + 1) * 256 + slice_index bs (i + 2) * 65536 + slice_index bs (i + 3) * 16777216
    + slice_index bs (i + 4) * 4294967296 + slice_index bs (i + 5) * 1099511627776 + slice_index bs (i + 6) * 281474976710656
    + slice_index bs (i + 7) * 72057594037927936

abbrev pub entries_at : List ℕ → ℕ → List ℕ
entries_at bs i =
    slice_index bs i ∷ slice_index bs (i + 1) ∷ slice_index bs (i + 2) ∷ slice_index bs (i + 3)
    ∷ slice_index bs (i + 4) ∷ slice_index bs (i + 5) ∷ slice_index bs (i + 6) ∷ slice_index bs (i + 7) ∷ []

abbrev pub send_at : List ℕ → ℕ → Send
send_at bs i = record { target = slice_index bs i; value = word_at bs (i + 1) }

abbrev pub sends_at : List ℕ → Sends
sends_at bs =
    cond (slice_index bs 16 == 0) Nothing
    (cond (slice_index bs 16 == 1) (One (send_at bs 17)) (Two (send_at bs 17) (send_at bs 26)))

abbrev pub output_at : List ℕ → Option ℕ
output_at bs = cond (slice_index bs 35 == 0) None (Some (word_at bs 36))

abbrev pub interval_at : List ℕ → Content
interval_at bs =
    Interval (record {
      process = slice_index bs 4;
      index = slice_index bs 5;
      source = slice_index bs 6;
      sent_at = slice_index bs 7;
      value = word_at bs 8;
      sends = sends_at bs;
      output = output_at bs;
      vector = entries_at bs 44;
    })

abbrev pub checkpoint_at : List ℕ → Content
checkpoint_at bs =
    Checkpoint (record {
      process = slice_index bs 4;
      index = slice_index bs 5;
      state = record { a = word_at bs 6; b = word_at bs 14; c = word_at bs 22; d = word_at bs 30 };
    })

-- the only record whose frame the bytes can begin with, by their length
abbrev pub candidate : List ℕ → Record
candidate bs = record {
  content =
      cond (slice_index bs 0 == 51) (interval_at bs)
      (cond (slice_index bs 0 == 37) (checkpoint_at bs) (Line (entries_at bs 4)));
}

abbrev pub begins : List ℕ → List ℕ → Bool
begins part bs = bytes_eq part (take (length part) bs)

-- the record whose frame the bytes begin with, if there is one
unfoldable pub decoded : List ℕ → Option Record
decoded bs = cond (begins (framed (candidate bs)) bs) (Some (candidate bs)) None

-- a record, if one was read, and what `more` makes of the bytes behind its frame
abbrev pub followed : (List ℕ → List Record) → List ℕ → Option Record → List Record
followed more bs None = []
followed more bs (Some x) = x ∷ more (drop (length (framed x)) bs)

-- the records of the first n frames
abbrev pub reading : ℕ → List ℕ → List Record
reading zero bs = []
reading (suc n) bs = followed (reading n) bs (decoded bs)

-- what a reader owes of the bytes at a place
pub record Strict (bs : List ℕ) (r : Option Record) : Type 0 where
  -- what is read frames back to the same bytes
  pub same : (x : Record) → r ≡ Some x → Typed x × (bs ≡ framed x ++ drop (length (framed x)) bs)
  -- a frame with anything behind it is read as the record that it was written from
  pub back : (x : Record) (rest : List ℕ) → Typed x → bs ≡ framed x ++ rest → r ≡ Some x
  -- a frame cut short anywhere, with zeros behind it or with the bytes ending there, is never read
  pub torn : (x : Record) (k zeros : ℕ) → Typed x → k < length (framed x) → bs ≡ take k (framed x) ++ replicate zeros 0 → r ≡ None
  -- the frames of a list, with anything behind them, read back to the list
  pub lists : (xs : List Record) (rest : List ℕ) → All Typed xs → bs ≡ flat_map framed xs ++ rest → reading (length xs) bs ≡ xs

-- the recovery line of 1 and then zeros
abbrev pub first_line : Record
first_line = record { content = Line (1 ∷ replicate 7 0) }

abbrev pub LineBytes : Type 0
LineBytes =
    framed first_line
    ≡ 0x0B ∷ 0x00 ∷ 0x03 ∷ 0x00 ∷ 0x01 ∷ 0x00 ∷ 0x00 ∷ 0x00 ∷ 0x00 ∷ 0x00 ∷ 0x00 ∷ 0x00 ∷ 0x5A ∷ []
