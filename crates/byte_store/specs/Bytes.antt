-- The records of a byte store, and what its bytes are after a call.
use Rattle.std.specs.Prelude.{◌≡◌, ℕ, ◌+◌, ◌/◌, min, List, [], ◌∷◌, ◌++◌, length, take, drop, slice_index}
use Rattle.records.specs.declared.Record.{Record}
use Rattle.frames.specs.Frames.{framed}
use Rattle.frames.specs.Reads.{reading, first_line}
use Rattle.byte_store.specs.declared.journal.Journal.{Journal}
use Rattle.byte_store.specs.Journals.{zeroed, standing}

-- the records of the first frames
abbrev pub listed : Journal → List Record
listed j = reading j.count j.bytes.now

-- the place behind the last frame
abbrev pub extent : Journal → ℕ
extent j = slice_index j.ends j.count

-- the capacity over so many bytes
abbrev pub room_of : ℕ → ℕ
room_of n = min (n / 53) 4096

-- the bytes after a record more: its frame lies behind the others; every other byte is as it was
abbrev pub filled : Journal → Record → List ℕ
filled j x = take (extent j) j.bytes.now ++ framed x ++ drop (extent j + length (framed x)) j.bytes.now

-- the bytes of j after a cut that left k: they are zero behind the frames that remain
abbrev pub cleared : Journal → Journal → List ℕ
cleared j k = zeroed (extent k) j.bytes.now

-- the line 1 and then zeros, unsafe: with 12 of its bytes it is lost, with 13 it stands
abbrev pub LineStands : Type 0
LineStands = (standing 12 (first_line ∷ []) ≡ 0) × (standing 13 (first_line ∷ []) ≡ 1)
