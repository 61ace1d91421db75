-- The ledger: what is remembered of a host by its calls, their answers and the stores' choices alone.
use Rattle.std.specs.Prelude.{ℕ, ◌+◌, ◌-◌, min, Bool, true, false, cond, List, [], ◌∷◌, ◌++◌, map, length, take, drop, fold, ◌==◌, nat_lt}
use Rattle.programs.specs.Program.{Meaning}
use Rattle.records.specs.declared.Interval.{Interval}
use Rattle.records.specs.declared.Record.{Record}
use Rattle.lines.specs.Built.{cut}
use Rattle.lines.specs.Intervals.{Family, Message, play, waiting, by_input, by_delivery}
use Rattle.lines.specs.Lines.{Line, greatest_line}
use Rattle.histories.specs.Calls.{Call, input, deliver, save, mark, crash, recover, fail, restart, show, look, Refusal, Answer, accepted, refused}
use Rattle.histories.specs.Effects.{interval_record, checkpoint_record, line_record}
use Rattle.histories.specs.Reading.{reading}
use Rattle.histories.specs.Tests.{some_above}
use Rattle.histories.specs.World.{at}

-- a call, what it answered, and how many records the store kept, if it was revived
pub record Event : Type 0 where
  pub call : Call
  pub answer : Answer
  pub kept : ℕ

pub record Ledger : Type 0 where
  pub intervals : Family
  pub saved : Line
  pub up : ℕ → Bool
  pub records : List Record
  pub safe : ℕ

-- it begins empty, all up
abbrev pub blank : ℕ → Ledger
blank N = record { intervals = λ p. []; saved = λ p. 0; up = λ p. nat_lt p N; records = []; safe = 0 }

-- what a restart finds: what revive left, as it is read
abbrev pub found : ℕ → ℕ → Ledger → Ledger
found N kept l =
    let records = take (l.safe + kept) l.records in
    let rows : Family = λ p. cond (nat_lt p N) (take 96 ((reading records).rows p)) [] in
    record { intervals = rows; saved = λ p. length (rows p); up = λ p. false; records = records; safe = length records }

abbrev pub grounds : ℕ → ℕ → Call → Ledger → Ledger
grounds N kept (restart j) l = found N kept l
grounds N kept (input p n v) l = l
grounds N kept (deliver q p) l = l
grounds N kept (save p) l = l
grounds N kept (mark p) l = l
grounds N kept (crash p) l = l
grounds N kept recover l = l
grounds N kept (fail k) l = l
grounds N kept (show p n) l = l
grounds N kept (look p) l = l

-- left: the saved count of a down process, the record number of an up one
abbrev pub left_in : Ledger → Line
left_in l p = cond (l.up p) (length (l.intervals p)) (l.saved p)

abbrev pub line_in : ℕ → Ledger → Line
line_in N l = greatest_line N l.intervals (left_in l)

abbrev pub line_writes : ℕ → Ledger → List Record
line_writes N l = cond (some_above N l.saved (line_in N l)) (line_record N (line_in N l) ∷ []) []

abbrev unsaved_records : Ledger → ℕ → List Record
unsaved_records l p = map interval_record (drop (l.saved p) (l.intervals p))

-- what a call appends
abbrev pub writes : Meaning → ℕ → Call → Ledger → List Record
writes M N (save p) l = unsaved_records l p
writes M N (mark p) l = unsaved_records l p ++ (checkpoint_record p (length (l.intervals p)) (play M p (l.intervals p)) ∷ [])
writes M N recover l = line_writes N l
writes M N (restart j) l = line_writes N l
writes M N (input p n v) l = []
writes M N (deliver q p) l = []
writes M N (crash p) l = []
writes M N (fail k) l = []
writes M N (show p n) l = []
writes M N (look p) l = []

abbrev with_rows : Family → Line → (ℕ → Bool) → Ledger → Ledger
with_rows F saved up l = record { intervals = F; saved = saved; up = up; records = l.records; safe = l.safe }

abbrev pub grown : ℕ → Interval → Ledger → Ledger
grown p x l = with_rows (at l.intervals p (l.intervals p ++ (x ∷ []))) l.saved l.up l

abbrev pub taken_first : Meaning → ℕ → ℕ → ℕ → List Message → Ledger → Ledger
taken_first M N q p [] l = l
taken_first M N q p (m ∷ ms) l = grown p (by_delivery M N (play M p (l.intervals p)) l.intervals q p m) l

abbrev saved_now : ℕ → Ledger → Ledger
saved_now p l = with_rows l.intervals (at l.saved p (length (l.intervals p))) l.up l

-- all above the greatest line within left is gone, and all are up
abbrev pub cut_back : ℕ → Ledger → Ledger
cut_back N l = with_rows (cut l.intervals (line_in N l)) (λ p. min (l.saved p) (line_in N l p)) (λ p. nat_lt p N) l

-- what an accepted call makes of the rows
abbrev pub turns : Meaning → ℕ → Call → Ledger → Ledger
turns M N (input p n v) l = grown p (by_input M N p (play M p (l.intervals p)) (l.intervals p) v) l
turns M N (deliver q p) l = taken_first M N q p (waiting l.intervals q p) l
turns M N (save p) l = saved_now p l
turns M N (mark p) l = saved_now p l
turns M N (crash p) l = with_rows (at l.intervals p (take (l.saved p) (l.intervals p))) l.saved (at l.up p false) l
turns M N recover l = cut_back N l
turns M N (restart j) l = cut_back N l
turns M N (fail k) l = l
turns M N (show p n) l = l
turns M N (look p) l = l

-- records appended and made safe; where nothing is appended there is no sync
abbrev pub synced_with : List Record → Ledger → Ledger
synced_with [] l = l
synced_with (r ∷ rs) l = record { intervals = l.intervals; saved = l.saved; up = l.up; records = l.records ++ (r ∷ rs); safe = length (l.records ++ (r ∷ rs)) }

-- no interval stands, all are down, and so many records were appended without a sync
abbrev pub lost : ℕ → List Record → Ledger → Ledger
lost n rs l = record { intervals = λ p. []; saved = λ p. 0; up = λ p. false; records = l.records ++ take n rs; safe = l.safe }

abbrev pub is_restart : Call → Bool
is_restart (restart j) = true
is_restart (input p n v) = false
is_restart (deliver q p) = false
is_restart (save p) = false
is_restart (mark p) = false
is_restart (crash p) = false
is_restart recover = false
is_restart (fail k) = false
is_restart (show p n) = false
is_restart (look p) = false

-- 20: appended until the count is the place. 18 at restart: revive's work stays. Other refusals change nothing
abbrev pub after_refusal : Meaning → ℕ → ℕ → Call → Refusal → Ledger → Ledger
after_refusal M N kept c r l =
    let g = grounds N kept c l in
    cond (r.number == 20) (lost (r.place - length g.records) (writes M N c g) g)
    (cond (is_restart c) (cond (r.number == 18) (lost 0 [] g) l) l)

abbrev pub after_answer : Meaning → ℕ → ℕ → Call → Answer → Ledger → Ledger
after_answer M N kept c (accepted ns) l = synced_with (writes M N c (grounds N kept c l)) (turns M N c (grounds N kept c l))
after_answer M N kept c (refused r) l = after_refusal M N kept c r l

abbrev pub after_event : Meaning → ℕ → Ledger → Event → Ledger
after_event M N l e = after_answer M N e.kept e.call e.answer l

abbrev pub ledger : Meaning → ℕ → List Event → Ledger
ledger M N es = fold (after_event M N) (blank N) es
