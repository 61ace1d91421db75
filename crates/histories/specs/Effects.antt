-- What an accepted call answers and changes.
use Rattle.std.specs.Prelude.{ℕ, ◌-◌, min, Bool, true, false, cond, ◌&&◌, List, [], ◌∷◌, ◌++◌, map, length, take, drop, Ok, Err, fold, nat_le, nat_lt}
use Rattle.std.specs.List.{range_with_len}
use Rattle.programs.specs.Program.{Meaning}
use Rattle.programs.specs.declared.values.State.{State}
use Rattle.records.specs.declared.Content.TheVariants as content
use Rattle.records.specs.declared.Interval.{Interval}
use Rattle.records.specs.declared.Record.{Record}
use Rattle.stores.specs.Calls.{Outcome, appended, synced, revived}
use Rattle.stores.specs.Meaning as store
use Rattle.lines.specs.Built.{cut}
use Rattle.lines.specs.Intervals.{Family, Message, by_delivery}
use Rattle.lines.specs.Lines.{Line, greatest_line}
use Rattle.histories.specs.Calls.{Answer, accepted, refused, by_store}
use Rattle.histories.specs.Reading.{Image, reading, origin}
use Rattle.histories.specs.Tests.{unsaved, some_above}
use Rattle.histories.specs.World.{World, at, darkened}

-- a call's answer, and the world after it
abbrev pub After : Type 0
After = Answer × World

abbrev pub interval_record : Interval → Record
interval_record x = record { content = content.Interval x }

abbrev pub checkpoint_record : ℕ → ℕ → State → Record
checkpoint_record p index s = record { content = content.Checkpoint (record { process = p; index = index; state = s }) }

-- eight entries, 0 from N on
abbrev pub line_record : ℕ → Line → Record
line_record N L = record { content = content.Line (map (λ p. cond (nat_lt p N) (L p) 0) (range_with_len 0 8)) }

-- with what a write left, the next is made if that one was accepted
abbrev pub then : Outcome (Unit {0}) → (store.Meaning → Outcome (Unit {0})) → Outcome (Unit {0})
then (Ok _, m) next = next m
then (Err e, m) next = (Err e, m)

-- records appended in order, and then one sync, as far as the store lives
abbrev pub written : List Record → store.Meaning → Outcome (Unit {0})
written [] m = synced m
written (r ∷ rs) m = then (appended r m) (written rs)

-- 20: the store died during the call
abbrev pub finished : Outcome (Unit {0}) → World → (store.Meaning → After) → After
finished (Ok _, m) w next = next m
finished (Err e, m) w next = (refused (by_store 20 (store.count m)), darkened m w)

abbrev pub with_store : store.Meaning → World → World
with_store m w = record { intervals = w.intervals; saved = w.saved; up = w.up; state = w.state; dark = w.dark; store = m }

-- process p begins an interval, and steps
abbrev pub began : Meaning → ℕ → Interval → World → After
began M p x w = (
  accepted (x.index ∷ []),
  record {
    intervals = at w.intervals p (w.intervals p ++ (x ∷ []));
    saved = w.saved;
    up = w.up;
    state = at w.state p (M.step p (w.state p) x.source x.value).0;
    dark = w.dark;
    store = w.store;
  },
)

-- the first message waiting is taken
abbrev pub taking : Meaning → ℕ → ℕ → ℕ → World → List Message → After
taking M N q p w [] = (accepted [], w)
taking M N q p w (m ∷ ms) = began M p (by_delivery M N (w.state p) w.intervals q p m) w

-- all of p's intervals are saved, and the store is as it is then
abbrev pub all_saved : ℕ → World → store.Meaning → World
all_saved p w m = record { intervals = w.intervals; saved = at w.saved p (length (w.intervals p)); up = w.up; state = w.state; dark = w.dark; store = m }

-- save: nothing is written where nothing is unsaved
abbrev pub saving : ℕ → World → List Interval → After
saving p w [] = (accepted (w.saved p ∷ []), w)
saving p w (x ∷ xs) = finished (written (map interval_record (x ∷ xs)) w.store) w (λ m. (accepted (length (w.intervals p) ∷ []), all_saved p w m))

-- mark: always, with a checkpoint before the sync
abbrev pub marking : ℕ → World → After
marking p w =
    finished (written (map interval_record (unsaved w p) ++ (checkpoint_record p (length (w.intervals p)) (w.state p) ∷ [])) w.store) w
    (λ m. (accepted (length (w.intervals p) ∷ []), all_saved p w m))

-- crash: p goes down and loses its unsaved records
abbrev pub crashed : ℕ → World → After
crashed p w = (
  accepted (w.saved p ∷ []),
  record {
    intervals = at w.intervals p (take (w.saved p) (w.intervals p));
    saved = w.saved;
    up = at w.up p false;
    state = w.state;
    dark = w.dark;
    store = w.store;
  },
)

-- a process that was up and isn't cut is not replayed
abbrev pub untouched : World → Line → ℕ → Bool
untouched w L p = w.up p && nat_le (length (w.intervals p)) (L p)

-- how many intervals are replayed
abbrev pub replayed : Meaning → World → Line → Image → ℕ → ℕ
replayed M w L image p = cond (untouched w L p) 0 (L p - (origin M p (image.checkpoints p)).0)

-- the state after them, played from where the replay begins
abbrev pub restored : Meaning → World → Line → Image → ℕ → State
restored M w L image p =
    cond (untouched w L p) (w.state p)
    (fold (λ s x. (M.step p s x.source x.value).0) (origin M p (image.checkpoints p)).1 (drop (origin M p (image.checkpoints p)).0 (take (L p) (w.intervals p))))

-- all go back to the line, and are up; m is the store then
abbrev pub settled : Meaning → ℕ → World → Line → store.Meaning → After
settled M N w L m = (
  accepted (map L (range_with_len 0 N) ++ map (replayed M w L (reading m.records)) (range_with_len 0 N)),
  record {
    intervals = cut w.intervals L;
    saved = λ p. min (w.saved p) (L p);
    up = λ p. nat_lt p N;
    state = λ p. cond (nat_lt p N) (restored M w L (reading m.records) p) (w.state p);
    dark = false;
    store = m;
  },
)

-- the line is recorded where some saved count is above it
abbrev pub settling : Meaning → ℕ → Line → World → After
settling M N counts w =
    let L = greatest_line N w.intervals counts in
    cond (some_above N w.saved L) (finished (written (line_record N L ∷ []) w.store) w (settled M N w L)) (settled M N w L w.store)

-- restart: the store, revived if it is dead, is read; what no host of N processes writes is passed over
abbrev pub woken : ℕ → ℕ → World → World
woken N kept w =
    let m = (revived kept w.store).1 in
    let rows : Family = λ p. cond (nat_lt p N) (take 96 ((reading m.records).rows p)) [] in
    record { intervals = rows; saved = λ p. length (rows p); up = λ p. false; state = w.state; dark = true; store = m }
