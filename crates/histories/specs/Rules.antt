-- The rule of each call: the first test that holds refuses and leaves the world as it is, else the call has its effect.
use Rattle.std.specs.Prelude.{ℕ, ◌-◌, true, false, List, [], ◌∷◌, length, slice_index}
use Rattle.programs.specs.Program.{Meaning}
use Rattle.stores.specs.Calls.{armed}
use Rattle.lines.specs.Intervals.{waiting, by_input}
use Rattle.lines.specs.Lines.{greatest_line}
use Rattle.histories.specs.Calls.{Call, input, deliver, save, mark, crash, recover, fail, restart, show, look, accepted, refused}
use Rattle.histories.specs.Effects.{After, began, taking, saving, marking, crashed, settling, woken, with_store}
use Rattle.histories.specs.Tests.{Test, tests, unsaved, left, shown, no_room, line_records}
use Rattle.histories.specs.World.{World, darkened}

-- the first test that holds refuses and leaves w; else what comes after
abbrev pub tested : List Test → World → After → After
tested [] w next = next
tested ((true, r) ∷ ts) w next = (refused r, w)
tested ((false, r) ∷ ts) w next = tested ts w next

-- after waking restart has one test more, and its refusal leaves the store as it is then and the host dark
abbrev pub restarting : Meaning → ℕ → World → After
restarting M N w =
    tested (no_room w (line_records N w.saved (greatest_line N w.intervals w.saved)) ∷ []) (darkened w.store w)
    (settling M N w.saved w)

-- kept is what the store chose to keep, if this is a restart of a dead one
abbrev pub effect : Meaning → ℕ → ℕ → World → Call → After
effect M N kept w (input p n v) = began M p (by_input M N p (w.state p) (w.intervals p) v) w
effect M N kept w (deliver q p) = taking M N q p w (waiting w.intervals q p)
effect M N kept w (save p) = saving p w (unsaved w p)
effect M N kept w (mark p) = marking p w
effect M N kept w (crash p) = crashed p w
effect M N kept w recover = settling M N (left w) w
effect M N kept w (fail k) = (accepted (k ∷ []), with_store (armed k w.store) w)
effect M N kept w (restart j) = restarting M N (woken N kept w)
effect M N kept w (show p n) = (accepted (slice_index (shown N w p) (n - 1) ∷ []), w)
effect M N kept w (look p) = (accepted (length (w.intervals p) ∷ w.saved p ∷ (w.state p).a ∷ (w.state p).b ∷ (w.state p).c ∷ (w.state p).d ∷ []), w)

abbrev pub rule : Meaning → ℕ → ℕ → World → Call → After
rule M N kept w call = tested (tests N w call) w (effect M N kept w call)
