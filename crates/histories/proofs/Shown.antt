-- What was shown is shown again; and the lines that recoveries answer.
use Rattle.std.proofs.Common.{◌≡◌, ℕ, ◌-◌, ◌<◌, ◌≤◌, Bool, true, false, cond, eqb, ltb, List, [], ◌∷◌, ◌++◌, map, length, get_or, take, drop, Ok, Err, sym, refl, ap, ◌∙◌, arith}
use Rattle.std.specs.List.{range_with_len, AllByRecursion}
use Rattle.std.specs.Option.{option_to_list}
use Rattle.std.proofs.lemmas.List.FromFn.{length-map-range_with_len}
use Rattle.std.proofs.lemmas.List.{append_assoc, take-append-drop, take-take, take_at, get_or_append_left, length-append}
use Rattle.std.proofs.lemmas.Bool.{le-ltb, ltb-false, leb-false, or_parts, eqb-false, true≢false}
use Rattle.programs.specs.Program.{Meaning}
use Rattle.records.specs.declared.Interval.{Interval}
use Rattle.stores.specs.Calls.{Outcome}
use Rattle.stores.specs.Meaning as store
use Rattle.lines.specs.Intervals.{outputs}
use Rattle.lines.specs.Lines.{Line, greatest_line}
use Rattle.histories.specs.Calls as calls
use Rattle.histories.specs.Calls.{Answer, accepted, refused, Refusal}
use Rattle.histories.specs.Effects.{After, finished, written, line_record, settled, settling, woken}
use Rattle.histories.specs.Rules.{tested, effect, rule, restarting}
use Rattle.histories.specs.Tests.{Test, tests, committed, shown, left, some_above, no_room, line_records}
use Rattle.histories.specs.World.{World, darkened}
use Rattle.histories.proofs.Calls.{tested_each}

pub tested_false : (ts : List Test) (w : World) (next : After) → AllByRecursion (λ t. t.0 ≡ false) ts → tested ts w next ≡ next
tested_false [] w next all = refl
tested_false ((true, r) ∷ ts) w next all = absurd (true≢false all.0)
tested_false ((false, r) ∷ ts) w next all = tested_false ts w next all.1

is_accepted : Answer → Bool
is_accepted (accepted ns) = true
is_accepted (refused r) = false

numbers : Answer → List ℕ
numbers (accepted ns) = ns
numbers (refused r) = []

pub not_refused : {A : Type 0} (ns : List ℕ) (r : Refusal) (u v : World) → ◌≡◌ {A = After} (accepted ns, u) (refused r, v) → A
unfolding is_accepted
not_refused ns r u v e = absurd (true≢false (ap (λ (a : After). is_accepted a.0) e))

pub same_numbers : (ns ms : List ℕ) (u v : World) → ◌≡◌ {A = After} (accepted ns, u) (accepted ms, v) → ns ≡ ms
unfolding numbers
same_numbers ns ms u v e = ap (λ (a : After). numbers a.0) e

pub outputs_append : (xs ys : List Interval) → outputs (xs ++ ys) ≡ outputs xs ++ outputs ys
outputs_append [] ys = refl
outputs_append (x ∷ xs) ys = ap (λ l. option_to_list x.output ++ l) (outputs_append xs ys) ∙ sym (append_assoc (option_to_list x.output) (outputs xs) (outputs ys))

-- later outputs begin with the earlier ones
shown_more : (N : ℕ) (w v : World) (p : ℕ) → committed N w p ≤ committed N v p → take (committed N w p) (v.intervals p) ≡ take (committed N w p) (w.intervals p) → (rest : List ℕ) × (shown N v p ≡ shown N w p ++ rest)
shown_more N w v p low same =
    let xs = take (committed N v p) (v.intervals p) in
    let front : take (committed N w p) xs ≡ take (committed N w p) (w.intervals p) = take-take (committed N w p) (committed N v p) (v.intervals p) low ∙ same in
    (outputs (drop (committed N w p) xs), ap outputs (sym (take-append-drop (committed N w p) xs)) ∙ outputs_append (take (committed N w p) xs) (drop (committed N w p) xs) ∙ ap (λ l. outputs l ++ outputs (drop (committed N w p) xs)) front)

pub shows_again : (M : Meaning) (N : ℕ) (w v : World) → v.dark ≡ false → ((p : ℕ) → p < N → (committed N w p ≤ committed N v p) × (take (committed N w p) (v.intervals p) ≡ take (committed N w p) (w.intervals p))) →
    (p n kept later : ℕ) (ns : List ℕ) (u : World) → (accepted ns, u) ≡ rule M N kept w (calls.show p n) → (accepted ns, v) ≡ rule M N later v (calls.show p n)
shows_again M N w v awake lasts p n kept later ns u =
    tested_each (λ a. (accepted ns, u) ≡ a → (accepted ns, v) ≡ rule M N later v (calls.show p n)) (tests N w (calls.show p n)) w (effect M N kept w (calls.show p n)) (λ r e. not_refused ns r u w e)
    (λ t e.
    let exists : p < N = leb-false N p t.0 in
    let more = shown_more N w v p (lasts p exists).0 (lasts p exists).1 in
    let enough : n ≤ length (shown N w p) = ltb-false (length (shown N w p)) n t.1.1.1.0 in
    let some : (n ≡ 0) → ⊥ = eqb-false n 0 (or_parts (eqb n 0) (ltb 96 n) t.1.0).0 in
    let longer : n ≤ length (shown N v p) = omega (arith, ap length more.1, length-append (shown N w p) more.0) in
    let value : get_or (shown N v p) (n - 1) 0 ≡ get_or (shown N w p) (n - 1) 0 = ap (λ l. get_or l (n - 1) 0) more.1 ∙ get_or_append_left (shown N w p) more.0 0 (n - 1) (omega (arith, some)) in
    ap (λ l. (accepted l, v)) (same_numbers ns (get_or (shown N w p) (n - 1) 0 ∷ []) u w e ∙ ap (λ k. k ∷ []) (sym value))
    ∙ sym (tested_false (tests N v (calls.show p n)) v (effect M N later v (calls.show p n)) (t.0, (t.1.0, (awake, (le-ltb (length (shown N v p)) n longer, tt))))))

-- an accepted settling answers the line first
settled_line : (M : Meaning) (N : ℕ) (w : World) (L : Line) (m : store.Meaning) (ns : List ℕ) (u : World) → (accepted ns, u) ≡ settled M N w L m → take N ns ≡ map L (range_with_len 0 N)
settled_line M N w L m ns u e = ap (take N) (same_numbers ns _ u _ e) ∙ take_at (map L (range_with_len 0 N)) _ N (length-map-range_with_len L 0 N)

pub settling_line : (M : Meaning) (N : ℕ) (c : Line) (w : World) (ns : List ℕ) (u : World) → (accepted ns, u) ≡ settling M N c w → take N ns ≡ map (greatest_line N w.intervals c) (range_with_len 0 N)
settling_line M N c w ns u = go (some_above N w.saved (greatest_line N w.intervals c))
  where
    wrote : (o : Outcome (Unit {0})) → (accepted ns, u) ≡ finished o w (settled M N w (greatest_line N w.intervals c)) → take N ns ≡ map (greatest_line N w.intervals c) (range_with_len 0 N)
    wrote (Ok x, m) e = settled_line M N w (greatest_line N w.intervals c) m ns u e
    wrote (Err x, m) e = not_refused ns _ u _ e

    go : (b : Bool) → (accepted ns, u) ≡ cond b (finished (written (line_record N (greatest_line N w.intervals c) ∷ []) w.store) w (settled M N w (greatest_line N w.intervals c))) (settled M N w (greatest_line N w.intervals c) w.store) →
        take N ns ≡ map (greatest_line N w.intervals c) (range_with_len 0 N)
    go true e = wrote (written (line_record N (greatest_line N w.intervals c) ∷ []) w.store) e
    go false e = settled_line M N w (greatest_line N w.intervals c) w.store ns u e

pub recover_line : (M : Meaning) (N kept : ℕ) (w : World) (ns : List ℕ) (u : World) → (accepted ns, u) ≡ rule M N kept w calls.recover → take N ns ≡ map (greatest_line N w.intervals (left w)) (range_with_len 0 N)
recover_line M N kept w ns u =
    tested_each (λ a. (accepted ns, u) ≡ a → take N ns ≡ map (greatest_line N w.intervals (left w)) (range_with_len 0 N)) (tests N w calls.recover) w (effect M N kept w calls.recover) (λ r e. not_refused ns r u w e)
    (λ t e. settling_line M N (left w) w ns u e)

pub restart_line : (M : Meaning) (N j kept : ℕ) (w : World) (ns : List ℕ) (u : World) → (accepted ns, u) ≡ rule M N kept w (calls.restart j) →
    take N ns ≡ map (greatest_line N (woken N kept w).intervals (woken N kept w).saved) (range_with_len 0 N)
restart_line M N j kept w ns u =
    tested_each (λ a. (accepted ns, u) ≡ a → take N ns ≡ map (greatest_line N (woken N kept w).intervals (woken N kept w).saved) (range_with_len 0 N)) (tests N w (calls.restart j)) w (effect M N kept w (calls.restart j)) (λ r e. not_refused ns r u w e)
    (λ t e. woke e)
  where
    woke : (accepted ns, u) ≡ restarting M N (woken N kept w) → take N ns ≡ map (greatest_line N (woken N kept w).intervals (woken N kept w).saved) (range_with_len 0 N)
    woke = tested_each (λ a. (accepted ns, u) ≡ a → take N ns ≡ map (greatest_line N (woken N kept w).intervals (woken N kept w).saved) (range_with_len 0 N))
        (no_room (woken N kept w) (line_records N (woken N kept w).saved (greatest_line N (woken N kept w).intervals (woken N kept w).saved)) ∷ []) (darkened (woken N kept w).store (woken N kept w))
        (settling M N (woken N kept w).saved (woken N kept w)) (λ r e. not_refused ns r u _ e) (λ t e. settling_line M N (woken N kept w).saved (woken N kept w) ns u e)
