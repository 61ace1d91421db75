-- Every call keeps what holds.
use Rattle.std.proofs.Common.{◌≡◌, ℕ, ◌+◌, ◌<◌, ◌≤◌, true, false, ltb, List, [], ◌∷◌, ◌++◌, length, take, drop, sym, refl, ap, ◌∙◌, subst, arith}
use Rattle.std.specs.List.{All, AllByRecursion}
use Rattle.std.proofs.lemmas.List.Elements.{All-head, All-drop}
use Rattle.std.proofs.lemmas.List.{drop-append-le}
use Rattle.std.proofs.lemmas.Grind.{flat_map-append}
use Rattle.std.proofs.lemmas.Bool.{not-false, ltb-false, leb-false, cond_both}
use Rattle.programs.specs.Program.{Meaning}
use Rattle.records.specs.declared.Interval.{Interval}
use Rattle.stores.specs.Calls.{unsafe_count, room}
use Rattle.stores.specs.Meaning as store
use Rattle.lines.specs.Built.{Given, Gives, Grows, Built, input, delivery}
use Rattle.lines.specs.Intervals.{Family, Message, play, sent_in, channel, taken, waiting, next_input, vector_after, merged, begun, by_input, by_delivery}
use Rattle.lines.specs.Lines.{Line}
use Rattle.lines.proofs.Indexes.{From, from_take, sent_early}
use Rattle.lines.proofs.Taken.{some_left}
use Rattle.histories.specs.Calls as calls
use Rattle.histories.specs.Calls.{Call, Refusal, Answer, accepted, refused}
use Rattle.histories.specs.Effects.{After, taking}
use Rattle.histories.specs.Rules.{tested, effect, rule}
use Rattle.histories.specs.Tests.{Test, tests, unsaved, left}
use Rattle.histories.specs.World.{World, at}
use Rattle.histories.proofs.Fronts.{front_take, front_is}
use Rattle.histories.proofs.Holds.{Holds, Next}
use Rattle.histories.proofs.Images.{at_same, at_other}
use Rattle.histories.proofs.Remembered.{kept_whole}
use Rattle.histories.proofs.Settling.{Ready, next_settling}
use Rattle.histories.proofs.Steps.{next_same, next_began, next_crashed, next_saving, next_marking}
use Rattle.histories.proofs.Waking.{next_restart}

-- the first test that holds refuses; else every test is false
pub tested_each : (P : After → Type 0) (ts : List Test) (w : World) (next : After) → ((r : Refusal) → P (refused r, w)) → (AllByRecursion (λ t. t.0 ≡ false) ts → P next) → P (tested ts w next)
tested_each P [] w next stays goes = goes tt
tested_each P ((true, r) ∷ ts) w next stays goes = stays r
tested_each P ((false, r) ∷ ts) w next stays goes = tested_each P ts w next stays (λ all. goes (refl, all))

-- an accepted input was given
abbrev pub Fed : Call → Answer → Given → Type 0
Fed (calls.input p n v) (accepted ns) given = Gives given p n v
Fed (calls.input p n v) (refused r) given = Unit {0}
Fed (calls.deliver q p) a given = Unit {0}
Fed (calls.save p) a given = Unit {0}
Fed (calls.mark p) a given = Unit {0}
Fed (calls.crash p) a given = Unit {0}
Fed calls.recover a given = Unit {0}
Fed (calls.fail k) a given = Unit {0}
Fed (calls.restart j) a given = Unit {0}
Fed (calls.show p n) a given = Unit {0}
Fed (calls.look p) a given = Unit {0}

module _ (S R : Type 0) (M : Meaning) (N : ℕ) (few : N ≤ 8) (K : Line) {given : Given} {F : Family} {w : World} (h : Holds S R M N given K w F) where
  stays : Next S R M N given K F w
  stays = next_same S R M N K h h.family.built

  grows_at : (p : ℕ) (x : Interval) → Grows F p x (at F p (F p ++ (x ∷ [])))
  grows_at p x = record { here = at_same F p (F p ++ (x ∷ [])); others = λ r n. at_other F p (F p ++ (x ∷ [])) r n }

  -- an input as the host records it is one as a run records it
  input_built : (p v : ℕ) → w.up p ≡ true → Gives given p (next_input (w.intervals p)) v → S → R → Built M N given (at F p (F p ++ (by_input M N p (w.state p) (w.intervals p) v ∷ [])))
  input_built p v up gives played ran =
      let whole = h.rows.whole p up in
      let same : by_input M N p (w.state p) (w.intervals p) v ≡ by_input M N p (play M p (F p)) (F p) v
      = ap (λ s. by_input M N p s (w.intervals p) v) (h.rows.states played p up ∙ ap (play M p) whole) ∙ ap (λ xs. by_input M N p (play M p (F p)) xs v) whole in
      subst (λ x. Built M N given (at F p (F p ++ (x ∷ [])))) (sym same)
      (input p v (h.family.built played ran) (h.rows.present p up) (subst (λ xs. Gives given p (next_input xs) v) whole gives) (grows_at p (by_input M N p (play M p (F p)) (F p) v)))

  -- what waits from a row waits from all that is remembered of it
  waits : (q p : ℕ) (m : Message) (ms : List Message) → w.up p ≡ true → waiting w.intervals q p ≡ m ∷ ms → (rest : List Message) × (waiting F q p ≡ m ∷ rest)
  waits q p m ms up e =
      let whole = h.rows.whole p up in
      let more = channel p (h.rows.fronts q).0 in
      let split : channel p (F q) ≡ channel p (w.intervals q) ++ more = ap (channel p) (h.rows.fronts q).1 ∙ flat_map-append (sent_in p) (w.intervals q) (h.rows.fronts q).0 in
      let first : drop (taken q (F p)) (channel p (w.intervals q)) ≡ m ∷ ms = ap (λ xs. drop (taken q xs) (channel p (w.intervals q))) (sym whole) ∙ e in
      (ms ++ more, ap (drop (taken q (F p))) split ∙ drop-append-le (taken q (F p)) (channel p (w.intervals q)) more (let l = some_left (taken q (F p)) (channel p (w.intervals q)) m ms first in omega arith) ∙ ap (λ xs. xs ++ more) first)

  sent_within : (q p : ℕ) (m : Message) (ms : List Message) → waiting w.intervals q p ≡ m ∷ ms → m.sent_at ≤ length (w.intervals q)
  sent_within q p m ms e =
      let from : From 0 (w.intervals q) = subst (From 0) (sym (front_is (w.intervals q) (F q) (h.rows.fronts q))) (from_take 0 (length (w.intervals q)) (F q) (h.family.indexed q)) in
      let all : All (λ (y : Message). y.sent_at ≤ 0 + length (w.intervals q)) (m ∷ ms) = subst (All (λ y. y.sent_at ≤ 0 + length (w.intervals q))) e (All-drop (λ y. y.sent_at ≤ 0 + length (w.intervals q)) (taken q (w.intervals p)) (channel p (w.intervals q)) (sent_early 0 p (w.intervals q) from)) in
      omega (arith, All-head (λ (y : Message). y.sent_at ≤ 0 + length (w.intervals q)) m ms all)

  delivery_built : (q p : ℕ) (m : Message) (ms : List Message) → q < N → w.up p ≡ true → waiting w.intervals q p ≡ m ∷ ms → S → R → Built M N given (at F p (F p ++ (by_delivery M N (w.state p) w.intervals q p m ∷ [])))
  delivery_built q p m ms sender up e played ran =
      let whole = h.rows.whole p up in
      let next = waits q p m ms up e in
      let heard : take m.sent_at (w.intervals q) ≡ take m.sent_at (F q) = sym (front_take m.sent_at (w.intervals q) (F q) (h.rows.fronts q) (sent_within q p m ms e)) in
      let same : by_delivery M N (w.state p) w.intervals q p m ≡ by_delivery M N (play M p (F p)) F q p m
      = ap (λ s. by_delivery M N s w.intervals q p m) (h.rows.states played p up ∙ ap (play M p) whole)
      ∙ ap (λ ys. begun M N p (play M p (F p)) (w.intervals p) q m (merged (vector_after (w.intervals p)) (vector_after ys))) heard
      ∙ ap (λ xs. begun M N p (play M p (F p)) xs q m (merged (vector_after xs) (vector_after (take m.sent_at (F q))))) whole in
      subst (λ x. Built M N given (at F p (F p ++ (x ∷ [])))) (sym same)
      (delivery q p m next.0 (h.family.built played ran) sender (h.rows.present p up) next.1 (grows_at p (by_delivery M N (play M p (F p)) F q p m)))

  next_taking : (q p : ℕ) → q < N → w.dark ≡ false → w.up p ≡ true → length (w.intervals p) < 96 → (ms : List Message) → waiting w.intervals q p ≡ ms → Next S R M N given K F (taking M N q p w ms).1
  next_taking q p sender awake up room [] e = stays
  next_taking q p sender awake up room (m ∷ ms) e = next_began S R M N K h awake p up (by_delivery M N (w.state p) w.intervals q p m) room refl refl (delivery_built q p m ms sender up e)

  standing_ready : w.dark ≡ false → Ready S R M N given K F w (left w)
  standing_ready awake = record {
    family = h.family;
    fronts = h.rows.fronts;
    bounded = h.rows.bounded;
    states = h.rows.states;
    lives = h.standing awake;
    safe = h.stored.lives (h.standing awake);
    kept = kept_whole S M N F K w.store.records w.store.safe h.stored.safe h.stored.remembered;
    read = h.read awake;
    reach = λ p k. cond_both (w.up p) (length (w.intervals p)) (w.saved p) (λ n. w.saved p ≤ n) (λ e. h.rows.bounded p) (λ e. omega arith);
  }

  room_for : (n : ℕ) → ltb (room w.store) n ≡ false → 0 < n → store.count w.store + n ≤ w.store.capacity
  room_for n e some = omega (arith, ltb-false (room w.store) n e)

  abbrev AfterCall : Call → After → Type 0
  AfterCall c a = Fed c a.0 given → Next S R M N given K F a.1

  -- refused, or every test is false
  by_tests : (kept : ℕ) (c : Call) → (AllByRecursion (λ t. t.0 ≡ false) (tests N w c) → AfterCall c (effect M N kept w c)) → AfterCall c (rule M N kept w c)
  by_tests kept c goes = tested_each (AfterCall c) (tests N w c) w (effect M N kept w c) (λ r f. stays) goes

  pub step : (kept : ℕ) → kept ≤ unsafe_count w.store → (c : Call) → AfterCall c (rule M N kept w c)
  step kept allowed (calls.input p n v) = by_tests kept (calls.input p n v) (λ t gives.
      let up = not-false (w.up p) t.1.1.1.0 in
      let number : n ≡ next_input (w.intervals p) = omega (arith, ltb-false n (next_input (w.intervals p)) t.1.1.1.1.0, ltb-false (next_input (w.intervals p)) n t.1.1.1.1.1.0) in
      next_began S R M N K h t.1.1.0 p up (by_input M N p (w.state p) (w.intervals p) v) (leb-false 96 (length (w.intervals p)) t.1.1.1.1.1.1.0) refl refl
      (input_built p v up (subst (λ k. Gives given p k v) number gives)))
  step kept allowed (calls.deliver q p) = by_tests kept (calls.deliver q p) (λ t f.
      next_taking q p (leb-false N q t.0) t.1.1.0 (not-false (w.up p) t.1.1.1.0) (leb-false 96 (length (w.intervals p)) t.1.1.1.1.1.0) (waiting w.intervals q p) refl)
  step kept allowed (calls.save p) = by_tests kept (calls.save p) (λ t f.
      next_saving S R M N K h t.1.0 p (not-false (w.up p) t.1.1.0) (room_for (length (unsaved w p)) t.1.1.1.0) (unsaved w p) refl)
  step kept allowed (calls.mark p) = by_tests kept (calls.mark p) (λ t f.
      next_marking S R M N K h t.1.0 p (not-false (w.up p) t.1.1.0) (room_for (length (unsaved w p) + 1) t.1.1.1.0 (omega arith)))
  step kept allowed (calls.crash p) = by_tests kept (calls.crash p) (λ t f. next_crashed S R M N K h t.1.0 p (not-false (w.up p) t.1.1.0) h.family.built)
  step kept allowed calls.recover = by_tests kept calls.recover (λ t f. next_settling S R M N given K F w (left w) few (standing_ready t.0) t.1.1.0)
  step kept allowed (calls.fail k) = by_tests kept (calls.fail k) (λ t f. record {
    later = F;
    holds = record {
      family = h.family;
      rows = record { fronts = h.rows.fronts; whole = h.rows.whole; bounded = h.rows.bounded; downs = h.rows.downs; present = h.rows.present; states = h.rows.states; none = h.rows.none; lying = h.rows.lying };
      stored = record { safe = h.stored.safe; lives = h.stored.lives; remembered = h.stored.remembered };
      standing = h.standing;
      read = h.read;
    };
    lasts = λ p l. refl;
  })
  step kept allowed (calls.restart j) = by_tests kept (calls.restart j) (λ t f. next_restart S R M N K w kept few h allowed)
  step kept allowed (calls.show p n) = by_tests kept (calls.show p n) (λ t f. stays)
  step kept allowed (calls.look p) = by_tests kept (calls.look p) (λ t f. stays)
