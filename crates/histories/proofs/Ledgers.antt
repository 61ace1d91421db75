-- The ledger is what the host holds.
use Rattle.std.proofs.Common.{◌≡◌, ℕ, ◌+◌, ◌-◌, ◌<◌, ◌≤◌, Bool, true, false, cond, ltb, ◌⊎◌, List, [], ◌∷◌, ◌++◌, map, length, take, Ok, Err, sym, refl, ap, ◌∙◌, subst, inl, inr, arith}
use Rattle.std.specs.List.{AllByRecursion}
use Rattle.std.proofs.lemmas.List.{append-nil, take_all, length-append, length-take, length-drop, length-map, length_push}
use Rattle.std.proofs.lemmas.Bool.{cases_eq, not-false, ltb-false, cond-true}
use Rattle.programs.specs.Program.{Meaning}
use Rattle.records.specs.declared.Interval.{Interval}
use Rattle.records.specs.declared.Record.{Record}
use Rattle.stores.specs.Calls.{Outcome, revived, room, all_safe, with_power, with_records}
use Rattle.stores.specs.Meaning as store
use Rattle.lines.specs.Built.{Given}
use Rattle.lines.specs.Intervals.{Family, Message, play, waiting, by_input, by_delivery}
use Rattle.lines.specs.Lines.{Line, greatest_line}
use Rattle.histories.specs.Calls as calls
use Rattle.histories.specs.Calls.{Call, Refusal, Answer, accepted, refused, by_store}
use Rattle.histories.specs.Effects.{After, began, taking, saving, marking, finished, written, interval_record, checkpoint_record, line_record, all_saved, settled, settling, woken}
use Rattle.histories.specs.Ledger.{Ledger, after_answer, grounds, found, writes, turns, taken_first, cut_back, line_writes, line_in, left_in, synced_with, lost}
use Rattle.histories.specs.Reading.{reading}
use Rattle.histories.specs.Rules.{tested, effect, rule, restarting}
use Rattle.histories.specs.Tests.{Test, tests, unsaved, some_above, line_records, no_room}
use Rattle.histories.specs.Theorem.{entered}
use Rattle.histories.specs.World.{World, at, darkened}
use Rattle.histories.proofs.Holds.{Holds}
use Rattle.histories.proofs.Images.{at_same, at_other}
use Rattle.histories.proofs.Writing.{Wrote, done, died, wrote}

-- a test that holds answers one of the list's refusals
pub tested_of : (P : After → Type 0) (ts : List Test) (w : World) (next : After) → AllByRecursion (λ t. P (refused t.1, w)) ts → (AllByRecursion (λ t. t.0 ≡ false) ts → P next) → P (tested ts w next)
tested_of P [] w next stays goes = goes tt
tested_of P ((true, r) ∷ ts) w next stays goes = stays.0
tested_of P ((false, r) ∷ ts) w next stays goes = tested_of P ts w next stays.1 (λ all. goes (refl, all))

at_itself : {X : Type 0} (f : ℕ → X) (p : ℕ) (y : X) → y ≡ f p → at f p y ≡ f
at_itself f p y e = λ i r. same r i
  where
    same : (r : ℕ) → at f p y r ≡ f r
    same r = go (cases_eq r p)
      where
        go : (r ≡ p) ⊎ (r ≡ p → ⊥) → at f p y r ≡ f r
        go (inl s) = subst (λ k. at f p y k ≡ f k) (sym s) (at_same f p y ∙ e)
        go (inr n) = at_other f p y r n

abbrev paged : Family → Line → (ℕ → Bool) → List Record → ℕ → Ledger
paged F S U rs n = record { intervals = F; saved = S; up = U; records = rs; safe = n }

-- what a write left, as the ledger enters it
entered_done : (F : Family) (S : Line) (U : ℕ → Bool) (m : store.Meaning) (rs : List Record) → m.records ≡ rs → m.safe ≡ length m.records → paged F S U rs (length rs) ≡ paged F S U m.records m.safe
entered_done F S U m rs e s = ap (λ xs. paged F S U xs (length xs)) (sym e) ∙ ap (paged F S U m.records) (sym s)

synced_some : (ws : List Record) (l : Ledger) → 0 < length ws → synced_with ws l ≡ paged l.intervals l.saved l.up (l.records ++ ws) (length (l.records ++ ws))
synced_some [] l h = absurd (omega arith)
synced_some (r ∷ rs) l h = refl

module _ (M : Meaning) (N : ℕ) (w : World) where
  -- 20: what was appended is the place less what was there
  lost_is : (ws : List Record) (m : store.Meaning) (j : ℕ) → j ≤ length ws → m.records ≡ w.store.records ++ take j ws → m.safe ≡ w.store.safe →
      lost (store.count m - length w.store.records) ws (entered w) ≡ entered (darkened m w)
  lost_is ws m j h e s =
      let n : store.count m - length w.store.records ≡ j = omega (arith, ap length e, length-append w.store.records (take j ws), length-take j ws) in
      ap (λ k. lost k ws (entered w)) n
      ∙ ap (λ (rs : List Record). record { intervals = λ p. []; saved = λ p. 0; up = λ p. false; records = rs; safe = w.store.safe }) (sym e)
      ∙ ap (λ (k : ℕ). record { intervals = λ p. []; saved = λ p. 0; up = λ p. false; records = m.records; safe = k }) (sym s)

module _ (M : Meaning) (N kept : ℕ) (w : World) (c : Call) where
  -- the ledger after the answer is the world after it
  abbrev pub Agree : After → Type 0
  Agree a = after_answer M N kept c a.0 (entered w) ≡ entered a.1

  -- a call that writes: done, or dark with what was appended
  agree_finished : (b : World) → grounds N kept c (entered w) ≡ entered b → (ws : List Record) → writes M N c (entered b) ≡ ws → b.store.alive ≡ true → store.count b.store + length ws ≤ b.store.capacity →
      (next : store.Meaning → After) → ((m : store.Meaning) → m.records ≡ b.store.records ++ ws → m.safe ≡ length m.records → Agree (next m)) → Agree (finished (written ws b.store) b next)
  agree_finished b g ws is alive room next success = go (wrote ws b.store alive room)
    where
      go : {o : Outcome (Unit {0})} → Wrote ws b.store o → Agree (finished o b next)
      go (done m e s lives) = success m e s
      go (died x m j h e s dead) =
          ap (λ l. lost (store.count m - length l.records) (writes M N c l) l) g ∙ ap (λ rs. lost (store.count m - length b.store.records) rs (entered b)) is ∙ lost_is M N b ws m j h e s

module _ (M : Meaning) (N kept : ℕ) (w : World) where
  agree_began : (c : Call) (x y : Interval) (p : ℕ) → ((ns : List ℕ) → after_answer M N kept c (accepted ns) (entered w) ≡ entered (began M p y w).1) → y ≡ x → Agree M N kept w c (began M p x w)
  agree_began c x y p is e = is (x.index ∷ []) ∙ ap (λ z. entered (began M p z w).1) e

  agree_taking : (q p : ℕ) → w.state p ≡ play M p (w.intervals p) → (ms : List Message) → waiting w.intervals q p ≡ ms → Agree M N kept w (calls.deliver q p) (taking M N q p w ms)
  agree_taking q p state [] e = ap (λ l. taken_first M N q p l (entered w)) e
  agree_taking q p state (m ∷ ms) e = ap (λ l. taken_first M N q p l (entered w)) e ∙ ap (λ s. entered (began M p (by_delivery M N s w.intervals q p m) w).1) (sym state)

  agree_saving : (p : ℕ) → w.saved p ≤ length (w.intervals p) → w.store.alive ≡ true → (0 < length (unsaved w p) → store.count w.store + length (unsaved w p) ≤ w.store.capacity) →
      (xs : List Interval) → unsaved w p ≡ xs → Agree M N kept w (calls.save p) (saving p w xs)
  agree_saving p low alive room [] e =
      ap (λ ys. synced_with (map interval_record ys) (turns M N (calls.save p) (entered w))) e
      ∙ ap (λ S. paged w.intervals S w.up w.store.records w.store.safe) (at_itself w.saved p (length (w.intervals p)) (omega (arith, ap length e, length-drop (w.saved p) (w.intervals p))))
  agree_saving p low alive room (x ∷ xs) e =
      subst (λ ys. Agree M N kept w (calls.save p) (finished (written (map interval_record ys) w.store) w (λ m. (accepted (length (w.intervals p) ∷ []), all_saved p w m)))) e
      (agree_finished M N kept w (calls.save p) w refl (map interval_record (unsaved w p)) refl alive (simp length-map (room (omega (arith, ap length e)))) _
      (λ m is s. synced_some (map interval_record (unsaved w p)) (turns M N (calls.save p) (entered w)) (simp length-map (omega (arith, ap length e)))
      ∙ entered_done w.intervals (at w.saved p (length (w.intervals p))) w.up m (w.store.records ++ map interval_record (unsaved w p)) is s))

  agree_marking : (p : ℕ) → w.state p ≡ play M p (w.intervals p) → w.store.alive ≡ true → store.count w.store + (length (unsaved w p) + 1) ≤ w.store.capacity → Agree M N kept w (calls.mark p) (marking p w)
  agree_marking p state alive room =
      agree_finished M N kept w (calls.mark p) w refl ws (ap (λ s. map interval_record (unsaved w p) ++ (checkpoint_record p (length (w.intervals p)) s ∷ [])) (sym state)) alive (simp (length_push, length-map) room) _
      (λ m is s. ap (λ t. synced_with (map interval_record (unsaved w p) ++ (checkpoint_record p (length (w.intervals p)) t ∷ [])) (turns M N (calls.mark p) (entered w))) (sym state)
      ∙ synced_some ws (turns M N (calls.mark p) (entered w)) (simp length_push (omega arith))
      ∙ entered_done w.intervals (at w.saved p (length (w.intervals p))) w.up m (w.store.records ++ ws) is s)
    where
      ws : List Record
      ws = map interval_record (unsaved w p) ++ (checkpoint_record p (length (w.intervals p)) (w.state p) ∷ [])

-- a call whose writes and turns are those of a recovery on b
module _ (M : Meaning) (N kept : ℕ) (w : World) (c : Call) (b : World) (g : grounds N kept c (entered w) ≡ entered b) (alive : b.store.alive ≡ true)
    (same_writes : writes M N c (entered b) ≡ line_writes N (entered b)) (same-turns : turns M N c (entered b) ≡ cut_back N (entered b)) where
  accepts : (ns : List ℕ) → after_answer M N kept c (accepted ns) (entered w) ≡ synced_with (line_writes N (entered b)) (cut_back N (entered b))
  accepts ns = ap (λ l. synced_with (writes M N c l) (turns M N c l)) g ∙ ap (λ rs. synced_with rs (turns M N c (entered b))) same_writes ∙ ap (synced_with (line_writes N (entered b))) same-turns

  agree_settling : ltb (room b.store) (line_records N b.saved (line_in N (entered b))) ≡ false → Agree M N kept w c (settling M N (left_in (entered b)) b)
  agree_settling enough = go (some_above N b.saved (line_in N (entered b))) refl
    where
      go : (t : Bool) → some_above N b.saved (line_in N (entered b)) ≡ t →
          Agree M N kept w c (cond t (finished (written (line_record N (line_in N (entered b)) ∷ []) b.store) b (settled M N b (line_in N (entered b)))) (settled M N b (line_in N (entered b)) b.store))
      go false e = accepts [] ∙ ap (λ t. synced_with (cond t (line_record N (line_in N (entered b)) ∷ []) []) (cut_back N (entered b))) e
      go true e =
          let writes_line : line_writes N (entered b) ≡ line_record N (line_in N (entered b)) ∷ [] = cond-true (some_above N b.saved (line_in N (entered b))) (line_record N (line_in N (entered b)) ∷ []) [] e in
          let one : line_records N b.saved (line_in N (entered b)) ≡ 1 = cond-true (some_above N b.saved (line_in N (entered b))) 1 0 e in
          agree_finished M N kept w c b g (line_record N (line_in N (entered b)) ∷ []) (same_writes ∙ writes_line) alive (omega (arith, ltb-false (room b.store) (line_records N b.saved (line_in N (entered b))) enough)) (settled M N b (line_in N (entered b)))
          (λ m is s. accepts [] ∙ ap (λ rs. synced_with rs (cut_back N (entered b))) writes_line
          ∙ entered_done (cut_back N (entered b)).intervals (cut_back N (entered b)).saved (cut_back N (entered b)).up m (b.store.records ++ (line_record N (line_in N (entered b)) ∷ [])) is s)

-- what a restart finds is the host as woken
pub found_woken : (N kept : ℕ) (w : World) → w.store.safe ≤ store.count w.store → (w.store.alive ≡ true → w.store.safe ≡ store.count w.store) → found N kept (entered w) ≡ entered (woken N kept w)
found_woken N kept w low lives =
    ap (λ rs. onto rs (length rs)) (sym records) ∙ ap (onto (revived kept w.store).1.records) (sym safe)
  where
    onto : List Record → ℕ → Ledger
    onto rs n = record {
      intervals = λ p. cond (ltb p N) (take 96 ((reading rs).rows p)) [];
      saved = λ p. length (cond (ltb p N) (take 96 ((reading rs).rows p)) []);
      up = λ p. false;
      records = rs;
      safe = n;
    }

    whole : (b : Bool) → w.store.alive ≡ b → (cond {A = Outcome ℕ} b (Err 43, w.store) (Ok kept, all_safe (with_power (record { alive = true; fuse = w.store.fuse }) (with_records (take (w.store.safe + kept) w.store.records) w.store)))).1.records ≡ take (w.store.safe + kept) w.store.records
    whole true e = sym (take_all (w.store.safe + kept) w.store.records (omega (arith, lives e)))
    whole false e = refl

    records : (revived kept w.store).1.records ≡ take (w.store.safe + kept) w.store.records
    records = whole w.store.alive refl

    all : (b : Bool) → w.store.alive ≡ b → (cond {A = Outcome ℕ} b (Err 43, w.store) (Ok kept, all_safe (with_power (record { alive = true; fuse = w.store.fuse }) (with_records (take (w.store.safe + kept) w.store.records) w.store)))).1.safe
        ≡ length (cond {A = Outcome ℕ} b (Err 43, w.store) (Ok kept, all_safe (with_power (record { alive = true; fuse = w.store.fuse }) (with_records (take (w.store.safe + kept) w.store.records) w.store)))).1.records
    all true e = lives e
    all false e = refl

    safe : (revived kept w.store).1.safe ≡ length (revived kept w.store).1.records
    safe = all w.store.alive refl

revived_alive : (kept : ℕ) (m : store.Meaning) → (revived kept m).1.alive ≡ true
revived_alive kept m = go m.alive refl
  where
    go : (b : Bool) → m.alive ≡ b → (cond {A = Outcome ℕ} b (Err 43, m) (Ok kept, all_safe (with_power (record { alive = true; fuse = m.fuse }) (with_records (take (m.safe + kept) m.records) m)))).1.alive ≡ true
    go true e = e
    go false e = refl

agree_restarting : (M : Meaning) (N kept j : ℕ) (w : World) → w.store.safe ≤ store.count w.store → (w.store.alive ≡ true → w.store.safe ≡ store.count w.store) → Agree M N kept w (calls.restart j) (restarting M N (woken N kept w))
agree_restarting M N kept j w low lives =
    tested_of (Agree M N kept w (calls.restart j)) (no_room (woken N kept w) (line_records N (woken N kept w).saved (greatest_line N (woken N kept w).intervals (woken N kept w).saved)) ∷ []) (darkened (woken N kept w).store (woken N kept w))
    (settling M N (woken N kept w).saved (woken N kept w))
    (ap (λ l. lost 0 [] l) is ∙ ap (λ rs. paged (λ p. []) (λ p. 0) (λ p. false) rs (woken N kept w).store.safe) (append-nil (woken N kept w).store.records), tt)
    (λ t. agree_settling M N kept w (calls.restart j) (woken N kept w) is (revived_alive kept w.store) refl refl t.0)
  where
    is : found N kept (entered w) ≡ entered (woken N kept w)
    is = found_woken N kept w low lives

-- every call, where the states are those played: the ledger plays its own from the start
module _ {S R : Type 0} (M : Meaning) (N : ℕ) (played : S) {given : Given} {K : Line} {F : Family} {w : World} (h : Holds S R M N given K w F) (kept : ℕ) where
  state_is : (p : ℕ) → w.up p ≡ true → w.state p ≡ play M p (w.intervals p)
  state_is p up = h.rows.states played p up

  alive_is : w.dark ≡ false → w.store.alive ≡ true
  alive_is awake = h.standing awake

  has_room : (n : ℕ) → ltb (room w.store) n ≡ false → 0 < n → store.count w.store + n ≤ w.store.capacity
  has_room n e some = omega (arith, ltb-false (room w.store) n e)

  by_tests : (c : Call) → AllByRecursion (λ t. Agree M N kept w c (refused t.1, w)) (tests N w c) → (AllByRecursion (λ t. t.0 ≡ false) (tests N w c) → Agree M N kept w c (effect M N kept w c)) → Agree M N kept w c (rule M N kept w c)
  by_tests c stays goes = tested_of (Agree M N kept w c) (tests N w c) w (effect M N kept w c) stays goes

  pub agree : (c : Call) → Agree M N kept w c (rule M N kept w c)
  agree (calls.input p n v) = by_tests (calls.input p n v) (refl, (refl, (refl, (refl, (refl, (refl, (refl, tt)))))))
      (λ t. ap (λ s. entered (began M p (by_input M N p s (w.intervals p) v) w).1) (sym (state_is p (not-false (w.up p) t.1.1.1.0))))
  agree (calls.deliver q p) = by_tests (calls.deliver q p) (refl, (refl, (refl, (refl, (refl, (refl, tt))))))
      (λ t. agree_taking M N kept w q p (state_is p (not-false (w.up p) t.1.1.1.0)) (waiting w.intervals q p) refl)
  agree (calls.save p) = by_tests (calls.save p) (refl, (refl, (refl, (refl, tt))))
      (λ t. agree_saving M N kept w p (h.rows.bounded p) (alive_is t.1.0) (has_room (length (unsaved w p)) t.1.1.1.0) (unsaved w p) refl)
  agree (calls.mark p) = by_tests (calls.mark p) (refl, (refl, (refl, (refl, tt))))
      (λ t. agree_marking M N kept w p (state_is p (not-false (w.up p) t.1.1.0)) (alive_is t.1.0) (has_room (length (unsaved w p) + 1) t.1.1.1.0 (omega arith)))
  agree (calls.crash p) = by_tests (calls.crash p) (refl, (refl, (refl, tt))) (λ t. refl)
  agree calls.recover = by_tests calls.recover (refl, (refl, (refl, tt))) (λ t. agree_settling M N kept w calls.recover w refl (alive_is t.0) refl refl t.1.1.0)
  agree (calls.fail k) = by_tests (calls.fail k) (refl, tt) (λ t. refl)
  agree (calls.restart j) = by_tests (calls.restart j) (refl, (refl, tt)) (λ t. agree_restarting M N kept j w h.stored.safe h.stored.lives)
  agree (calls.show p n) = by_tests (calls.show p n) (refl, (refl, (refl, (refl, tt)))) (λ t. refl)
  agree (calls.look p) = by_tests (calls.look p) (refl, (refl, (refl, tt))) (λ t. refl)
