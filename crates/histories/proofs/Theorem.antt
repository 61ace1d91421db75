-- The theorem on every history.
use Rattle.std.proofs.Common.{◌≡◌, ℕ, ◌+◌, ◌-◌, ◌<◌, ◌≤◌, true, false, eqb, ltb, ◌⊎◌, List, [], ◌∷◌, ◌++◌, map, length, get_or, take, drop, fold, sym, refl, ap, ◌∙◌, subst, inl, inr, arith}
use Rattle.std.specs.List.{range_with_len}
use Rattle.std.proofs.lemmas.List.{take-append-drop, get_or_append_left}
use Rattle.std.proofs.lemmas.List.Sums.{fold_push}
use Rattle.std.proofs.lemmas.Bool.{cases_lt, or_parts, eqb-false, ltb-false}
use Rattle.programs.specs.Program.{Meaning}
use Rattle.runs.specs.Run.{Move}
use Rattle.records.specs.declared.Interval.{Interval}
use Rattle.lines.specs.Built.{Given}
use Rattle.lines.specs.Intervals.{Family, outputs}
use Rattle.lines.specs.Lines.{Line, greatest_line}
use Rattle.lines.specs.Played.{Recorded}
use Rattle.lines.proofs.Cut.{built_same}
use Rattle.lines.proofs.Greatest.{greatest_is_greatest}
use Rattle.lines.proofs.Indexes.{From, from_take}
use Rattle.lines.proofs.Played.{run_recorded}
use Rattle.histories.specs.Calls as calls
use Rattle.histories.specs.Calls.{accepted}
use Rattle.histories.specs.Effects.{After, woken}
use Rattle.histories.specs.History.{Does, History, starts, goes_on, First}
use Rattle.histories.specs.Ledger.{Event, Ledger, blank, after_event, after_answer, found}
use Rattle.histories.specs.Rules.{effect, rule}
use Rattle.histories.specs.Tests.{tests, committed, shown, left, all_up}
use Rattle.histories.specs.Theorem.{gave, entered, AnswersGreatest, Lasting, EveryHistory}
use Rattle.histories.specs.World.{World}
use Rattle.histories.proofs.Each.{each_up}
use Rattle.histories.proofs.Calls.{tested_each}
use Rattle.histories.proofs.Fronts.{front_is}
use Rattle.histories.proofs.Histories.{first_holds, follow_all, lasts_on}
use Rattle.histories.proofs.Holds.{Holds}
use Rattle.histories.proofs.Ledgers.{agree, found_woken}
use Rattle.histories.proofs.Shown.{not_refused, same_numbers, outputs_append, shows_again, recover_line, restart_line}

from_counting : (n : ℕ) (xs : List Interval) → From n xs → map (λ x. x.index) xs ≡ range_with_len (n + 1) (length xs)
from_counting n [] h = refl
from_counting n (x ∷ xs) h = ap (λ k. k ∷ map (λ (y : Interval). y.index) xs) h.0 ∙ ap (λ l. (n + 1) ∷ l) (from_counting (n + 1) xs h.1)

-- greatest, on the host's own intervals: of every world, whatever its records and states are
module _ (M : Meaning) (N : ℕ) (w : World) where
  pub recovers_host : (kept : ℕ) (ns : List ℕ) (v : World) → Does M N w (record { call = calls.recover; answer = accepted ns; kept = kept }) v → AnswersGreatest N (entered w) ns
  recovers_host kept ns v does = (greatest_line N w.intervals (left w), (recover_line M N kept w ns v does.ruled, greatest_is_greatest N w.intervals (left w)))

  pub restarts_host : (j kept : ℕ) (ns : List ℕ) (v : World) → Does M N w (record { call = calls.restart j; answer = accepted ns; kept = kept }) v → AnswersGreatest N (entered (woken N kept w)) ns
  restarts_host j kept ns v does =
      (greatest_line N (woken N kept w).intervals (woken N kept w).saved, (restart_line M N j kept w ns v does.ruled, greatest_is_greatest N (woken N kept w).intervals (woken N kept w).saved))

-- at a moment at which the invariant holds
module _ (S R : Type 0) (M : Meaning) (N : ℕ) (few : N ≤ 8) {given : Given} {K : Line} {F : Family} {w : World} (h : Holds S R M N given K w F) where
  -- indexes have no gap: for any S and R
  pub indexes_at : (p : ℕ) → map (λ x. x.index) (w.intervals p) ≡ range_with_len 1 (length (w.intervals p))
  indexes_at p = from_counting 0 (w.intervals p) (subst (From 0) (sym (front_is (w.intervals p) (F p) (h.rows.fronts p))) (from_take 0 (length (w.intervals p)) (F p) (h.family.indexed p)))

  -- failure-free: where the states are those played, and a run made the records
  pub failure_free_at : S → R → all_up N w.up ≡ true → (moves : List Move) × Recorded M N given w.intervals moves
  failure_free_at played ran up = run_recorded few (built_same (h.family.built played ran) rows)
    where
      rows : (p : ℕ) → w.intervals p ≡ F p
      rows p = go (cases_lt p N)
        where
          go : (p < N) ⊎ (N ≤ p) → w.intervals p ≡ F p
          go (inl k) = h.rows.whole p (each_up N w.up up p k)
          go (inr k) = none (w.intervals p) (h.rows.fronts p).1 ∙ sym (h.family.idle p k)
            where
              none : (xs : List Interval) → F p ≡ xs ++ (h.rows.fronts p).0 → xs ≡ []
              none [] e = refl
              none (x ∷ xs) e = absurd (let idle = h.family.idle p k in let z : ◌≡◌ {A = ℕ} 0 1 = cc in omega arith)

-- lasting, from a moment at which the invariant holds: for any S and R
pub lasting_from : (S R : Type 0) (M : Meaning) (N : ℕ) → N ≤ 8 → (before : List Event) {K : Line} {F : Family} {w : World} → Holds S R M N (gave before) K w F →
    (later : List Event) (v : World) → History M N w later v → w.dark ≡ false → v.dark ≡ false → Lasting M N w v
lasting_from S R M N few before {w = w} h later v goes awake then =
    let on = lasts_on S R M N few before h awake goes then in
    record { line = λ p k. (on p k).0; intervals = λ p k. (on p k).1; shows = shows_again M N w v then on }

-- a ledger that begins as a host of which the invariant holds, where the states are those played: for any R
module _ (S R : Type 0) (M : Meaning) (N : ℕ) (few : N ≤ 8) (before : List Event) {K : Line} {F : Family} {first : World} (start : Holds S R M N (gave before) K first F) (played : S) (begins : Ledger) (is : begins ≡ entered first) where
  -- it goes on as the host does
  pub ledger_from : {es : List Event} {w : World} → History M N first es w → fold (after_event M N) begins es ≡ entered w
  ledger_from starts = is
  ledger_from (goes_on {es} {w} history e v does) =
      fold_push (after_event M N) begins es e
      ∙ ap (λ l. after_event M N l e) (ledger_from history)
      ∙ subst (λ (a : After). after_answer M N e.kept e.call a.0 (entered w) ≡ entered a.1) (sym does.ruled) (agree M N played (follow_all S R M N few K before start history).holds e.kept e.call)

  module _ {es : List Event} {w : World} (history : History M N first es w) where
    -- greatest, on the ledger's intervals
    pub recovers_from : (kept : ℕ) (ns : List ℕ) (v : World) → Does M N w (record { call = calls.recover; answer = accepted ns; kept = kept }) v → AnswersGreatest N (fold (after_event M N) begins es) ns
    recovers_from kept ns v does = subst (λ l. AnswersGreatest N l ns) (sym (ledger_from history)) (recovers_host M N w kept ns v does)

    pub restarts_from : (j kept : ℕ) (ns : List ℕ) (v : World) → Does M N w (record { call = calls.restart j; answer = accepted ns; kept = kept }) v →
        AnswersGreatest N (found N kept (fold (after_event M N) begins es)) ns
    restarts_from j kept ns v does =
        let stored = (follow_all S R M N few K before start history).holds.stored in
        subst (λ l. AnswersGreatest N (found N kept l) ns) (sym (ledger_from history))
        (subst (λ l. AnswersGreatest N l ns) (sym (found_woken N kept w stored.safe stored.lives)) (restarts_host M N w j kept ns v does))

    -- an accepted show answers the ledger's n-th output of p
    pub shows_from : (p n kept : ℕ) (ns : List ℕ) (u : World) → (accepted ns, u) ≡ rule M N kept w (calls.show p n) → ns ≡ get_or (outputs ((fold (after_event M N) begins es).intervals p)) (n - 1) 0 ∷ []
    shows_from p n kept ns u =
        tested_each (λ a. (accepted ns, u) ≡ a → ns ≡ get_or (outputs ((fold (after_event M N) begins es).intervals p)) (n - 1) 0 ∷ []) (tests N w (calls.show p n)) w (effect M N kept w (calls.show p n)) (λ r e. not_refused ns r u w e)
        (λ t e.
        let enough : n ≤ length (shown N w p) = ltb-false (length (shown N w p)) n t.1.1.1.0 in
        let some : (n ≡ 0) → ⊥ = eqb-false n 0 (or_parts (eqb n 0) (ltb 96 n) t.1.0).0 in
        let split : outputs (w.intervals p) ≡ shown N w p ++ outputs (drop (committed N w p) (w.intervals p)) = ap outputs (sym (take-append-drop (committed N w p) (w.intervals p))) ∙ outputs_append (take (committed N w p) (w.intervals p)) (drop (committed N w p) (w.intervals p)) in
        let value : get_or (outputs (w.intervals p)) (n - 1) 0 ≡ get_or (shown N w p) (n - 1) 0 = ap (λ l. get_or l (n - 1) 0) split ∙ get_or_append_left (shown N w p) (outputs (drop (committed N w p) (w.intervals p))) 0 (n - 1) (omega (arith, some)) in
        same_numbers ns (get_or (shown N w p) (n - 1) 0 ∷ []) u w e ∙ ap (λ k. k ∷ []) (sym value ∙ ap (λ (l : Ledger). get_or (outputs (l.intervals p)) (n - 1) 0) (sym (ledger_from history))))

-- a first world: a blank ledger is the host, and of no record states and run are sure
blank_is : (M : Meaning) (N : ℕ) (first : World) → First M N first → blank N ≡ entered first
blank_is M N first is-first =
    ap (λ rs. record { intervals = λ p. []; saved = λ p. 0; up = λ p. ltb p N; records = rs; safe = 0 }) (sym is-first.1.0)
    ∙ ap (λ n. record { intervals = λ p. []; saved = λ p. 0; up = λ p. ltb p N; records = is-first.0.records; safe = n }) (sym is-first.1.1)
    ∙ ap entered (sym is-first.1.3)

pub every_history : EveryHistory
every_history M N few first is-first es w history =
    let Sure : Type 0 = Unit {0} in
    let start = first_holds Sure Sure M N few first is-first in
    let is = blank_is M N first is-first in
    let h = (follow_all Sure Sure M N few (λ p. 0) [] start history).holds in
    record {
      shape = record {
        agrees = ledger_from Sure Sure M N few [] start tt (blank N) is history;
        indexes = indexes_at Sure Sure M N few h;
        played = h.rows.states tt;
        just_saved = h.rows.downs;
        dark_none = h.rows.none;
      };
      greatest = record {
        recovers = recovers_from Sure Sure M N few [] start tt (blank N) is history;
        restarts = restarts_from Sure Sure M N few [] start tt (blank N) is history;
      };
      failure_free = failure_free_at Sure Sure M N few h tt tt;
      lasting = lasting_from Sure Sure M N few es h;
      shows = shows_from Sure Sure M N few [] start tt (blank N) is history;
    }
