-- What holds at the end of every history, and what lasts from one moment to a later one.
use Rattle.std.proofs.Common.{◌≡◌, ℕ, ◌<◌, ◌≤◌, true, false, eqb, ltb, ◌⊎◌, List, [], ◌∷◌, ◌++◌, length, take, sym, refl, ap, ◌∙◌, subst, inl, inr, arith}
use Rattle.std.specs.List.{All}
use Rattle.std.proofs.lemmas.List.Elements.{All-nil}
use Rattle.std.proofs.lemmas.List.{take_all, length-take, append_assoc}
use Rattle.std.proofs.lemmas.Bool.{eq-eqb, and_from, or_left, or_right, or_cases, ltb-true, cond-true}
use Rattle.programs.specs.Program.{Meaning, zeros}
use Rattle.lines.specs.Built.{Given, Gives, Built, begins, input, delivery}
use Rattle.lines.specs.Intervals.{Family}
use Rattle.lines.specs.Lines.{Line, Backed, Consistent, Within, Greatest}
use Rattle.lines.proofs.Greatest.{greatest_is_greatest}
use Rattle.histories.specs.Calls as calls
use Rattle.histories.specs.Calls.{Call, Answer, accepted, refused}
use Rattle.histories.specs.History.{Does, History, starts, goes_on, First}
use Rattle.histories.specs.Ledger.{Event}
use Rattle.records.specs.declared.Interval.{Interval}
use Rattle.histories.specs.Reading.{reading, PlayedFront}
use Rattle.histories.specs.Tests.{committed}
use Rattle.histories.specs.Theorem.{fed, gave}
use Rattle.histories.specs.World.{World}
use Rattle.histories.proofs.Calls.{Fed, step}
use Rattle.histories.proofs.Fronts.{front_none, front_take}
use Rattle.histories.proofs.Holds.{Holds, Next}
use Rattle.histories.proofs.Remembered.{Kept, kept_whole}
use Rattle.histories.proofs.Steps.{not_both}

pub built_wider : {M : Meaning} {N : ℕ} {given wider : Given} {F : Family} → ((p n v : ℕ) → Gives given p n v → Gives wider p n v) → Built M N given F → Built M N wider F
built_wider more (begins none) = begins none
built_wider more (input p v built exists g grows) = input p v (built_wider more built) exists (more _ _ _ g) grows
built_wider more (delivery q p m ms built sender exists first grows) = delivery q p m ms (built_wider more built) sender exists first grows

holds_wider : {S R : Type 0} {M : Meaning} {N : ℕ} {given wider : Given} {K : Line} {w : World} {F : Family} → ((p n v : ℕ) → Gives given p n v → Gives wider p n v) → Holds S R M N given K w F → Holds S R M N wider K w F
holds_wider more h = record {
  family = record { short = h.family.short; named = h.family.named; indexed = h.family.indexed; idle = h.family.idle; consistent = h.family.consistent; built = λ s r. built_wider more (h.family.built s r) };
  rows = h.rows;
  stored = h.stored;
  standing = h.standing;
  read = h.read;
}

-- more events gave more
gave_more : (es fs : List Event) (p n v : ℕ) → Gives (gave es) p n v → Gives (gave (es ++ fs)) p n v
gave_more [] fs p n v e = not_both false e refl
gave_more (x ∷ es) fs p n v e = go (gave_more es fs p n v) (or_cases (fed x.call x.answer p n v) (gave es p n v) e)
  where
    go : (Gives (gave es) p n v → Gives (gave (es ++ fs)) p n v) → (fed x.call x.answer p n v ≡ true) ⊎ (gave es p n v ≡ true) → Gives (gave (x ∷ (es ++ fs))) p n v
    go more (inl a) = or_left (fed x.call x.answer p n v) (gave (es ++ fs) p n v) a
    go more (inr b) = or_right (fed x.call x.answer p n v) (gave (es ++ fs) p n v) (more b)

gave_last : (es : List Event) (e : Event) (p n v : ℕ) → fed e.call e.answer p n v ≡ true → Gives (gave (es ++ (e ∷ []))) p n v
gave_last [] e p n v h = or_left (fed e.call e.answer p n v) false h
gave_last (x ∷ es) e p n v h = or_right (fed x.call x.answer p n v) (gave (es ++ (e ∷ [])) p n v) (gave_last es e p n v h)

fed_now : (es : List Event) (c : Call) (a : Answer) (kept : ℕ) → Fed c a (gave (es ++ (record { call = c; answer = a; kept = kept } ∷ [])))
fed_now es (calls.input p n v) (accepted ns) kept = gave_last es _ p n v (and_from (eqb p p) _ (eq-eqb p p refl) (and_from (eqb n n) (eqb v v) (eq-eqb n n refl) (eq-eqb v v refl)))
fed_now es (calls.input p n v) (refused r) kept = tt
fed_now es (calls.deliver q p) a kept = tt
fed_now es (calls.save p) a kept = tt
fed_now es (calls.mark p) a kept = tt
fed_now es (calls.crash p) a kept = tt
fed_now es calls.recover a kept = tt
fed_now es (calls.fail k) a kept = tt
fed_now es (calls.restart j) a kept = tt
fed_now es (calls.show p n) a kept = tt
fed_now es (calls.look p) a kept = tt

module _ (S R : Type 0) (M : Meaning) (N : ℕ) (few : N ≤ 8) where
  -- one event more
  follow : (K : Line) {given wider : Given} {F : Family} {w : World} → Holds S R M N given K w F → (e : Event) (v : World) → Does M N w e v → ((p n x : ℕ) → Gives given p n x → Gives wider p n x) → Fed e.call e.answer wider → Next S R M N wider K F v
  follow K {given} {wider} {F} {w} h e v does more gives =
      subst (λ a. Fed e.call a.0 wider → Next S R M N wider K F a.1) (sym does.ruled) (step S R M N few K (holds_wider more h) e.kept does.allowed e.call) gives

  -- from a moment on, with what was given before it
  pub follow_all : (K : Line) (before : List Event) {F : Family} {w : World} → Holds S R M N (gave before) K w F → {es : List Event} {v : World} → History M N w es v → Next S R M N (gave (before ++ es)) K F v
  follow_all K before {F} {w} h starts = record { later = F; holds = holds_wider (gave_more before []) h; lasts = λ p k. refl }
  follow_all K before {F} {w} h (goes_on {es} {w = u} history e v does) = go (follow_all K before h history)
    where
      go : Next S R M N (gave (before ++ es)) K F u → Next S R M N (gave (before ++ (es ++ (e ∷ [])))) K F v
      go next =
          let wide = λ (p n x : ℕ) (g : Gives (gave (before ++ es)) p n x). subst (λ fs. Gives (gave fs) p n x) (append_assoc before es (e ∷ [])) (gave_more (before ++ es) (e ∷ []) p n x g) in
          let after = follow K next.holds e v does wide (subst (λ fs. Fed e.call e.answer (gave fs)) (append_assoc before es (e ∷ [])) (fed_now (before ++ es) e.call e.answer e.kept)) in
          record { later = after.later; holds = after.holds; lasts = λ p k. after.lasts p k ∙ next.lasts p k }

  -- a first world holds nothing
  pub first_holds : (w : World) → First M N w → Holds S R M N (gave []) (λ p. 0) w (λ p. [])
  first_holds w first = subst (λ v. Holds S R M N (gave []) (λ p. 0) v (λ p. [])) (sym first.1.3) (record {
    family = record { short = λ p. omega arith; named = λ p. All-nil (λ (x : Interval). x.process ≡ p); indexed = λ p. tt; idle = λ p h. refl; consistent = λ p h. All-nil (Backed N (λ p. 0)); built = λ s r. begins (λ p. refl) };
    rows = record {
      fronts = λ p. front_none [];
      whole = λ p u. refl;
      bounded = λ p. omega arith;
      downs = λ p d. refl;
      present = λ p u. ltb-true p N u;
      states = λ v p u. cond-true (ltb p N) (M.start p) zeros u;
      none = λ d p. refl;
      lying = λ d. not_both false d refl;
    };
    stored = record {
      safe = omega (arith, first.1.1);
      lives = λ a. first.1.1 ∙ sym (ap length first.1.0);
      remembered = λ k a b. subst (λ rs. Kept S M N (λ p. []) (λ p. 0) (reading (take k rs))) (sym first.1.0) (subst (λ rs. Kept S M N (λ p. []) (λ p. 0) (reading rs)) (sym (take_all k [] (omega arith)))
          (record { fronts = λ p. front_none []; above = λ p h. omega arith; checks = λ v p. All-nil (PlayedFront M p []) }));
    };
    standing = λ d. first.1.2;
    read = λ d p. ap (λ rs. (reading rs).rows p) first.1.0;
  })

  pub holds_at : {first : World} {es : List Event} {w : World} → First M N first → History M N first es w → (F : Family) × Holds S R M N (gave es) (λ p. 0) w F
  holds_at {first} f history = let next = follow_all (λ p. 0) [] (first_holds first f) history in (next.later, next.holds)

  -- while the host stands, its committed line can be the line that lasts
  rewitness : (K : Line) {given : Given} {F : Family} {w : World} → Holds S R M N given K w F → w.dark ≡ false → Holds S R M N given (committed N w) w F
  rewitness K {given} {F} {w} h awake = record {
    family = record {
      short = h.family.short;
      named = h.family.named;
      indexed = h.family.indexed;
      idle = h.family.idle;
      built = h.family.built;
      consistent = λ p k. subst (All (Backed N (committed N w))) (sym (front_take (committed N w p) (w.intervals p) (F p) (h.rows.fronts p) (best.inside p k).1)) (best.consistent p k);
    };
    rows = h.rows;
    stored = record {
      safe = h.stored.safe;
      lives = h.stored.lives;
      remembered = λ k a b. let kept = h.stored.remembered k a b in record {
        fronts = kept.fronts;
        above = λ p l. subst (λ rs. committed N w p ≤ length ((reading rs).rows p)) (sym (take_all k w.store.records (omega (arith, h.stored.lives (h.standing awake)))))
            (omega (arith, (best.inside p l).0, (best.inside p l).1, ap length (h.read awake p), length-take (w.saved p) (w.intervals p)));
        checks = kept.checks;
      };
    };
    standing = h.standing;
    read = h.read;
  }
    where
      best : Greatest N w.intervals w.saved (committed N w)
      best = greatest_is_greatest N w.intervals w.saved

  -- a line that lasts is within what is saved
  lasting_saved : (K : Line) {given : Given} {F : Family} {w : World} → Holds S R M N given K w F → w.dark ≡ false → (p : ℕ) → p < N → K p ≤ w.saved p
  lasting_saved K {given} {F} {w} h awake p l =
      let kept = kept_whole S M N F K w.store.records w.store.safe h.stored.safe h.stored.remembered in
      omega (arith, kept.above p l, ap length (h.read awake p), length-take (w.saved p) (w.intervals p))

  -- the committed line never falls, and the intervals up to it stay
  pub lasts_on : (before : List Event) {K : Line} {F : Family} {w : World} → Holds S R M N (gave before) K w F → w.dark ≡ false → {es : List Event} {v : World} → History M N w es v → v.dark ≡ false →
      (p : ℕ) → p < N → (committed N w p ≤ committed N v p) × (take (committed N w p) (v.intervals p) ≡ take (committed N w p) (w.intervals p))
  lasts_on before {K} {F} {w} h awake {es} {v} history later p l =
      ((greatest_is_greatest N v.intervals v.saved).highest (committed N w) consistent within p l, same p l)
    where
      low : (q : ℕ) → q < N → committed N w q ≤ v.saved q
      low = lasting_saved (committed N w) (follow_all (committed N w) before (rewitness K h awake) history).holds later

      front : (q : ℕ) → q < N → take (committed N w q) ((follow_all (committed N w) before (rewitness K h awake) history).later q) ≡ take (committed N w q) (v.intervals q)
      front q k = front_take (committed N w q) (v.intervals q) _ ((follow_all (committed N w) before (rewitness K h awake) history).holds.rows.fronts q)
          (omega (arith, low q k, (follow_all (committed N w) before (rewitness K h awake) history).holds.rows.bounded q))

      consistent : Consistent N v.intervals (committed N w)
      consistent q k = subst (All (Backed N (committed N w))) (front q k) ((follow_all (committed N w) before (rewitness K h awake) history).holds.family.consistent q k)

      within : Within N v.intervals v.saved (committed N w)
      within q k = (low q k, omega (arith, low q k, (follow_all (committed N w) before (rewitness K h awake) history).holds.rows.bounded q))

      same : (q : ℕ) → q < N → take (committed N w q) (v.intervals q) ≡ take (committed N w q) (w.intervals q)
      same q k = sym (front q k) ∙ (follow_all (committed N w) before (rewitness K h awake) history).lasts q k
          ∙ front_take (committed N w q) (w.intervals q) (F q) (h.rows.fronts q) ((greatest_is_greatest N w.intervals w.saved).inside q k).1
