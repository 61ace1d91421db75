-- What a run has recorded is recorded by a run: one step for each interval, in the order in which they were built.
use Rattle.std.proofs.Common.{◌≡◌, ℕ, ◌+◌, ◌<◌, ◌≤◌, Bool, true, false, cond, eqb, ltb, ◌⊎◌, List, [], ◌∷◌, ◌++◌, map, length, get_or, drop, filter, sym, refl, ap, ◌∙◌, subst, inl, inr, arith}
use Rattle.std.specs.Option.{option_to_list}
use Rattle.std.proofs.lemmas.List.{append-nil, map-append, map_push, drop-append-le, drop_all, length_push, get_or_push, get_or_append_left}
use Rattle.std.proofs.lemmas.List.Sums.{fold_push}
use Rattle.std.proofs.lemmas.Bool.{cases_eq, cases_lt, eq-eqb, ne_eqb, cond-true, cond-false}
use Rattle.programs.specs.Program.{Meaning}
use Rattle.programs.specs.Values.{listed, within, reaching}
use Rattle.programs.specs.declared.values.Send.{Send}
use Rattle.programs.specs.declared.values.Sends.{Sends}
use Rattle.programs.specs.declared.values.Sends.TheVariants.{Nothing, One, Two}
use Rattle.records.specs.declared.Interval.{Interval}
use Rattle.runs.specs.Run.{Configuration, Steps, Leaves, Move, took, moved, stays, goes_on, sent_to}
use Rattle.lines.specs.Built.{Given, Gives, Grows, Built, begins, input, delivery}
use Rattle.lines.specs.Intervals.{Family, Message, play, sent_in, channel, taken, waiting, outputs}
use Rattle.lines.specs.Played.{stand, step_at, input_at, steps_at, inputs_at, Fits, Recorded}
use Rattle.lines.proofs.Taken.{joined_push, taken_same, taken_more, channel_more, outputs_more, idle, some_left, drop_next, sent}

listed_within : (N : ℕ) (s : Sends) → listed (within N s) ≡ reaching N (listed s)
listed_within N Nothing = refl
listed_within N (One m) = go (ltb m.target N)
  where
    go : (b : Bool) → listed (cond b (One m) Nothing) ≡ cond b (m ∷ []) []
    go true = refl
    go false = refl
listed_within N (Two m n) = go (ltb m.target N) (ltb n.target N)
  where
    go : (a b : Bool) → listed (cond a (cond b (Two m n) (One m)) (cond b (One n) Nothing)) ≡ cond a (m ∷ cond b (n ∷ []) []) (cond b (n ∷ []) [])
    go true true = refl
    go true false = refl
    go false true = refl
    go false false = refl

values_of : (i : ℕ) (ms : List Send) → map (λ (m : Message). m.value) (map (λ (m : Send). record { value = m.value; sent_at = i }) ms) ≡ map (λ (m : Send). m.value) ms
values_of i [] = refl
values_of i (m ∷ ms) = ap (λ vs. m.value ∷ vs) (values_of i ms)

-- the values that an interval sends are those that its step sends
sends_of : (N t : ℕ) (s : Sends) (x : Interval) → x.sends ≡ within N s → map (λ m. m.value) (sent_in t x) ≡ sent_to t (reaching N (listed s))
sends_of N t s x e =
    values_of x.index (filter (λ m. eqb m.target t) (listed x.sends))
    ∙ ap (λ ms. map (λ (m : Send). m.value) (filter (λ m. eqb m.target t) ms)) (ap listed e ∙ listed_within N s)

-- one interval more is one step
module _ (M : Meaning) (N : ℕ) {F G : Family} {p : ℕ} {x : Interval} (grows : Grows F p x G) (exists : p < N) where
  play_more : play M p (G p) ≡ (M.step p (play M p (F p)) x.source x.value).0
  play_more = ap (play M p) grows.here ∙ fold_push (λ s y. (M.step p s y.source y.value).0) (M.start p) (F p) x

  stepped : (c : Configuration) → ((r : ℕ) → c.state r ≡ play M r (F r)) →
      ((a b : ℕ) → c.waiting a b ≡ map (λ m. m.value) (drop (taken a (G b)) (channel b (F a)))) →
      ((r : ℕ) → c.outputs r ≡ outputs (F r)) → ((r : ℕ) → taken p (G r) ≤ length (channel r (F p))) →
      x.sends ≡ within N (M.step p (play M p (F p)) x.source x.value).1 → x.output ≡ (M.step p (play M p (F p)) x.source x.value).2 →
      Steps M N p x.source x.value c (stand M G)
  stepped c states waits outs enough sends output = record {
    exists = exists;
    state = play_more ∙ ap (λ s. (M.step p s x.source x.value).0) (sym (states p));
    states = λ r n. ap (play M r) (grows.others r n) ∙ sym (states r);
    sends = λ r.
        ap (λ ms. map (λ (m : Message). m.value) (drop (taken p (G r)) ms)) (channel_more grows r)
        ∙ ap (map (λ (m : Message). m.value)) (drop-append-le (taken p (G r)) (channel r (F p)) (sent_in r x) (enough r))
        ∙ map-append (λ (m : Message). m.value) (drop (taken p (G r)) (channel r (F p))) (sent_in r x)
        ∙ ap (λ vs. vs ++ map (λ (m : Message). m.value) (sent_in r x)) (sym (waits p r))
        ∙ ap (λ vs. c.waiting p r ++ vs) (sends_of N r (M.step p (play M p (F p)) x.source x.value).1 x sends
        ∙ ap (λ s. sent_to r (reaching N (listed (M.step p s x.source x.value).1))) (sym (states p)));
    channels = λ q r n. ap (λ xs. map (λ (m : Message). m.value) (drop (taken q (G r)) (channel r xs))) (grows.others q n) ∙ sym (waits q r);
    output = outputs_more grows ∙ ap (λ vs. vs ++ option_to_list x.output) (sym (outs p)) ∙ ap (λ o. c.outputs p ++ option_to_list o) (output ∙ ap (λ s. (M.step p s x.source x.value).2) (sym (states p)));
    silent = λ r n. ap outputs (grows.others r n) ∙ sym (outs r);
  }

-- after a message has left its channel, and before the step: taken as in G, sent as in F
abbrev between : Meaning → Family → Family → Configuration
between M F G = record {
  state = λ r. play M r (F r);
  waiting = λ a b. map (λ m. m.value) (drop (taken a (G b)) (channel b (F a)));
  outputs = λ r. outputs (F r);
}

nothing_sent : (n t : ℕ) (xs : List Interval) → xs ≡ [] → drop n (channel t xs) ≡ []
nothing_sent n t xs e = ap (λ ys. drop n (channel t ys)) e ∙ drop_all n [] (omega arith)

-- an input changes no channel before its step
input_waits : {M : Meaning} {N : ℕ} {given : Given} {F G : Family} {p : ℕ} {x : Interval} → Built M N given F → N ≤ 8 → Grows F p x G → x.source ≡ 8 →
    (a b : ℕ) → waiting F a b ≡ drop (taken a (G b)) (channel b (F a))
input_waits {M} {N} {given} {F} {G} built few grows outside a b = go (cases_lt a N)
  where
    go : (a < N) ⊎ (N ≤ a) → drop (taken a (F b)) (channel b (F a)) ≡ drop (taken a (G b)) (channel b (F a))
    go (inl h) = ap (λ n. drop n (channel b (F a))) (sym (taken_same grows a b (λ e. omega arith)))
    go (inr h) = nothing_sent (taken a (F b)) b (F a) (idle built a h) ∙ sym (nothing_sent (taken a (G b)) b (F a) (idle built a h))

leaves : (M : Meaning) {F G : Family} {p : ℕ} {x : Interval} → Grows F p x G → (m : Message) (ms : List Message) → x.value ≡ m.value → waiting F x.source p ≡ m ∷ ms → Leaves x.source p x.value (stand M F) (between M F G)
leaves M {F} {G} {p} {x} grows m ms value first = record {
  first = ap (map (λ m. m.value)) first ∙ ap (λ v. v ∷ map (λ (y : Message). y.value) ms) (sym value)
      ∙ ap (λ ys. x.value ∷ map (λ (y : Message). y.value) ys)
      (sym (ap (λ n. drop n (channel p (F x.source))) (taken_more grows) ∙ drop_next (taken x.source (F p)) (channel p (F x.source)) m ms first));
  channels = λ r s other. ap (λ n. map (λ (y : Message). y.value) (drop n (channel s (F r)))) (taken_same grows r s other);
  states = λ r. refl;
  silent = λ r. refl;
}

-- what the induction carries: the run, and how many inputs it has
record Story (M : Meaning) (N : ℕ) (given : Given) (F : Family) (moves : List Move) : Type 0 where
  recorded : Recorded M N given F moves
  numbered : (p : ℕ) → length (inputs_at p moves) ≡ taken 8 (F p)

module _ {F G : Family} {p : ℕ} {x : Interval} (grows : Grows F p x G) (ms : List Move) (m : Move) where
  steps_more : ((r : ℕ) → steps_at r ms ≡ map (λ (y : Interval). (y.source, y.value)) (F r)) → step_at p m ≡ (x.source, x.value) ∷ [] → ((r : ℕ) → (r ≡ p → ⊥) → step_at r m ≡ []) →
      (r : ℕ) → steps_at r (ms ++ (m ∷ [])) ≡ map (λ (y : Interval). (y.source, y.value)) (G r)
  steps_more before here others r = joined_push (step_at r) ms m ∙ ap (λ ys. ys ++ step_at r m) (before r) ∙ go (cases_eq r p)
    where
      go : (r ≡ p) ⊎ (r ≡ p → ⊥) → map (λ (y : Interval). (y.source, y.value)) (F r) ++ step_at r m ≡ map (λ (y : Interval). (y.source, y.value)) (G r)
      go (inl e) = subst (λ k. map (λ (y : Interval). (y.source, y.value)) (F k) ++ step_at k m ≡ map (λ (y : Interval). (y.source, y.value)) (G k)) (sym e)
          (ap (λ ys. map (λ (y : Interval). (y.source, y.value)) (F p) ++ ys) here ∙ sym (ap (map (λ (y : Interval). (y.source, y.value))) grows.here ∙ map_push (λ (y : Interval). (y.source, y.value)) (F p) x))
      go (inr n) = ap (λ ys. map (λ (y : Interval). (y.source, y.value)) (F r) ++ ys) (others r n) ∙ append-nil _ ∙ ap (map (λ (y : Interval). (y.source, y.value))) (sym (grows.others r n))

-- one input more fits if it was given under the next number
fits_more : (given : Given) (ms : List Move) (p v : ℕ) → Fits given ms → Gives given p (length (inputs_at p ms) + 1) v → Fits given (ms ++ (took p v ∷ []))
fits_more given ms p v before here r = subst (λ vs. (k : ℕ) → k < length vs → Gives given r (k + 1) (get_or vs k 0)) (sym (joined_push (input_at r) ms (took p v))) (go (cases_eq r p))
  where
    go : (r ≡ p) ⊎ (r ≡ p → ⊥) → (k : ℕ) → k < length (inputs_at r ms ++ input_at r (took p v)) → Gives given r (k + 1) (get_or (inputs_at r ms ++ input_at r (took p v)) k 0)
    go (inr n) = subst (λ vs. (k : ℕ) → k < length vs → Gives given r (k + 1) (get_or vs k 0)) (sym (ap (λ vs. inputs_at r ms ++ vs) (cond-false (eqb p r) (v ∷ []) [] (ne_eqb p r (λ e. n (sym e)))) ∙ append-nil (inputs_at r ms))) (before r)
    go (inl e) = subst (λ vs. (k : ℕ) → k < length vs → Gives given r (k + 1) (get_or vs k 0)) (sym (ap (λ vs. inputs_at r ms ++ vs) (cond-true (eqb p r) (v ∷ []) [] (eq-eqb p r (sym e))))) (λ k h. last k h (cases_lt k (length (inputs_at r ms))))
      where
        last : (k : ℕ) → k < length (inputs_at r ms ++ (v ∷ [])) → (k < length (inputs_at r ms)) ⊎ (length (inputs_at r ms) ≤ k) → Gives given r (k + 1) (get_or (inputs_at r ms ++ (v ∷ [])) k 0)
        last k h (inl l) = subst (Gives given r (k + 1)) (sym (get_or_append_left (inputs_at r ms) (v ∷ []) 0 k l)) (before r k l)
        last k h (inr l) =
            let at : length (inputs_at r ms) ≡ k = omega (arith, length_push (inputs_at r ms) v) in
            subst (Gives given r (k + 1)) (sym (get_or_push (inputs_at r ms) v 0 k at)) (subst (λ n. Gives given r (n + 1) v) at (subst (λ s. Gives given s (length (inputs_at s ms) + 1) v) (sym e) here))

no_inputs : (ms : List Move) (q p v r : ℕ) → inputs_at r (ms ++ (moved q p v ∷ [])) ≡ inputs_at r ms
no_inputs ms q p v r = joined_push (input_at r) ms (moved q p v) ∙ append-nil (inputs_at r ms)

-- the inputs of a run are counted as the intervals from outside are
numbered_more : {F G : Family} {p : ℕ} {x : Interval} → Grows F p x G → x.source ≡ 8 → (ms : List Move) (v : ℕ) → ((r : ℕ) → length (inputs_at r ms) ≡ taken 8 (F r)) → (r : ℕ) → length (inputs_at r (ms ++ (took p v ∷ []))) ≡ taken 8 (G r)
numbered_more {F} {G} {p} {x} grows outside ms v before r = ap length (joined_push (input_at r) ms (took p v)) ∙ go (cases_eq r p)
  where
    go : (r ≡ p) ⊎ (r ≡ p → ⊥) → length (inputs_at r ms ++ input_at r (took p v)) ≡ taken 8 (G r)
    go (inr n) = ap (λ vs. length (inputs_at r ms ++ vs)) (cond-false (eqb p r) (v ∷ []) [] (ne_eqb p r (λ e. n (sym e)))) ∙ ap length (append-nil (inputs_at r ms)) ∙ before r ∙ sym (taken_same grows 8 r (λ k. n k.1))
    go (inl e) = ap (λ vs. length (inputs_at r ms ++ vs)) (cond-true (eqb p r) (v ∷ []) [] (eq-eqb p r (sym e))) ∙ length_push (inputs_at r ms) v
        ∙ ap (λ n. n + 1) (before r) ∙ subst (λ k. taken 8 (F k) + 1 ≡ taken 8 (G k)) (sym e) (sym (subst (λ s. taken s (G p) ≡ taken s (F p) + 1) outside (taken_more grows)))

started : (M : Meaning) (N : ℕ) (given : Given) (F : Family) → ((p : ℕ) → F p ≡ []) → Story M N given F []
started M N given F none = record {
  recorded = record {
    run = (
      stand M F,
      (
        record {
          states = λ p h. ap (play M p) (none p);
          channels = λ q p. ap (map (λ m. m.value)) (nothing_sent (taken q (F p)) p (F q) (none q));
          silent = λ p. ap outputs (none p);
        },
        stays,
      ),
    );
    steps = λ p. ap (map (λ (x : Interval). (x.source, x.value))) (sym (none p));
    fits = λ p k h. absurd (omega arith);
  };
  numbered = λ p. ap (taken 8) (sym (none p));
}

story : {M : Meaning} {N : ℕ} {given : Given} {F : Family} → N ≤ 8 → Built M N given F → (moves : List Move) × Story M N given F moves
story {M} {N} {given} {F} few (begins none) = ([], started M N given F none)
story {M} {N} {given} few (input {F} {G} p v built exists g grows) = go (story few built)
  where
    go : (moves : List Move) × Story M N given F moves → (moves : List Move) × Story M N given G moves
    go (ms, told) = (
      ms ++ (took p v ∷ []),
      record {
        recorded = record {
          run = (
            told.recorded.run.0,
            (
              told.recorded.run.1.0,
              goes_on told.recorded.run.1.1 (took p v)
                  (stepped M N grows exists (stand M F) (λ r. refl) (λ a b. ap (map (λ m. m.value)) (input_waits built few grows refl a b)) (λ r. refl)
                  (λ r. omega (arith, taken_same grows p r (λ e. omega arith), sent built few p r exists)) refl refl),
            ),
          );
          steps = steps_more grows ms (took p v) told.recorded.steps (cond-true (eqb p p) ((8, v) ∷ []) [] (eq-eqb p p refl)) (λ r n. cond-false (eqb p r) ((8, v) ∷ []) [] (ne_eqb p r (λ e. n (sym e))));
          fits = fits_more given ms p v told.recorded.fits (subst (λ n. Gives given p (n + 1) v) (sym (told.numbered p)) g);
        };
        numbered = numbered_more grows refl ms v told.numbered;
      },
    )
story {M} {N} {given} few (delivery {F} {G} q p m rest built sender exists first grows) = go (story few built)
  where
    go : (moves : List Move) × Story M N given F moves → (moves : List Move) × Story M N given G moves
    go (ms, told) = (
      ms ++ (moved q p m.value ∷ []),
      record {
        recorded = record {
          run = (
            told.recorded.run.0,
            (
              told.recorded.run.1.0,
              goes_on told.recorded.run.1.1 (moved q p m.value) (
                between M F G,
                (
                  leaves M grows m rest refl first,
                  stepped M N grows exists (between M F G) (λ r. refl) (λ a b. refl) (λ r. refl) enough refl refl,
                ),
              ),
            ),
          );
          steps = steps_more grows ms (moved q p m.value) told.recorded.steps (cond-true (eqb p p) ((q, m.value) ∷ []) [] (eq-eqb p p refl)) (λ r n. cond-false (eqb p r) ((q, m.value) ∷ []) [] (ne_eqb p r (λ e. n (sym e))));
          fits = λ r. subst (λ vs. (k : ℕ) → k < length vs → Gives given r (k + 1) (get_or vs k 0)) (sym (no_inputs ms q p m.value r)) (told.recorded.fits r);
        };
        numbered = λ r. ap length (no_inputs ms q p m.value r) ∙ told.numbered r ∙ sym (taken_same grows 8 r (λ e. omega arith));
      },
    )
      where
        enough : (r : ℕ) → taken p (G r) ≤ length (channel r (F p))
        enough r = cases (cases_eq p q) (cases_eq r p)
          where
            cases : (p ≡ q) ⊎ (p ≡ q → ⊥) → (r ≡ p) ⊎ (r ≡ p → ⊥) → taken p (G r) ≤ length (channel r (F p))
            cases (inl e) (inl f) =
                let here : taken q (G p) ≤ length (channel p (F q)) = omega (arith, taken_more grows, some_left (taken q (F p)) (channel p (F q)) m rest first) in
                subst (λ k. taken p (G k) ≤ length (channel k (F p))) (sym f) (subst (λ k. taken k (G p) ≤ length (channel p (F k))) (sym e) here)
            cases (inr n) s = omega (arith, taken_same grows p r (λ k. n k.0), sent built few p r exists)
            cases (inl e) (inr n) = omega (arith, taken_same grows p r (λ k. n k.1), sent built few p r exists)

pub run_recorded : {M : Meaning} {N : ℕ} {given : Given} {F : Family} → N ≤ 8 → Built M N given F → (moves : List Move) × Recorded M N given F moves
run_recorded few built = ((story few built).0, (story few built).1.recorded)
