-- What a run has recorded, cut back to a consistent line, is again what a run records.
use Rattle.std.proofs.Common.{◌≡◌, ℕ, zero, suc, ◌<◌, ◌≤◌, ◌⊎◌, List, [], ◌∷◌, ◌++◌, length, take, drop, sym, ap, ◌∙◌, subst, inl, inr, arith}
use Rattle.std.specs.List.{All}
use Rattle.std.proofs.lemmas.List.Elements.{All-nil, All-head, All-tail, All-take, All-drop}
use Rattle.std.proofs.lemmas.List.{take-append-le, take_all, take-take, take-append-drop, drop_all, length_push}
use Rattle.std.proofs.lemmas.Grind.{flat_map-append}
use Rattle.std.proofs.lemmas.Bool.{cases_eq, cases_lt}
use Rattle.programs.specs.Program.{Meaning}
use Rattle.records.specs.declared.Interval.{Interval}
use Rattle.lines.specs.Built.{Given, Gives, Grows, Built, begins, input, delivery, cut}
use Rattle.lines.specs.Intervals.{Family, Message, play, sent_in, channel, taken, waiting, next_input, vector_after, merged, begun, by_input, by_delivery}
use Rattle.lines.specs.Lines.{Line, Backed, Consistent}
use Rattle.lines.proofs.Indexes.{From, from_drop, sent_late, indexed}

grows_same : {F : Family} {p : ℕ} {x : Interval} {G H : Family} → Grows F p x G → ((r : ℕ) → H r ≡ G r) → Grows F p x H
grows_same {F} {p} grows same = record { here = same p ∙ grows.here; others = λ r n. same r ∙ grows.others r n }

pub built_same : {M : Meaning} {N : ℕ} {given : Given} {G H : Family} → Built M N given G → ((r : ℕ) → H r ≡ G r) → Built M N given H
built_same (begins none) same = begins (λ p. same p ∙ none p)
built_same (input p v built exists g grows) same = input p v built exists g (grows_same grows same)
built_same (delivery q p m ms built sender exists first grows) same = delivery q p m ms built sender exists first (grows_same grows same)

-- what is at or before k in a list whose rest comes after k stands in its first part
first_part : (k n : ℕ) (xs ys : List Message) (m : Message) (ms : List Message) → drop n (xs ++ ys) ≡ m ∷ ms → All (λ x. k < x.sent_at) ys → m.sent_at ≤ k → (rest : List Message) × (drop n xs ≡ m ∷ rest)
first_part k n [] ys m ms e late early =
    absurd (let some : All (λ (x : Message). k < x.sent_at) (m ∷ ms) = subst (All (λ x. k < x.sent_at)) e (All-drop (λ x. k < x.sent_at) n ys late) in omega (arith, All-head (λ (x : Message). k < x.sent_at) m ms some))
first_part k zero (x ∷ xs) ys m ms e late early = (xs, let same : x ≡ m = cc in ap (λ y. y ∷ xs) same)
first_part k (suc n) (x ∷ xs) ys m ms e late early = first_part k n xs ys m ms e late early

module _ (N : ℕ) (L : Line) {F G : Family} {p : ℕ} {x : Interval} (grows : Grows F p x G) where
  -- a line that is consistent in the larger family is so in the smaller
  pub smaller : Consistent N G L → Consistent N F L
  smaller consistent r h = go (cases_eq r p)
    where
      go : (r ≡ p) ⊎ (r ≡ p → ⊥) → All (Backed N L) (take (L r) (F r))
      go (inr n) = subst (λ xs. All (Backed N L) (take (L r) xs)) (grows.others r n) (consistent r h)
      go (inl e) = subst (λ k. All (Backed N L) (take (L k) (F k))) (sym e) (short (cases_lt (length (F p)) (L p)))
        where
          here : All (Backed N L) (take (L p) (F p ++ (x ∷ [])))
          here = subst (λ xs. All (Backed N L) (take (L p) xs)) grows.here (subst (λ k. All (Backed N L) (take (L k) (G k))) e (consistent r h))

          short : (length (F p) < L p) ⊎ (L p ≤ length (F p)) → All (Backed N L) (take (L p) (F p))
          short (inr l) = subst (All (Backed N L)) (take-append-le (L p) (F p) (x ∷ []) l) here
          short (inl l) =
              let whole : take (L p) (F p ++ (x ∷ [])) ≡ F p ++ (x ∷ []) = take_all (L p) (F p ++ (x ∷ [])) (simp length_push (omega arith)) in
              let front : take (length (F p)) (F p ++ (x ∷ [])) ≡ F p = take-append-le (length (F p)) (F p) (x ∷ []) (omega arith) ∙ take_all (length (F p)) (F p) (omega arith) in
              subst (All (Backed N L)) (front ∙ sym (take_all (L p) (F p) (omega arith)))
              (All-take (Backed N L) (length (F p)) (F p ++ (x ∷ [])) (subst (All (Backed N L)) whole here))

  -- below the new interval the two are cut alike
  pub cut_before : L p ≤ length (F p) → (r : ℕ) → cut G L r ≡ cut F L r
  cut_before l r = go (cases_eq r p)
    where
      go : (r ≡ p) ⊎ (r ≡ p → ⊥) → take (L r) (G r) ≡ take (L r) (F r)
      go (inr n) = ap (take (L r)) (grows.others r n)
      go (inl e) = subst (λ k. take (L k) (G k) ≡ take (L k) (F k)) (sym e) (ap (take (L p)) grows.here ∙ take-append-le (L p) (F p) (x ∷ []) l)

  -- at or above it the cut family grows by it too
  pub cut_row : length (F p) < L p → cut F L p ≡ F p
  cut_row l = take_all (L p) (F p) (omega arith)

  cut_grows : length (F p) < L p → Grows (cut F L) p x (cut G L)
  cut_grows l = record {
    here = ap (take (L p)) grows.here ∙ take_all (L p) (F p ++ (x ∷ [])) (simp length_push (omega arith)) ∙ ap (λ xs. xs ++ (x ∷ [])) (sym (cut_row l));
    others = λ r n. ap (take (L r)) (grows.others r n);
  }

  -- the new interval is backed by the line
  pub last_backed : Consistent N G L → p < N → length (F p) < L p → Backed N L x
  last_backed consistent exists l =
      all_last (F p) (subst (All (Backed N L)) (take_all (L p) (F p ++ (x ∷ [])) (simp length_push (omega arith))) (subst (λ xs. All (Backed N L) (take (L p) xs)) grows.here (consistent p exists)))
    where
      all_last : (xs : List Interval) → All (Backed N L) (xs ++ (x ∷ [])) → Backed N L x
      all_last [] all = All-head (Backed N L) x [] all
      all_last (y ∷ ys) all = all_last ys (All-tail (Backed N L) y (ys ++ (x ∷ [])) all)

-- behind the first k intervals everything is sent after k
rest_late : (k t : ℕ) (xs : List Interval) → From 0 xs → All (λ m. k < m.sent_at) (channel t (drop k xs))
rest_late k t xs from = go (cases_lt (length xs) k)
  where
    go : (length xs < k) ⊎ (k ≤ length xs) → All (λ m. k < m.sent_at) (channel t (drop k xs))
    go (inl h) = subst (λ ys. All (λ m. k < m.sent_at) (channel t ys)) (sym (drop_all k xs (omega arith))) (All-nil _)
    go (inr h) = sent_late k t (drop k xs) (subst (λ n. From n (drop k xs)) (omega arith) (from_drop 0 k xs from h))

-- a message sent at or before the line still waits when the sender is cut to it
still_first : (F : Family) (L : Line) (q p : ℕ) (m : Message) (ms : List Message) → From 0 (F q) → cut F L p ≡ F p → m.sent_at ≤ L q → waiting F q p ≡ m ∷ ms →
    (rest : List Message) × (waiting (cut F L) q p ≡ m ∷ rest)
still_first F L q p m ms from whole early first =
    let split : channel p (F q) ≡ channel p (take (L q) (F q)) ++ channel p (drop (L q) (F q)) = ap (channel p) (sym (take-append-drop (L q) (F q))) ∙ flat_map-append (sent_in p) (take (L q) (F q)) (drop (L q) (F q)) in
    let found = first_part (L q) (taken q (F p)) (channel p (take (L q) (F q))) (channel p (drop (L q) (F q))) m ms (ap (drop (taken q (F p))) (sym split) ∙ first) (rest_late (L q) p (F q) from) early in
    (found.0, ap (λ xs. drop (taken q xs) (channel p (take (L q) (F q)))) whole ∙ found.1)

same_delivery : (M : Meaning) (N : ℕ) (F : Family) (L : Line) (q p : ℕ) (m : Message) → cut F L p ≡ F p → m.sent_at ≤ L q → by_delivery M N (play M p (cut F L p)) (cut F L) q p m ≡ by_delivery M N (play M p (F p)) F q p m
same_delivery M N F L q p m whole early =
    ap (λ ys. begun M N p (play M p (cut F L p)) (cut F L p) q m (merged (vector_after (cut F L p)) (vector_after ys))) (take-take m.sent_at (L q) (F q) early)
    ∙ ap (λ xs. begun M N p (play M p xs) xs q m (merged (vector_after xs) (vector_after (take m.sent_at (F q))))) whole

pub built_cut : {M : Meaning} {N : ℕ} {given : Given} {F : Family} → Built M N given F → (L : Line) → Consistent N F L → Built M N given (cut F L)
built_cut (begins none) L consistent = begins (λ p. ap (take (L p)) (none p) ∙ take_all (L p) [] (omega arith))
built_cut {M} {N} {given} (input {F} {G} p v built exists g grows) L consistent = go (built_cut built L (smaller N L grows consistent)) (cases_lt (length (F p)) (L p))
  where
    go : Built M N given (cut F L) → (length (F p) < L p) ⊎ (L p ≤ length (F p)) → Built M N given (cut G L)
    go before (inr l) = built_same before (cut_before N L grows l)
    go before (inl l) =
        let whole : cut F L p ≡ F p = cut_row N L grows l in
        input p v before exists (subst (λ xs. Gives given p (next_input xs) v) (sym whole) g) (subst (λ xs. Grows (cut F L) p (by_input M N p (play M p xs) xs v) (cut G L)) (sym whole) (cut_grows N L grows l))
built_cut {M} {N} {given} (delivery {F} {G} q p m ms built sender exists first grows) L consistent = go (built_cut built L (smaller N L grows consistent)) (cases_lt (length (F p)) (L p))
  where
    go : Built M N given (cut F L) → (length (F p) < L p) ⊎ (L p ≤ length (F p)) → Built M N given (cut G L)
    go before (inr l) = built_same before (cut_before N L grows l)
    go before (inl l) =
        let whole : cut F L p ≡ F p = cut_row N L grows l in
        let early : m.sent_at ≤ L q = last_backed N L grows consistent exists l sender in
        let next = still_first F L q p m ms (indexed built q) whole early first in
        delivery q p m next.0 before sender exists next.1 (subst (λ x. Grows (cut F L) p x (cut G L)) (sym (same_delivery M N F L q p m whole early)) (cut_grows N L grows l))
