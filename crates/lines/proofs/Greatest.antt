-- The greatest line is consistent, within the counts and nowhere below such a line; and it is the only one.
use Rattle.std.proofs.Common.{◌≡◌, ℕ, zero, suc, ◌+◌, ◌<◌, ◌≤◌, min, Bool, true, false, not, ◌||◌, ltb, leb, ◌⊎◌, List, [], ◌∷◌, length, take, sym, refl, ap, ◌∙◌, subst, inl, inr, arith}
use Rattle.std.specs.List.{prefix_len, All}
use Rattle.std.proofs.lemmas.List.Elements.{All-nil, All-cons, All-head, All-tail, All-weaker}
use Rattle.std.proofs.lemmas.List.{length-take, take-take}
use Rattle.std.proofs.lemmas.List.Sums.{prefix_len-le-length}
use Rattle.std.proofs.lemmas.Bool.{cases_lt, cases_Bool, cond-true, lt-ltb}
use Rattle.std.proofs.lemmas.Bool.Decides.{nat_tests}
use Rattle.records.specs.declared.Interval.{Interval}
use Rattle.lines.specs.Intervals.{Family}
use Rattle.lines.specs.Lines.{Line, Backed, Consistent, Greatest, total, backed, lowered, rounds, clipped, greatest_line}

pub backed_true : (N : ℕ) (L : Line) (x : Interval) → backed N L x ≡ true → Backed N L x
backed_true N L x e h = grind (arith, nat_tests)

pub true_backed : (N : ℕ) (L : Line) (x : Interval) → Backed N L x → backed N L x ≡ true
true_backed N L x h = go (cases_lt x.source N)
  where
    go : (x.source < N) ⊎ (N ≤ x.source) → backed N L x ≡ true
    go (inl a) = let b = h a in grind (arith, nat_tests)
    go (inr a) = grind (arith, nat_tests)

-- a front that passes is no longer than the longest
leading_front : {X : Type 0} (test : X → Bool) (n : ℕ) (xs : List X) → n ≤ length xs → All (λ x. test x ≡ true) (take n xs) → n ≤ prefix_len test xs
leading_front test zero xs h all = omega arith
leading_front test (suc n) [] h all = absurd (omega arith)
leading_front test (suc n) (x ∷ xs) h all = rw (All-head (λ y. test y ≡ true) x (take n xs) all) (let more : n ≤ prefix_len test xs = leading_front test n xs (omega arith) (All-tail (λ y. test y ≡ true) x (take n xs) all) in omega arith)

-- and the longest passes
front_passes : {X : Type 0} (test : X → Bool) (n : ℕ) (xs : List X) → n ≤ prefix_len test xs → All (λ x. test x ≡ true) (take n xs)
front_passes test zero xs h = All-nil _
front_passes test (suc n) [] h = All-nil _
front_passes test (suc n) (x ∷ xs) h = go (λ k. front_passes test n xs k) (cases_Bool (test x))
  where
    go : (n ≤ prefix_len test xs → All (λ y. test y ≡ true) (take n xs)) → (test x ≡ true) ⊎ (test x ≡ false) → All (λ y. test y ≡ true) (take (suc n) (x ∷ xs))
    go more (inl e) = All-cons (λ y. test y ≡ true) x (take n xs) e (more (let k : suc n ≤ 1 + prefix_len test xs = rw e at h in omega arith))
    go more (inr e) = absurd (let k : suc n ≤ 0 = rw e at h in omega arith)

total_le : (N : ℕ) (K L : Line) → ((p : ℕ) → p < N → K p ≤ L p) → total N K ≤ total N L
total_le zero K L h = omega arith
total_le (suc N) K L h = let a = total_le N K L (λ p k. h p (omega arith)) in let b : K N ≤ L N = h N (omega arith) in omega arith

-- a line below another with the same sum is that line
total_same : (N : ℕ) (K L : Line) → ((p : ℕ) → p < N → K p ≤ L p) → total N L ≤ total N K → (p : ℕ) → p < N → K p ≡ L p
total_same zero K L h e p k = absurd (omega arith)
total_same (suc N) K L h e p k = go (λ m. total_same N K L (λ r j. h r (omega arith)) (omega (arith, h N (omega arith))) p m) (cases_lt p N)
  where
    go : (p < N → K p ≡ L p) → (p < N) ⊎ (N ≤ p) → K p ≡ L p
    go below (inl m) = below m
    go below (inr m) =
        let last : K N ≡ L N = omega (arith, h N (omega arith), total_le N K L (λ r j. h r (omega arith))) in
        let same : p ≡ N = omega arith in
        subst (λ r. K r ≡ L r) (sym same) last

module _ (N : ℕ) (F : Family) where
  lowered_le : (L : Line) (p : ℕ) → lowered N F L p ≤ L p
  lowered_le L p = omega (arith, prefix_len-le-length (backed N L) (take (L p) (F p)), length-take (L p) (F p))

  -- a consistent line below L stays below it when L is lowered
  lowered_keeps : (K L : Line) → Consistent N F K → ((p : ℕ) → p < N → K p ≤ length (F p)) → ((p : ℕ) → p < N → K p ≤ L p) → (p : ℕ) → p < N → K p ≤ lowered N F L p
  lowered_keeps K L consistent rows below p h =
      leading_front (backed N L) (K p) (take (L p) (F p))
      (let a = rows p h in let b = below p h in simp length-take (omega arith))
      (subst (All (λ x. backed N L x ≡ true)) (sym (take-take (K p) (L p) (F p) (below p h)))
      (All-weaker (Backed N K) (λ x. backed N L x ≡ true) (λ x b. true_backed N L x (λ s. let c = b s in let d = below x.source s in omega arith)) (take (K p) (F p)) (consistent p h)))

  -- no process can be lowered
  abbrev Fixed : Line → Type 0
  Fixed L = (p : ℕ) → p < N → lowered N F L p ≡ L p

  -- the line matters only below N
  backed_same : (L K : Line) → ((p : ℕ) → p < N → L p ≡ K p) → (x : Interval) → backed N L x ≡ backed N K x
  backed_same L K same x = go (cases_lt x.source N)
    where
      go : (x.source < N) ⊎ (N ≤ x.source) → backed N L x ≡ backed N K x
      go (inl h) = ap (λ k. not (ltb x.source N) || leb x.sent_at k) (same x.source h)
      go (inr h) = grind (arith, nat_tests)

  leading_same : (L K : Line) → ((p : ℕ) → p < N → L p ≡ K p) → (xs : List Interval) → prefix_len (backed N L) xs ≡ prefix_len (backed N K) xs
  leading_same L K same [] = refl
  leading_same L K same (x ∷ xs) = let more = leading_same L K same xs in let here = backed_same L K same x in rw (more, here)

  lowered_same : (L K : Line) → ((p : ℕ) → p < N → L p ≡ K p) → (p : ℕ) → p < N → lowered N F L p ≡ lowered N F K p
  lowered_same L K same p h = leading_same L K same (take (L p) (F p)) ∙ ap (λ n. prefix_len (backed N K) (take n (F p))) (same p h)

  rounds_fixed : (n : ℕ) (L : Line) → Fixed L → Fixed (rounds n N F L)
  rounds_fixed zero L fixed = fixed
  rounds_fixed (suc n) L fixed = rounds_fixed n (lowered N F L) (λ p h. lowered_same (lowered N F L) L fixed p h)

  -- as many rounds as the sum are enough
  rounds_enough : (n : ℕ) (L : Line) → total N L ≤ n → Fixed (rounds n N F L)
  rounds_enough zero L h = λ p k.
      let zeros : total N (λ _. 0) ≤ total N L = total_le N (λ _. 0) L (λ r j. omega arith) in
      let none : 0 ≡ L p = total_same N (λ _. 0) L (λ r j. omega arith) (omega arith) p k in
      omega (arith, lowered_le L p)
  rounds_enough (suc n) L h = go (λ m. rounds_enough n (lowered N F L) m) (cases_lt (total N (lowered N F L)) (total N L))
    where
      go : (total N (lowered N F L) ≤ n → Fixed (rounds n N F (lowered N F L))) → (total N (lowered N F L) < total N L) ⊎ (total N L ≤ total N (lowered N F L)) → Fixed (rounds n N F (lowered N F L))
      go more (inl m) = more (omega arith)
      go more (inr m) =
          let fixed : Fixed L = total_same N (lowered N F L) L (λ r j. lowered_le L r) m in
          rounds_fixed n (lowered N F L) (λ p k. lowered_same (lowered N F L) L fixed p k)

  rounds_le : (n : ℕ) (L : Line) (p : ℕ) → rounds n N F L p ≤ L p
  rounds_le zero L p = omega arith
  rounds_le (suc n) L p = omega (arith, rounds_le n (lowered N F L) p, lowered_le L p)

  rounds_keeps : (n : ℕ) (K L : Line) → Consistent N F K → ((p : ℕ) → p < N → K p ≤ length (F p)) → ((p : ℕ) → p < N → K p ≤ L p) → (p : ℕ) → p < N → K p ≤ rounds n N F L p
  rounds_keeps zero K L consistent rows below = below
  rounds_keeps (suc n) K L consistent rows below = rounds_keeps n K (lowered N F L) consistent rows (lowered_keeps K L consistent rows below)

  fixed_consistent : (L : Line) → Fixed L → Consistent N F L
  fixed_consistent L fixed p h =
      All-weaker (λ x. backed N L x ≡ true) (Backed N L) (λ x e. backed_true N L x e) (take (L p) (F p))
      (subst (All (λ x. backed N L x ≡ true)) (take-take (L p) (L p) (F p) (omega arith))
      (front_passes (backed N L) (L p) (take (L p) (F p)) (omega (arith, fixed p h))))

  clipped_is : (c : Line) (p : ℕ) → p < N → clipped N F c p ≡ min (c p) (length (F p))
  clipped_is c p h = cond-true (ltb p N) (min (c p) (length (F p))) 0 (lt-ltb p N h)

  pub greatest_is_greatest : (c : Line) → Greatest N F c (greatest_line N F c)
  greatest_is_greatest c = record {
    consistent = fixed_consistent (greatest_line N F c) (rounds_enough (total N (clipped N F c)) (clipped N F c) (omega arith));
    inside = λ p h. let low = rounds_le (total N (clipped N F c)) (clipped N F c) p in let is = clipped_is c p h in (omega arith, omega arith);
    highest = λ K consistent within. rounds_keeps (total N (clipped N F c)) K (clipped N F c) consistent (λ p h. (within p h).1)
        (λ p h. let is = clipped_is c p h in let a = (within p h).0 in let b = (within p h).1 in omega arith);
  }

  pub greatest_unique : (c K L : Line) → Greatest N F c K → Greatest N F c L → (p : ℕ) → p < N → K p ≡ L p
  greatest_unique c K L k l p h = omega (arith, l.highest K k.consistent k.inside p h, k.highest L l.consistent l.inside p h)
