-- A line that is lowered process by process comes to the greatest.
use Rattle.std.proofs.Common.{◌≡◌, ℕ, zero, suc, ◌+◌, ◌<◌, ◌≤◌, min, Bool, true, false, ◌||◌, ltb, ◌⊎◌, List, [], length, get_or, take, set, replicate, sum, sym, refl, ap, ◌∙◌, subst, inl, inr, arith, below_more}
use Rattle.std.specs.List.{prefix_len, All}
use Rattle.std.proofs.lemmas.List.Elements.{All-get_or, All-weaker}
use Rattle.std.proofs.lemmas.List.{get_or-take, get_or_default, get_or-set_same, get_or-set_other, set-get_or, get_or-replicate, length-take-le, take-take, take_all}
use Rattle.std.proofs.lemmas.List.Sums.{sum_by-set}
use Rattle.std.proofs.lemmas.Bool.{cases_lt, cases_eq, cond-true, cond-false, lt-ltb, le-ltb, true≢false, false≢true}
use Rattle.records.specs.declared.Interval.{Interval}
use Rattle.lines.specs.Intervals.{Family}
use Rattle.lines.specs.Lines.{Line, Backed, Consistent, Within, Greatest, total, backed, lowered, rounds, clipped, greatest_line}
use Rattle.lines.proofs.Greatest.{greatest_is_greatest, greatest_unique}
use Rattle.tables.specs.Answers.{line_of, GreatestLine}
use Rattle.tables.specs.Lowering.{RowsHold, Longest, Lower, Lowers, Known}
use Rattle.rows.proofs.Finding.{blank}

module _ (N : ℕ) (L : Line) (xs : List Interval) where
  pub front_stops : (i : ℕ) (d : Interval) → i < length xs → All (Backed N L) (take i xs) → (Backed N L (get_or xs i d) → ⊥) → Longest N L xs i
  front_stops i d h all n = record {
    within = omega arith;
    backed = all;
    next = λ e l b. n (subst (Backed N L) (get_or_default xs i e d l) b);
  }

  pub front_whole : (i : ℕ) → length xs ≤ i → All (Backed N L) (take i xs) → Longest N L xs (length xs)
  front_whole i h all = record {
    within = omega arith;
    backed = subst (All (Backed N L)) (take_all i xs h ∙ sym (take_all (length xs) xs (omega arith))) all;
    next = λ e l b. omega arith;
  }

pub backed_above : (N : ℕ) (K L : Line) (x : Interval) → ((q : ℕ) → q < N → K q ≤ L q) → Backed N K x → Backed N L x
backed_above N K L x below b s = omega (arith, b s, below x.source s)

module _ (N : ℕ) (F : Family) (xs : List ℕ) (p n : ℕ) (exists : p < N) (place : p < length xs) (rows : line_of xs p ≤ length (F p)) (front : Longest N (line_of xs) (take (line_of xs p) (F p)) n) where
  lower_long : length (take (line_of xs p) (F p)) ≡ line_of xs p
  lower_long = length-take-le (line_of xs p) (F p) rows

  at_process : line_of (set xs p n) p ≡ n
  at_process = get_or-set_same xs p n 0 place

  -- a consistent line within xs does not reach behind the front
  passes_not : (K : Line) → Consistent N F K → Within N F (line_of xs) K → K p ≤ n
  passes_not K consistent within = go (cases_lt n (K p))
    where
      go : (n < K p) ⊎ (K p ≤ n) → K p ≤ n
      go (inr h) = h
      go (inl h) =
          let low = within p exists in
          let long : length (take (K p) (F p)) ≡ K p = length-take-le (K p) (F p) low.1 in
          let there : Backed N K (get_or (take (K p) (F p)) n blank) = All-get_or (Backed N K) (take (K p) (F p)) n blank (omega arith) (consistent p exists) in
          let same : get_or (take (K p) (F p)) n blank ≡ get_or (take (line_of xs p) (F p)) n blank =
          get_or-take (K p) (F p) n blank h ∙ sym (get_or-take (line_of xs p) (F p) n blank (omega (arith, low.0))) in
          absurd (front.next blank (omega (arith, lower_long, low.0)) (subst (Backed N (line_of xs)) same
          (backed_above N K (line_of xs) (get_or (take (K p) (F p)) n blank) (λ q s. (within q s).0) there)))

  pub lower_front : Lower N F xs (set xs p n)
  lower_front = record {
    below = λ q. below q (cases_eq q p);
    keeps = λ K consistent within q h. (keeps K consistent within q h (cases_eq q p), (within q h).1);
  }
    where
      below : (q : ℕ) → (q ≡ p) ⊎ (q ≡ p → ⊥) → line_of (set xs p n) q ≤ line_of xs q
      below q (inl e) = subst (λ r. line_of (set xs p n) r ≤ line_of xs r) (sym e) (omega (arith, at_process, lower_long, front.within))
      below q (inr a) = omega (arith, get_or-set_other xs p q n 0 a)

      keeps : (K : Line) → Consistent N F K → Within N F (line_of xs) K → (q : ℕ) → q < N → (q ≡ p) ⊎ (q ≡ p → ⊥) → K q ≤ line_of (set xs p n) q
      keeps K consistent within q h (inl e) = subst (λ r. K r ≤ line_of (set xs p n) r) (sym e) (omega (arith, at_process, passes_not K consistent within))
      keeps K consistent within q h (inr a) = omega (arith, get_or-set_other xs p q n 0 a, (within q h).0)

  pub lower_less : n < line_of xs p → sum (set xs p n) < sum xs
  lower_less h = omega (arith, sum_by-set (λ x. x) xs p n 0 place)

  pub lower_stays : line_of xs p ≤ n → (set xs p n ≡ xs) × All (Backed N (line_of (set xs p n))) (take (line_of (set xs p n) p) (F p))
  lower_stays h =
      let same : n ≡ line_of xs p = omega (arith, lower_long, front.within) in
      let whole : set xs p n ≡ xs = ap (set xs p) same ∙ set-get_or xs p 0 in (
        whole,
        subst (λ ys. All (Backed N (line_of ys)) (take (line_of ys p) (F p))) (sym whole)
            (subst (All (Backed N (line_of xs))) (ap (λ k. take k (take (line_of xs p) (F p))) same ∙ take-take (line_of xs p) (line_of xs p) (F p) (omega arith)) front.backed),
      )

  -- what is known stays known, and of p the new needs are
  pub lower_known : (needs : List (List ℕ)) (new : List ℕ) → p < length needs → Known N F xs needs → All (Backed N (line_of new)) (take n (F p)) → Known N F (set xs p n) (set needs p new)
  lower_known needs new room known backed q h = go (cases_eq q p)
    where
      go : (q ≡ p) ⊎ (q ≡ p → ⊥) → ((r : ℕ) → r < N → line_of (get_or (set needs p new) q []) r ≤ line_of (set xs p n) r) → All (Backed N (line_of (get_or (set needs p new) q []))) (take (line_of (set xs p n) q) (F q))
      go (inl e) reach =
          subst (λ r. All (Backed N (line_of (get_or (set needs p new) r []))) (take (line_of (set xs p n) r) (F r))) (sym e)
          (subst (λ ms. All (Backed N (line_of ms)) (take (line_of (set xs p n) p) (F p))) (sym (get_or-set_same needs p new [] room)) (subst (λ k. All (Backed N (line_of new)) (take k (F p))) (sym at_process) backed))
      go (inr a) reach =
          let same = get_or-set_other needs p q new [] a in
          subst (λ ms. All (Backed N (line_of ms)) (take (line_of (set xs p n) q) (F q))) (sym same)
          (subst (λ k. All (Backed N (line_of (get_or needs q []))) (take k (F q))) (sym (get_or-set_other xs p q n 0 a))
          (known q h (λ r l. let b = lower_front.below r in let c = reach r l in omega (arith, ap (λ ms. line_of ms r) same))))

pub rows_hold_lower : (N : ℕ) (F : Family) (xs ys : List ℕ) → RowsHold N F xs → Lower N F xs ys → RowsHold N F ys
rows_hold_lower N F xs ys hold low p h = omega (arith, hold p h, low.below p)

-- all that is so of a line and of the needs once process p is lowered to a front of n that needs `new`
pub record LoweredOne (N : ℕ) (F : Family) (xs : List ℕ) (needs : List (List ℕ)) (p n : ℕ) (new : List ℕ) : Type 0 where
  pub lower : Lower N F xs (set xs p n)
  pub rows : RowsHold N F (set xs p n)
  pub known : Known N F (set xs p n) (set needs p new)
  pub less : n < line_of xs p → sum (set xs p n) < sum xs
  pub stays : line_of xs p ≤ n → (set xs p n ≡ xs) × All (Backed N (line_of (set xs p n))) (take (line_of (set xs p n) p) (F p))

pub lowered_one : (N : ℕ) (F : Family) (xs : List ℕ) (needs : List (List ℕ)) (p n : ℕ) (new : List ℕ) → p < N → p < length xs → p < length needs → RowsHold N F xs → Known N F xs needs →
    Longest N (line_of xs) (take (line_of xs p) (F p)) n → All (Backed N (line_of new)) (take n (take (line_of xs p) (F p))) → LoweredOne N F xs needs p n new
lowered_one N F xs needs p n new exists place room rows known front backed =
    let within : n ≤ line_of xs p = omega (arith, front.within, length-take-le (line_of xs p) (F p) (rows p exists)) in
    let low : Lower N F xs (set xs p n) = lower_front N F xs p n exists place (rows p exists) front in
    record {
      lower = low;
      rows = rows_hold_lower N F xs (set xs p n) rows low;
      known = lower_known N F xs p n exists place (rows p exists) front needs new room known
          (subst (All (Backed N (line_of new))) (take-take n (line_of xs p) (F p) within) backed);
      less = lower_less N F xs p n exists place (rows p exists) front;
      stays = lower_stays N F xs p n exists place (rows p exists) front;
    }

-- a front whose needs the line reaches is backed
pub known_backed : (N : ℕ) (F : Family) (xs : List ℕ) (needs : List (List ℕ)) (p : ℕ) → p < N → Known N F xs needs → ((q : ℕ) → q < N → line_of (get_or needs p []) q ≤ line_of xs q) → All (Backed N (line_of xs)) (take (line_of xs p) (F p))
known_backed N F xs needs p h known reach =
    All-weaker (Backed N (line_of (get_or needs p []))) (Backed N (line_of xs)) (λ x. backed_above N (line_of (get_or needs p [])) (line_of xs) x reach) (take (line_of xs p) (F p)) (known p h reach)

pub lower_none : (N : ℕ) (F : Family) (xs : List ℕ) → Lower N F xs xs
lower_none N F xs = record { below = λ p. omega arith; keeps = λ K consistent within. within }

pub lower_again : (N : ℕ) (F : Family) (xs ys zs : List ℕ) → Lower N F xs ys → Lower N F ys zs → Lower N F xs zs
lower_again N F xs ys zs a b = record {
  below = λ p. omega (arith, a.below p, b.below p);
  keeps = λ K consistent within. b.keeps K consistent (a.keeps K consistent within);
}

-- a round that has come to process p: the line xs is now ys
pub record Round (N : ℕ) (F : Family) (xs ys : List ℕ) (p : ℕ) (lowered : Bool) : Type 0 where
  pub lower : Lower N F xs ys
  pub less : lowered ≡ true → sum ys < sum xs
  pub stays : lowered ≡ false → (ys ≡ xs) × ((q : ℕ) → q < p → All (Backed N (line_of ys)) (take (line_of ys q) (F q)))

module _ (N : ℕ) (F : Family) (xs : List ℕ) where
  pub round_none : Round N F xs xs 0 false
  round_none = record { lower = lower_none N F xs; less = λ e. absurd (false≢true e); stays = λ e. (refl, λ q h. absurd (omega arith)) }

  pub round_lowers : (ys zs : List ℕ) (p : ℕ) (b : Bool) → Round N F xs ys p b → Lower N F ys zs → sum zs < sum ys → Round N F xs zs (p + 1) true
  round_lowers ys zs p b round low less = record {
    lower = lower_again N F xs ys zs round.lower low;
    less = λ e. go b round.less (λ e. (round.stays e).0);
    stays = λ e. absurd (true≢false e);
  }
    where
      go : (b : Bool) → (b ≡ true → sum ys < sum xs) → (b ≡ false → ys ≡ xs) → sum zs < sum xs
      go true f g = omega (arith, f refl)
      go false f g = omega (arith, ap sum (g refl))

  pub round_stays : (ys zs : List ℕ) (p : ℕ) (b : Bool) → Round N F xs ys p b → Lower N F ys zs → zs ≡ ys → All (Backed N (line_of zs)) (take (line_of zs p) (F p)) → Round N F xs zs (p + 1) b
  round_stays ys zs p b round low same all = record {
    lower = lower_again N F xs ys zs round.lower low;
    less = λ e. omega (arith, round.less e, ap sum same);
    stays = λ e. (
      same ∙ (round.stays e).0,
      below_more (λ q. All (Backed N (line_of zs)) (take (line_of zs q) (F q))) p
          (subst (λ ws. (q : ℕ) → q < p → All (Backed N (line_of ws)) (take (line_of ws q) (F q))) (sym same) (round.stays e).1) all,
    );
  }

  -- after process p, whether it went back or not
  pub round_more : (ys zs : List ℕ) (p : ℕ) (b r : Bool) → Round N F xs ys p b → Lower N F ys zs → (r ≡ true → sum zs < sum ys) →
      (r ≡ false → (zs ≡ ys) × All (Backed N (line_of zs)) (take (line_of zs p) (F p))) → Round N F xs zs (p + 1) (b || r)
  round_more ys zs p true true round low less stays = round_lowers ys zs p true round low (less refl)
  round_more ys zs p false true round low less stays = round_lowers ys zs p false round low (less refl)
  round_more ys zs p true false round low less stays = round_stays ys zs p true round low (stays refl).0 (stays refl).1
  round_more ys zs p false false round low less stays = round_stays ys zs p false round low (stays refl).0 (stays refl).1

  pub round_all : (ys : List ℕ) (p : ℕ) (b : Bool) → N ≤ p → Round N F xs ys p b → Lowers N F xs ys b
  round_all ys p b h round = record { lower = round.lower; less = round.less; stays = λ e q l. (round.stays e).1 q (omega arith) }

-- where nothing stands, no round changes that
rounds_zero : (n N : ℕ) (F : Family) (L : Line) (p : ℕ) → L p ≡ 0 → rounds n N F L p ≡ 0
rounds_zero zero N F L p e = e
rounds_zero (suc n) N F L p e = rounds_zero n N F (lowered N F L) p (ap (λ k. prefix_len (backed N L) (take k (F p))) e)

-- the greatest line has no entry from N on
pub greatest_ends : (N : ℕ) (F : Family) (c : Line) (p : ℕ) → N ≤ p → greatest_line N F c p ≡ 0
greatest_ends N F c p h = rounds_zero (total N (clipped N F c)) N F (clipped N F c) p (cond-false (ltb p N) (min (c p) (length (F p))) 0 (le-ltb p N h))

-- lowered from the clipped counts until it is consistent, a line is the greatest
pub answers : (N : ℕ) (F : Family) (c : Line) (xs ys : List ℕ) → ((p : ℕ) → line_of xs p ≡ clipped N F c p) → Lower N F xs ys → Consistent N F (line_of ys) → GreatestLine N F c (line_of ys)
answers N F c xs ys begins low consistent = record {
  value = λ p. value p (cases_lt p N);
  greatest = greatest;
  only = λ K k. greatest_unique N F c K (line_of ys) k greatest;
}
  where
    clipped_is : (p : ℕ) → p < N → clipped N F c p ≡ min (c p) (length (F p))
    clipped_is p h = cond-true (ltb p N) (min (c p) (length (F p))) 0 (lt-ltb p N h)

    greatest : Greatest N F c (line_of ys)
    greatest = record {
      consistent = consistent;
      inside = λ p h. let is = clipped_is p h in let b = begins p in let l = low.below p in (omega arith, omega arith);
      highest = λ K k within p h. (low.keeps K k (λ q j. let is = clipped_is q j in let b = begins q in let w = within q j in (omega arith, w.1)) p h).0;
    }

    value : (p : ℕ) → (p < N) ⊎ (N ≤ p) → line_of ys p ≡ greatest_line N F c p
    value p (inl h) = greatest_unique N F c (line_of ys) (greatest_line N F c) greatest (greatest_is_greatest N F c) p h
    value p (inr h) =
        let none : clipped N F c p ≡ 0 = cond-false (ltb p N) (min (c p) (length (F p))) 0 (le-ltb p N h) in
        let b = begins p in let l = low.below p in
        let z : line_of ys p ≡ 0 = omega arith in
        z ∙ sym (rounds_zero (total N (clipped N F c)) N F (clipped N F c) p none)
