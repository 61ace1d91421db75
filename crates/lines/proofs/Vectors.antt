-- In what a run records, a line within the rows is consistent exactly if it covers its vectors.
use Rattle.std.proofs.Common.{◌≡◌, ℕ, zero, suc, ◌+◌, ◌<◌, ◌≤◌, max, ◌⊎◌, List, [], ◌∷◌, ◌++◌, length, get_or, take, set, fold, sym, refl, ap, ◌∙◌, subst, inl, inr, arith}
use Rattle.std.specs.List.{All}
use Rattle.std.proofs.lemmas.List.FromFn.{get_or-map-range_with_len, length-map-range_with_len}
use Rattle.std.proofs.lemmas.List.Elements.{All-nil, All-cons, All-head, All-push, All-take, All-drop}
use Rattle.std.proofs.lemmas.List.{get_or-set_same, get_or-set_other, length-set, get_or-replicate, take_all, length_push}
use Rattle.std.proofs.lemmas.List.Sums.{fold_push}
use Rattle.std.proofs.lemmas.Bool.{cases_eq, cases_lt}
use Rattle.programs.specs.Program.{Meaning}
use Rattle.records.specs.declared.Interval.{Interval}
use Rattle.lines.specs.Built.{Given, Grows, Built, begins, input, delivery}
use Rattle.lines.specs.Intervals.{Family, Message, play, channel, taken, waiting, no_vector, vector_after, merged, by_input, by_delivery}
use Rattle.lines.specs.Lines.{Line, Backed, Consistent}
use Rattle.lines.specs.Vectors.{entry, Covered}
use Rattle.lines.proofs.Cut.{smaller, cut_before, cut_row, last_backed}
use Rattle.lines.proofs.Indexes.{sent_early, grows_each, indexed}

-- the last vector of a list, or v
abbrev after : List ℕ → List Interval → List ℕ
after v xs = fold (λ _ x. x.vector) v xs

-- no entry ever falls
abbrev Rises : List ℕ → List Interval → Type 0
Rises v [] = Unit {0}
Rises v (x ∷ xs) = ((r : ℕ) → r < 8 → entry v r ≤ entry x.vector r) × Rises x.vector xs

-- the own entry is the index
abbrev Own : ℕ → ℕ → List Interval → Type 0
Own p n [] = Unit {0}
Own p n (x ∷ xs) = (entry x.vector p ≡ n + 1) × Own p (n + 1) xs

rises_push : (v : List ℕ) (xs : List Interval) (x : Interval) → Rises v xs → ((r : ℕ) → r < 8 → entry (after v xs) r ≤ entry x.vector r) → Rises v (xs ++ (x ∷ []))
rises_push v [] x h e = (e, tt)
rises_push v (y ∷ ys) x h e = (h.0, rises_push y.vector ys x h.1 e)

own_push : (p n : ℕ) (xs : List Interval) (x : Interval) → Own p n xs → entry x.vector p ≡ n + length xs + 1 → Own p n (xs ++ (x ∷ []))
own_push p n [] x h e = (omega arith, tt)
own_push p n (y ∷ ys) x h e = (h.0, own_push p (n + 1) ys x h.1 (omega arith))

rises_from : (v : List ℕ) (xs : List Interval) → Rises v xs → (r : ℕ) → r < 8 → entry v r ≤ entry (after v xs) r
rises_from v [] h r k = omega arith
rises_from v (x ∷ xs) h r k = omega (arith, h.0 r k, rises_from x.vector xs h.1 r k)

rises_front : (v : List ℕ) (t : ℕ) (xs : List Interval) → Rises v xs → Rises v (take t xs)
rises_front v zero xs h = tt
rises_front v (suc t) [] h = tt
rises_front v (suc t) (x ∷ xs) h = (h.0, rises_front x.vector t xs h.1)

rises_take : (v : List ℕ) (s t : ℕ) (xs : List Interval) → Rises v xs → s ≤ t → (r : ℕ) → r < 8 → entry (after v (take s xs)) r ≤ entry (after v (take t xs)) r
rises_take v zero t xs h l r k = rises_from v (take t xs) (rises_front v t xs h) r k
rises_take v (suc s) zero xs h l r k = absurd (omega arith)
rises_take v (suc s) (suc t) [] h l r k = omega arith
rises_take v (suc s) (suc t) (x ∷ xs) h l r k = rises_take x.vector s t xs h.1 (omega arith) r k

own_take : (v : List ℕ) (p n k : ℕ) (xs : List Interval) → entry v p ≡ n → Own p n xs → k ≤ length xs → entry (after v (take k xs)) p ≡ n + k
own_take v p n zero xs e h l = omega arith
own_take v p n (suc k) [] e h l = absurd (omega arith)
own_take v p n (suc k) (x ∷ xs) e h l = own_take x.vector p (n + 1) k xs h.0 h.1 (omega arith) ∙ omega arith

-- what holds of the vectors of process p
record Vectored (N p : ℕ) (xs : List Interval) : Type 0 where
  rises : Rises no_vector xs
  own : Own p 0 xs
  heard : All (λ x. x.source < N → x.sent_at ≤ entry x.vector x.source) xs
  long : length (vector_after xs) ≡ 8

no_entry : (r : ℕ) → r < 8 → entry no_vector r ≡ 0
no_entry r h = get_or-replicate 8 r 0 0 h

own_last : {N : ℕ} (p : ℕ) (xs : List Interval) → p < 8 → Vectored N p xs → entry (vector_after xs) p ≡ length xs
own_last p xs h v = subst (λ ys. entry (vector_after ys) p ≡ length xs) (take_all (length xs) xs (omega arith)) (own_take no_vector p 0 (length xs) xs (no_entry p h) v.own (omega arith) ∙ omega arith)

length_merged : (v w : List ℕ) → length (merged v w) ≡ 8
length_merged v w = length-map-range_with_len (λ i. max (get_or v i 0) (get_or w i 0)) 0 8

merged_entry : (v w : List ℕ) (r : ℕ) → r < 8 → entry (merged v w) r ≡ max (entry v r) (entry w r)
merged_entry v w r h = get_or-map-range_with_len (λ i. max (get_or v i 0) (get_or w i 0)) 0 8 r r 0 h (omega arith)

-- one interval more, whose vector is at least the last one, with its own entry raised
vectored_push : {N : ℕ} (p : ℕ) (xs : List Interval) (x : Interval) (base : List ℕ) → p < 8 → Vectored N p xs → x.vector ≡ set base p (length xs + 1) → length base ≡ 8 →
    ((r : ℕ) → r < 8 → entry (vector_after xs) r ≤ entry base r) → (x.source < N → x.sent_at ≤ entry x.vector x.source) → Vectored N p (xs ++ (x ∷ []))
vectored_push {N} p xs x base h v e long above heard = record {
  rises = rises_push no_vector xs x v.rises (λ r k. go r k (cases_eq r p));
  own = own_push p 0 xs x v.own (here ∙ omega arith);
  heard = All-push (λ (y : Interval). y.source < N → y.sent_at ≤ entry y.vector y.source) xs x v.heard heard;
  long = ap length (fold_push (λ _ y. y.vector) no_vector xs x ∙ e) ∙ length-set base p (length xs + 1) ∙ long;
}
  where
    here : entry x.vector p ≡ length xs + 1
    here = ap (λ w. entry w p) e ∙ get_or-set_same base p (length xs + 1) 0 (omega arith)

    go : (r : ℕ) → r < 8 → (r ≡ p) ⊎ (r ≡ p → ⊥) → entry (vector_after xs) r ≤ entry x.vector r
    go r k (inl f) = subst (λ i. entry (vector_after xs) i ≤ entry x.vector i) (sym f) (omega (arith, here, own_last p xs h v))
    go r k (inr n) = omega (arith, ap (λ w. entry w r) e, get_or-set_other base p r (length xs + 1) 0 n, above r k)

vectored : {M : Meaning} {N : ℕ} {given : Given} {F : Family} → Built M N given F → N ≤ 8 → (p : ℕ) → Vectored N p (F p)
vectored {M} {N} (begins none) few = λ p. subst (Vectored N p) (sym (none p)) record { rises = tt; own = tt; heard = All-nil _; long = refl }
vectored {M} {N} (input {F} p v built exists g grows) few =
    grows_each (Vectored N) grows (vectored built few)
    (vectored_push p (F p) (by_input M N p (play M p (F p)) (F p) v) (vector_after (F p)) (omega arith) (vectored built few p) refl (vectored built few p).long (λ r k. omega arith) (λ k. absurd (omega arith)))
vectored {M} {N} (delivery {F} q p m ms built sender exists first grows) few =
    grows_each (Vectored N) grows (vectored built few)
    (push (vectored built few p) (vectored built few q) (All-drop (λ y. y.sent_at ≤ 0 + length (F q)) (taken q (F p)) (channel p (F q)) (sent_early 0 p (F q) (indexed built q))))
  where
    push : Vectored N p (F p) → Vectored N q (F q) → All (λ (y : Message). y.sent_at ≤ 0 + length (F q)) (waiting F q p) → Vectored N p (F p ++ (by_delivery M N (play M p (F p)) F q p m ∷ []))
    push own other all =
        vectored_push p (F p) (by_delivery M N (play M p (F p)) F q p m) (merged (vector_after (F p)) (vector_after (take m.sent_at (F q)))) (omega arith) own refl (length_merged (vector_after (F p)) (vector_after (take m.sent_at (F q))))
        (λ r k. omega (arith, merged_entry (vector_after (F p)) (vector_after (take m.sent_at (F q))) r k))
        (λ k. go (cases_eq q p))
      where
        early : m.sent_at ≤ length (F q)
        early = let some : All (λ (y : Message). y.sent_at ≤ 0 + length (F q)) (m ∷ ms) = subst (All (λ y. y.sent_at ≤ 0 + length (F q))) first all in omega (arith, All-head (λ (y : Message). y.sent_at ≤ 0 + length (F q)) m ms some)

        go : (q ≡ p) ⊎ (q ≡ p → ⊥) → m.sent_at ≤ entry (set (merged (vector_after (F p)) (vector_after (take m.sent_at (F q)))) p (length (F p) + 1)) q
        go (inl e) =
            let rows : length (F q) ≡ length (F p) = ap (λ k. length (F k)) e in
            let here = get_or-set_same (merged (vector_after (F p)) (vector_after (take m.sent_at (F q)))) p (length (F p) + 1) 0 (omega (arith, length_merged (vector_after (F p)) (vector_after (take m.sent_at (F q))))) in
            subst (λ k. m.sent_at ≤ entry (set (merged (vector_after (F p)) (vector_after (take m.sent_at (F q)))) p (length (F p) + 1)) k) (sym e) (omega (arith, early))
        go (inr n) = omega (
          arith,
          get_or-set_other (merged (vector_after (F p)) (vector_after (take m.sent_at (F q)))) p q (length (F p) + 1) 0 n,
          merged_entry (vector_after (F p)) (vector_after (take m.sent_at (F q))) q (omega arith),
          own_take no_vector q 0 m.sent_at (F q) (no_entry q (omega arith)) other.own early,
        )

-- a consistent line covers its vectors
module _ {N : ℕ} (few : N ≤ 8) (L : Line) where
  covered_start : {F : Family} → ((p : ℕ) → F p ≡ []) → Covered N F L
  covered_start {F} none p r h k = rw (none p) (subst (λ ys. entry (vector_after ys) r ≤ L r) (sym (take_all (L p) [] (omega arith))) (omega (arith, no_entry r (omega arith))))

  -- if the smaller family is covered and the new vector too, so is the larger
  covered_more : {F G : Family} {p : ℕ} {x : Interval} → Grows F p x G → Covered N F L → (length (F p) < L p → (r : ℕ) → r < N → entry x.vector r ≤ L r) → Covered N G L
  covered_more {F} {G} {p} {x} grows before new i r h k = go (cases_eq i p) (cases_lt (length (F p)) (L p))
    where
      go : (i ≡ p) ⊎ (i ≡ p → ⊥) → (length (F p) < L p) ⊎ (L p ≤ length (F p)) → entry (vector_after (take (L i) (G i))) r ≤ L r
      go e (inr l) = subst (λ ys. entry (vector_after ys) r ≤ L r) (sym (cut_before N L grows l i)) (before i r h k)
      go (inr n) (inl l) = subst (λ ys. entry (vector_after (take (L i) ys)) r ≤ L r) (sym (grows.others i n)) (before i r h k)
      go (inl e) (inl l) =
          let whole : take (L p) (G p) ≡ F p ++ (x ∷ []) = ap (take (L p)) grows.here ∙ take_all (L p) (F p ++ (x ∷ [])) (simp length_push (omega arith)) in
          subst (λ j. entry (vector_after (take (L j) (G j))) r ≤ L r) (sym e)
          (subst (λ w. entry w r ≤ L r) (sym (ap vector_after whole ∙ fold_push (λ _ y. y.vector) no_vector (F p) x)) (new l r k))

  -- a vector with its own entry raised is covered if the others were
  raised : (p n : ℕ) (base : List ℕ) → length base ≡ 8 → p < N → n + 1 ≤ L p → ((r : ℕ) → r < N → (r ≡ p → ⊥) → entry base r ≤ L r) → (r : ℕ) → r < N → entry (set base p (n + 1)) r ≤ L r
  raised p n base long exists l others r k = go (cases_eq r p)
    where
      go : (r ≡ p) ⊎ (r ≡ p → ⊥) → entry (set base p (n + 1)) r ≤ L r
      go (inl e) = subst (λ j. entry (set base p (n + 1)) j ≤ L j) (sym e) (omega (arith, get_or-set_same base p (n + 1) 0 (omega arith)))
      go (inr m) = omega (arith, get_or-set_other base p r (n + 1) 0 m, others r k m)

  covers : {M : Meaning} {given : Given} {F : Family} → Built M N given F → Consistent N F L → Covered N F L
  covers (begins none) consistent = covered_start none
  covers (input {F} p v built exists g grows) consistent =
      let before = covers built (smaller N L grows consistent) in
      covered_more grows before (λ l. raised p (length (F p)) (vector_after (F p)) (vectored built few p).long exists (omega arith)
      (λ r k n. subst (λ ys. entry (vector_after ys) r ≤ L r) (cut_row N L grows l) (before p r exists k)))
  covers (delivery {F} q p m ms built sender exists first grows) consistent =
      let before = covers built (smaller N L grows consistent) in
      covered_more grows before (λ l. raised p (length (F p)) (merged (vector_after (F p)) (vector_after (take m.sent_at (F q)))) (length_merged (vector_after (F p)) (vector_after (take m.sent_at (F q)))) exists (omega arith)
      (λ r k n. omega (
        arith,
        merged_entry (vector_after (F p)) (vector_after (take m.sent_at (F q))) r (omega arith),
        subst (λ ys. entry (vector_after ys) r ≤ L r) (cut_row N L grows l) (before p r exists k),
        rises_take no_vector m.sent_at (L q) (F q) (vectored built few q).rises (last_backed N L grows consistent exists l sender) r (omega arith),
        before q r sender k,
      )))

all_both : {X : Type 0} (P Q R : X → Type 0) → ((x : X) → P x → Q x → R x) → (xs : List X) → All P xs → All Q xs → All R xs
all_both P Q R f xs a b k d h = f (get_or xs k d) (a k d h) (b k d h)

-- each vector is at most the last
below_last : (v : List ℕ) (xs : List Interval) → Rises v xs → All (λ x. (r : ℕ) → r < 8 → entry x.vector r ≤ entry (after v xs) r) xs
below_last v [] h = All-nil _
below_last v (x ∷ xs) h = All-cons (λ (y : Interval). (r : ℕ) → r < 8 → entry y.vector r ≤ entry (after x.vector xs) r) x xs (rises_from x.vector xs h.1) (below_last x.vector xs h.1)

pub covers_consistent : {M : Meaning} {N : ℕ} {given : Given} {F : Family} → Built M N given F → N ≤ 8 → (L : Line) → Covered N F L → Consistent N F L
covers_consistent {M} {N} {given} {F} built few L covered p h =
    all_both (λ x. x.source < N → x.sent_at ≤ entry x.vector x.source) (λ x. (r : ℕ) → r < 8 → entry x.vector r ≤ entry (vector_after (take (L p) (F p))) r) (Backed N L)
    (λ x heard low s. omega (arith, heard s, low x.source (omega arith), covered p x.source h s)) (take (L p) (F p))
    (All-take (λ (x : Interval). x.source < N → x.sent_at ≤ entry x.vector x.source) (L p) (F p) (vectored built few p).heard) (below_last no_vector (take (L p) (F p)) (rises_front no_vector (L p) (F p) (vectored built few p).rises))

pub consistent_covers : {M : Meaning} {N : ℕ} {given : Given} {F : Family} → Built M N given F → N ≤ 8 → (L : Line) → Consistent N F L → Covered N F L
consistent_covers built few L consistent = covers few L built consistent
