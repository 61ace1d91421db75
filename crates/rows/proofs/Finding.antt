-- The searches by number: what comes at a place of a list that is made of others.
use Rattle.std.proofs.Common.{◌≡◌, ℕ, zero, suc, ◌+◌, ◌-◌, ◌<◌, ◌≤◌, eqb, List, [], ◌∷◌, ◌++◌, length, get_or, drop, Some, None, filter, sym, refl, ap, ◌∙◌, arith}
use Rattle.std.specs.Option.{option_map}
use Rattle.std.specs.List.{flat_map, slice_get}
use Rattle.std.proofs.lemmas.Option.{slice_get-map}
use Rattle.std.proofs.lemmas.List.{at_drop_more, at_drop_all, length-map}
use Rattle.programs.specs.Values.{listed}
use Rattle.programs.specs.declared.values.Send.{Send}
use Rattle.programs.specs.declared.values.Sends.{Sends}
use Rattle.programs.specs.declared.values.Sends.TheVariants.{Nothing}
use Rattle.records.specs.declared.Interval.{Interval}
use Rattle.lines.specs.Intervals.{sent_in}

-- any interval, where a read wants one
abbrev pub blank : Interval
blank = record { process = 0; index = 0; source = 0; sent_at = 0; value = 0; sends = Nothing; output = None; vector = [] }

pub nth_append_left : {X : Type 0} (xs ys : List X) (n : ℕ) → n < length xs → slice_get (xs ++ ys) n ≡ slice_get xs n
nth_append_left [] ys n h = absurd (omega arith)
nth_append_left (x ∷ xs) ys zero h = refl
nth_append_left (x ∷ xs) ys (suc n) h = nth_append_left xs ys n (omega arith)

pub nth_append_right : {X : Type 0} (xs ys : List X) (n : ℕ) → length xs ≤ n → slice_get (xs ++ ys) n ≡ slice_get ys (n - length xs)
nth_append_right [] ys n h = ap (slice_get ys) (omega arith)
nth_append_right (x ∷ xs) ys zero h = absurd (omega arith)
nth_append_right (x ∷ xs) ys (suc n) h = nth_append_right xs ys n (omega arith) ∙ ap (slice_get ys) (omega arith)

-- the first of what is left
pub nth_drop : {X : Type 0} (n : ℕ) (xs : List X) → slice_get (drop n xs) 0 ≡ slice_get xs n
nth_drop zero [] = refl
nth_drop zero (x ∷ xs) = refl
nth_drop (suc n) [] = refl
nth_drop (suc n) (x ∷ xs) = nth_drop n xs

-- a search through the lists of the elements of xs that has come to the element at i
module _ {X A : Type 0} (f : X → List A) (xs : List X) (i : ℕ) (left : ℕ) where
  pub search_here : (d : X) → i < length xs → left < length (f (get_or xs i d)) → slice_get (flat_map f (drop i xs)) left ≡ slice_get (f (get_or xs i d)) left
  search_here d h l = at_drop_more (λ ys. slice_get (flat_map f ys) left) xs i d h ∙ nth_append_left (f (get_or xs i d)) (flat_map f (drop (i + 1) xs)) left l

  pub search_on : (d : X) (k : ℕ) → i < length xs → length (f (get_or xs i d)) ≡ k → k ≤ left → slice_get (flat_map f (drop i xs)) left ≡ slice_get (flat_map f (drop (i + 1) xs)) (left - k)
  search_on d k h e l =
      at_drop_more (λ ys. slice_get (flat_map f ys) left) xs i d h ∙ nth_append_right (f (get_or xs i d)) (flat_map f (drop (i + 1) xs)) left (omega arith)
      ∙ ap (λ n. slice_get (flat_map f (drop (i + 1) xs)) (left - n)) e

  pub search_none : length xs ≤ i → slice_get (flat_map f (drop i xs)) left ≡ None
  search_none h = at_drop_all (λ ys. slice_get (flat_map f ys) left) xs i h

-- what an interval sends to t, where r has those sends
module _ (t : ℕ) (x : Interval) (r : Sends) (same : listed r ≡ filter (λ m. eqb m.target t) (listed x.sends)) where
  pub length_sent_in : length (sent_in t x) ≡ length (listed r)
  length_sent_in = length-map (filter (λ (m : Send). eqb m.target t) (listed x.sends)) _ ∙ ap length (sym same)

  pub nth_sent_in : (n : ℕ) (m : Send) → slice_get (listed r) n ≡ Some m → slice_get (sent_in t x) n ≡ Some (record { value = m.value; sent_at = x.index })
  nth_sent_in n m e =
      slice_get-map (λ (m : Send). record { value = m.value; sent_at = x.index }) (filter (λ m. eqb m.target t) (listed x.sends)) n
      ∙ ap (λ ms. option_map (λ (m : Send). record { value = m.value; sent_at = x.index }) (slice_get ms n)) (sym same)
      ∙ ap (option_map (λ (m : Send). record { value = m.value; sent_at = x.index })) e
