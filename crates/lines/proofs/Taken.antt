-- What one interval more does to counts, channels, outputs and states; no process takes more than was sent to it.
use Rattle.std.proofs.Common.{◌≡◌, ℕ, ◌+◌, ◌<◌, ◌≤◌, Bool, true, false, cond, eqb, ◌⊎◌, List, [], ◌∷◌, ◌++◌, length, drop, filter, sym, refl, ap, ◌∙◌, subst, inl, inr, arith}
use Rattle.std.specs.Option.{option_to_list}
use Rattle.std.specs.List.{flat_map}
use Rattle.std.proofs.lemmas.List.Elements.{filter-append}
use Rattle.std.proofs.lemmas.List.{flat_map_more, length-append, length-drop, drop-drop}
use Rattle.std.proofs.lemmas.Bool.{cases_eq, eq-eqb, ne_eqb, cond-true, cond-false}
use Rattle.programs.specs.Program.{Meaning}
use Rattle.records.specs.declared.Interval.{Interval}
use Rattle.lines.specs.Built.{Given, Grows, Built, begins, input, delivery}
use Rattle.lines.specs.Intervals.{Family, sent_in, channel, taken, outputs}

pub joined_push : {X A : Type 0} (f : X → List A) (xs : List X) (x : X) → flat_map f (xs ++ (x ∷ [])) ≡ flat_map f xs ++ f x
joined_push f xs x = sym (flat_map_more f [] xs x)

pub taken_push : (q : ℕ) (xs : List Interval) (x : Interval) → taken q (xs ++ (x ∷ [])) ≡ taken q xs + cond (eqb x.source q) 1 0
taken_push q xs x = ap length (filter-append (λ y. eqb y.source q) xs (x ∷ [])) ∙ length-append (filter (λ y. eqb y.source q) xs) (filter (λ y. eqb y.source q) (x ∷ [])) ∙ ap (λ n. taken q xs + n) (one (eqb x.source q))
  where
    one : (b : Bool) → length (cond b (x ∷ []) []) ≡ cond b 1 0
    one true = refl
    one false = refl

module _ {F G : Family} {p : ℕ} {x : Interval} (grows : Grows F p x G) where
  taken_here : (a : ℕ) → taken a (G p) ≡ taken a (F p) + cond (eqb x.source a) 1 0
  taken_here a = ap (taken a) grows.here ∙ taken_push a (F p) x

  pub taken_same : (a b : ℕ) → ((a ≡ x.source) × (b ≡ p) → ⊥) → taken a (G b) ≡ taken a (F b)
  taken_same a b other = go (cases_eq b p)
    where
      go : (b ≡ p) ⊎ (b ≡ p → ⊥) → taken a (G b) ≡ taken a (F b)
      go (inr n) = ap (taken a) (grows.others b n)
      go (inl e) =
          let apart : x.source ≡ a → ⊥ = λ s. other (sym s, e) in
          let here : taken a (G p) ≡ taken a (F p) = taken_here a ∙ ap (λ n. taken a (F p) + n) (cond-false (eqb x.source a) 1 0 (ne_eqb x.source a apart)) ∙ omega arith in
          subst (λ k. taken a (G k) ≡ taken a (F k)) (sym e) here

  pub taken_more : taken x.source (G p) ≡ taken x.source (F p) + 1
  taken_more = taken_here x.source ∙ ap (λ n. taken x.source (F p) + n) (cond-true (eqb x.source x.source) 1 0 (eq-eqb x.source x.source refl))

  pub channel_more : (t : ℕ) → channel t (G p) ≡ channel t (F p) ++ sent_in t x
  channel_more t = ap (channel t) grows.here ∙ joined_push (sent_in t) (F p) x

  pub outputs_more : outputs (G p) ≡ outputs (F p) ++ option_to_list x.output
  outputs_more = ap outputs grows.here ∙ joined_push (λ y. option_to_list y.output) (F p) x

pub idle : {M : Meaning} {N : ℕ} {given : Given} {F : Family} → Built M N given F → (q : ℕ) → N ≤ q → F q ≡ []
idle (begins none) = λ q h. none q
idle (input p v built exists g grows) = λ q h. grows.others q (λ e. omega arith) ∙ idle built q h
idle (delivery s p m ms built sender exists first grows) = λ q h. grows.others q (λ e. omega arith) ∙ idle built q h

-- something is left behind the first n
pub some_left : {X : Type 0} (n : ℕ) (xs : List X) (y : X) (ys : List X) → drop n xs ≡ y ∷ ys → n < length xs
some_left n xs y ys e = omega (arith, ap length e, length-drop n xs)

pub drop_next : {X : Type 0} (n : ℕ) (xs : List X) (y : X) (ys : List X) → drop n xs ≡ y ∷ ys → drop (n + 1) xs ≡ ys
drop_next n xs y ys e = sym (drop-drop 1 n xs) ∙ ap (drop 1) e

-- of each channel no more was taken than was sent
abbrev pub Sent : ℕ → Family → Type 0
Sent N F = (a b : ℕ) → a < N → taken a (F b) ≤ length (channel b (F a))

longer : {F G : Family} {p : ℕ} {x : Interval} → Grows F p x G → (a b : ℕ) → length (channel b (F a)) ≤ length (channel b (G a))
longer {F} {G} {p} {x} grows a b = go (cases_eq a p)
  where
    go : (a ≡ p) ⊎ (a ≡ p → ⊥) → length (channel b (F a)) ≤ length (channel b (G a))
    go (inl e) = subst (λ k. length (channel b (F k)) ≤ length (channel b (G k))) (sym e) (omega (arith, ap length (channel_more grows b), length-append (channel b (F p)) (sent_in b x)))
    go (inr n) = omega (arith, ap (λ xs. length (channel b xs)) (grows.others a n))

pub sent : {M : Meaning} {N : ℕ} {given : Given} {F : Family} → Built M N given F → N ≤ 8 → Sent N F
sent (begins none) few = λ a b h. rw (none b) (omega arith)
sent (input p v built exists g grows) few = λ a b h. omega (arith, taken_same grows a b (λ e. omega arith), longer grows a b, sent built few a b h)
sent {M} {N} (delivery {F} {G} q p m ms built sender exists first grows) few = λ a b h. go a b h (sent built few a b h) (cases_eq a q) (cases_eq b p)
  where
    go : (a b : ℕ) → a < N → taken a (F b) ≤ length (channel b (F a)) → (a ≡ q) ⊎ (a ≡ q → ⊥) → (b ≡ p) ⊎ (b ≡ p → ⊥) → taken a (G b) ≤ length (channel b (G a))
    go a b h before (inl e) (inl f) =
        let here : taken q (G p) ≤ length (channel p (G q)) = omega (arith, taken_more grows, some_left (taken q (F p)) (channel p (F q)) m ms first, longer grows q p) in
        subst (λ k. taken k (G b) ≤ length (channel b (G k))) (sym e) (subst (λ k. taken q (G k) ≤ length (channel k (G q))) (sym f) here)
    go a b h before (inr n) s = omega (arith, taken_same grows a b (λ k. n k.0), longer grows a b)
    go a b h before (inl e) (inr n) = omega (arith, taken_same grows a b (λ k. n k.1), longer grows a b)
