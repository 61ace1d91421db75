-- What a push and a removal do to the channels of a list of messages, and a push to the outputs.
use Rattle.std.proofs.Common.{◌≡◌, ℕ, suc, ◌<◌, ◌≤◌, Bool, true, false, ◌&&◌, eqb, List, [], ◌∷◌, ◌++◌, map, length, get_or, take, drop, Some, None, filter, Option, sym, refl, ap, ◌∙◌, arith, drop-cons}
use Rattle.std.specs.Option.{option_to_list}
use Rattle.std.specs.List.{position, position_or_len}
use Rattle.std.proofs.lemmas.List.Elements.{filter-append}
use Rattle.std.proofs.lemmas.List.Quantifiers.{position-Some}
use Rattle.std.proofs.lemmas.List.{map-append, take-append-drop, take_all, get_or_default}
use Rattle.std.proofs.Math.Numerals.{one-add}
use Rattle.std.proofs.lemmas.Bool.Decides.{nat_tests}
use Rattle.programs.specs.declared.values.Send.{Send}
use Rattle.runs.specs.Run.{sent_to}
use Rattle.runs.specs.Held.{channel, outputs_of}
use Rattle.runs.specs.Inside.{message, output, Frees}
use Rattle.runs.specs.declared.runner.Message.{Message}
use Rattle.runs.specs.declared.runner.Output.{Output}

-- channels and outputs are parts of a list, read by a field
picked_append : {X : Type 0} (field : X → ℕ) (test : X → Bool) (xs ys : List X) → map field (filter test (xs ++ ys)) ≡ map field (filter test xs) ++ map field (filter test ys)
picked_append field test xs ys = ap (map field) (filter-append test xs ys) ∙ map-append field (filter test xs) (filter test ys)

pub channel_append : (q p : ℕ) (xs ys : List Message) → channel q p (xs ++ ys) ≡ channel q p xs ++ channel q p ys
channel_append q p xs ys = picked_append (λ m. m.value) (λ m. eqb m.source q && eqb m.target p) xs ys

pub channel_here : (q p : ℕ) (m : Message) (ms : List Message) → m.source ≡ q → m.target ≡ p → channel q p (m ∷ ms) ≡ m.value ∷ channel q p ms
channel_here q p m ms e f = grind (arith, nat_tests)

pub channel_elsewhere : (q p : ℕ) (m : Message) (ms : List Message) → ((q ≡ m.source) × (p ≡ m.target) → ⊥) → channel q p (m ∷ ms) ≡ channel q p ms
channel_elsewhere q p m ms n = grind (arith, nat_tests)

-- what p sends is in the channels from p
pub channel_own : (p r : ℕ) (ms : List Send) → channel p r (map (message p) ms) ≡ sent_to r ms
channel_own p r [] = refl
channel_own p r (m ∷ ms) = let more = channel_own p r ms in grind (arith, nat_tests)

pub channel_others : (q p r : ℕ) (ms : List Send) → (q ≡ p → ⊥) → channel q r (map (message p) ms) ≡ []
channel_others q p r [] n = refl
channel_others q p r (m ∷ ms) n = let more = channel_others q p r ms n in grind (arith, nat_tests)

-- before the place of the first that passes none passes
before_first : {X : Type 0} (test : X → Bool) (xs : List X) → filter test (take (position_or_len test xs) xs) ≡ []
before_first test [] = refl
before_first test (x ∷ xs) = go (test x) refl (before_first test xs)
  where
    go : (b : Bool) → test x ≡ b → filter test (take (position_or_len test xs) xs) ≡ [] → filter test (take (position_or_len test (x ∷ xs)) (x ∷ xs)) ≡ []
    go true e more = rw e refl
    go false e more = simp (e, one-add) more

-- a channel with no message is empty
pub none_waits : (q p : ℕ) (ms : List Message) → position (λ m. eqb m.source q && eqb m.target p) ms ≡ None → channel q p ms ≡ []
none_waits q p ms e =
    let whole : length ms ≤ position_or_len (λ m. eqb m.source q && eqb m.target p) ms = grind (arith, nat_tests) in
    ap (channel q p) (sym (take_all (position_or_len (λ (m : Message). eqb m.source q && eqb m.target p) ms) ms whole))
    ∙ ap (map (λ m. m.value)) (before_first (λ m. eqb m.source q && eqb m.target p) ms)

module _ (q p i : ℕ) (ms : List Message) (found : position (λ m. eqb m.source q && eqb m.target p) ms ≡ Some i) where
  d : Message
  d = record { source = 0; target = 0; value = 0 }

  -- the first message of a channel can be taken out
  pub frees : Frees q p i ms
  frees = record {
    within = within;
    first = λ e. ap (channel q p) apart ∙ channel_append q p (take i ms) (get_or ms i d ∷ drop (suc i) ms)
        ∙ ap (λ vs. vs ++ channel q p (get_or ms i d ∷ drop (suc i) ms)) none ∙ channel_here q p (get_or ms i d) (drop (suc i) ms) here.0 here.1
        ∙ ap (λ v. v ∷ channel q p (drop (suc i) ms)) (ap (λ (m : Message). m.value) (get_or_default ms i d e within))
        ∙ ap (λ vs. (get_or ms i e).value ∷ vs) (sym (channel_append q p (take i ms) (drop (suc i) ms) ∙ ap (λ vs. vs ++ channel q p (drop (suc i) ms)) none));
    others = λ r s n. channel_append r s (take i ms) (drop (suc i) ms)
        ∙ ap (λ vs. channel r s (take i ms) ++ vs) (sym (channel_elsewhere r s (get_or ms i d) (drop (suc i) ms) (λ k. n (k.0 ∙ here.0, k.1 ∙ here.1))))
        ∙ sym (ap (channel r s) apart ∙ channel_append r s (take i ms) (get_or ms i d ∷ drop (suc i) ms));
  }
    where
      within : i < length ms
      within = (position-Some (λ m. eqb m.source q && eqb m.target p) ms i d found).0

      passes : (eqb (get_or ms i d).source q && eqb (get_or ms i d).target p) ≡ true
      passes = (position-Some (λ m. eqb m.source q && eqb m.target p) ms i d found).1

      here : ((get_or ms i d).source ≡ q) × ((get_or ms i d).target ≡ p)
      here = (grind (arith, nat_tests, passes), grind (arith, nat_tests, passes))

      place : position_or_len (λ m. eqb m.source q && eqb m.target p) ms ≡ i
      place = grind (arith, nat_tests, found)

      none : channel q p (take i ms) ≡ []
      none = ap (λ n. channel q p (take n ms)) (sym place) ∙ ap (map (λ m. m.value)) (before_first (λ m. eqb m.source q && eqb m.target p) ms)

      apart : ms ≡ take i ms ++ (get_or ms i d ∷ drop (suc i) ms)
      apart = sym (take-append-drop i ms) ∙ ap (λ ys. take i ms ++ ys) (drop-cons ms i d within)

pub outputs_append : (p : ℕ) (xs ys : List Output) → outputs_of p (xs ++ ys) ≡ outputs_of p xs ++ outputs_of p ys
outputs_append p xs ys = picked_append (λ o. o.value) (λ o. eqb o.process p) xs ys

pub outputs_own : (p : ℕ) (o : Option ℕ) → outputs_of p (map (output p) (option_to_list o)) ≡ option_to_list o
outputs_own p None = refl
outputs_own p (Some v) = grind (arith, nat_tests)

pub outputs_others : (r p : ℕ) (o : Option ℕ) → (r ≡ p → ⊥) → outputs_of r (map (output p) (option_to_list o)) ≡ []
outputs_others r p None n = refl
outputs_others r p (Some v) n = grind (arith, nat_tests)
