-- What a run records has indexes without a gap, so a channel's messages come in the order of their intervals.
use Rattle.std.proofs.Common.{◌≡◌, ℕ, zero, suc, ◌+◌, ◌<◌, ◌≤◌, eqb, ◌⊎◌, List, [], ◌∷◌, ◌++◌, map, length, take, drop, filter, sym, subst, inl, inr, arith}
use Rattle.std.specs.List.{All}
use Rattle.std.proofs.lemmas.List.Elements.{All-nil, All-cons, All-append, All-weaker}
use Rattle.std.proofs.lemmas.Bool.{cases_eq}
use Rattle.programs.specs.Program.{Meaning}
use Rattle.programs.specs.Values.{listed}
use Rattle.programs.specs.declared.values.Send.{Send}
use Rattle.records.specs.declared.Interval.{Interval}
use Rattle.lines.specs.Built.{Given, Grows, Built, begins, input, delivery}
use Rattle.lines.specs.Intervals.{Family, Message, sent_in, channel}

-- the indexes of a list count on from n
abbrev pub From : ℕ → List Interval → Type 0
From n [] = Unit {0}
From n (x ∷ xs) = (x.index ≡ n + 1) × From (n + 1) xs

pub from_push : (n : ℕ) (xs : List Interval) (x : Interval) → From n xs → x.index ≡ n + length xs + 1 → From n (xs ++ (x ∷ []))
from_push n [] x h e = (omega arith, tt)
from_push n (y ∷ xs) x h e = (h.0, from_push (n + 1) xs x h.1 (omega arith))

pub from_drop : (n k : ℕ) (xs : List Interval) → From n xs → k ≤ length xs → From (n + k) (drop k xs)
from_drop n zero xs h l = subst (λ m. From m xs) (omega arith) h
from_drop n (suc k) [] h l = tt
from_drop n (suc k) (x ∷ xs) h l = subst (λ m. From m (drop k xs)) (omega arith) (from_drop (n + 1) k xs h.1 (omega arith))

pub from_take : (n k : ℕ) (xs : List Interval) → From n xs → From n (take k xs)
from_take n zero xs h = tt
from_take n (suc k) [] h = tt
from_take n (suc k) (x ∷ xs) h = (h.0, from_take (n + 1) k xs h.1)

-- each message of an interval has its index
all_sent_in : (P : ℕ → Type 0) (t : ℕ) (x : Interval) → P x.index → All (λ m. P m.sent_at) (sent_in t x)
all_sent_in P t x h = go (filter (λ m. eqb m.target t) (listed x.sends))
  where
    go : (ms : List Send) → All (λ (m : Message). P m.sent_at) (map (λ (m : Send). record { value = m.value; sent_at = x.index }) ms)
    go [] = All-nil (λ (m : Message). P m.sent_at)
    go (m ∷ ms) = All-cons (λ (m : Message). P m.sent_at) (record { value = m.value; sent_at = x.index }) (map (λ (m : Send). record { value = m.value; sent_at = x.index }) ms) h (go ms)

-- messages of intervals after n were sent after n, and at the last interval or before it
pub sent_late : (n t : ℕ) (xs : List Interval) → From n xs → All (λ m. n < m.sent_at) (channel t xs)
sent_late n t [] h = All-nil _
sent_late n t (x ∷ xs) h =
    All-append (λ m. n < m.sent_at) (sent_in t x) (channel t xs) (all_sent_in (λ k. n < k) t x (omega (arith, h.0)))
    (All-weaker (λ m. n + 1 < m.sent_at) (λ m. n < m.sent_at) (λ m k. omega arith) (channel t xs) (sent_late (n + 1) t xs h.1))

pub sent_early : (n t : ℕ) (xs : List Interval) → From n xs → All (λ m. m.sent_at ≤ n + length xs) (channel t xs)
sent_early n t [] h = All-nil _
sent_early n t (x ∷ xs) h =
    All-append (λ m. m.sent_at ≤ n + suc (length xs)) (sent_in t x) (channel t xs) (all_sent_in (λ k. k ≤ n + suc (length xs)) t x (omega (arith, h.0)))
    (All-weaker (λ m. m.sent_at ≤ n + 1 + length xs) (λ m. m.sent_at ≤ n + suc (length xs)) (λ m k. omega arith) (channel t xs) (sent_early (n + 1) t xs h.1))

-- a fact of each row lasts if it lasts where the row grows
pub grows_each : (P : ℕ → List Interval → Type 0) {F G : Family} {p : ℕ} {x : Interval} → Grows F p x G → ((r : ℕ) → P r (F r)) → P p (F p ++ (x ∷ [])) → (r : ℕ) → P r (G r)
grows_each P {F} {G} {p} {x} grows before here r = go (cases_eq r p)
  where
    go : (r ≡ p) ⊎ (r ≡ p → ⊥) → P r (G r)
    go (inl e) = subst (λ k. P k (G k)) (sym e) (subst (P p) (sym grows.here) here)
    go (inr n) = subst (P r) (sym (grows.others r n)) (before r)

pub indexed : {M : Meaning} {N : ℕ} {given : Given} {F : Family} → Built M N given F → (p : ℕ) → From 0 (F p)
indexed (begins none) = λ p. subst (From 0) (sym (none p)) tt
indexed (input {F} p v built exists g grows) = grows_each (λ r xs. From 0 xs) grows (indexed built) (from_push 0 (F p) _ (indexed built p) (omega arith))
indexed (delivery {F} q p m ms built sender exists first grows) = grows_each (λ r xs. From 0 xs) grows (indexed built) (from_push 0 (F p) _ (indexed built p) (omega arith))
