-- The intervals of a process: what they play to, what they send, take and put out, and their vectors.
use Rattle.std.specs.Prelude.{ℕ, ◌+◌, max, List, map, length, take, drop, replicate, fold, filter, nat_eq, slice_index, slice_set}
use Rattle.std.specs.List.{range_with_len, flat_map}
use Rattle.std.specs.Option.{option_to_list}
use Rattle.programs.specs.Program.{Meaning}
use Rattle.programs.specs.Values.{listed, within}
use Rattle.programs.specs.declared.values.Send.{Send}
use Rattle.programs.specs.declared.values.State.{State}
use Rattle.records.specs.declared.Interval.{Interval}

-- what each process has done, by its number
abbrev pub Family : Type 0
Family = ℕ → List Interval

-- the state of process p after its intervals
abbrev pub play : Meaning → ℕ → List Interval → State
play M p xs = fold (λ s x. (M.step p s x.source x.value).0) (M.start p) xs

-- a message on its way: its value, and the sender's interval in which it was sent
pub record Message : Type 0 where
  pub value : ℕ
  pub sent_at : ℕ

-- what an interval sends to t
abbrev pub sent_in : ℕ → Interval → List Message
sent_in t x = map (λ (m : Send). record { value = m.value; sent_at = x.index }) (filter (λ m. nat_eq m.target t) (listed x.sends))

-- all sends to t, in order
abbrev pub channel : ℕ → List Interval → List Message
channel t xs = flat_map (sent_in t) xs

-- how many messages came from q
abbrev pub taken : ℕ → List Interval → ℕ
taken q xs = length (filter (λ x. nat_eq x.source q) xs)

-- what waits from q to p: the next one follows as many as p has taken from q
abbrev pub waiting : Family → ℕ → ℕ → List Message
waiting F q p = drop (taken q (F p)) (channel p (F q))

-- the number that the next input of a process has
abbrev pub next_input : List Interval → ℕ
next_input xs = taken 8 xs + 1

abbrev pub outputs : List Interval → List ℕ
outputs xs = flat_map (λ x. option_to_list x.output) xs

-- a vector has eight entries; at the start they are zeros
abbrev pub no_vector : List ℕ
no_vector = replicate 8 0

-- the vector of the last interval
abbrev pub vector_after : List Interval → List ℕ
vector_after xs = fold (λ _ x. x.vector) no_vector xs

-- entry by entry the larger
abbrev pub merged : List ℕ → List ℕ → List ℕ
merged v w = map (λ i. max (slice_index v i) (slice_index w i)) (range_with_len 0 8)

-- the interval that process p begins in a state after xs, with a message from a source
abbrev pub begun : Meaning → ℕ → ℕ → State → List Interval → ℕ → Message → List ℕ → Interval
begun M N p s xs source m vector = record {
  process = p;
  index = length xs + 1;
  source = source;
  sent_at = m.sent_at;
  value = m.value;
  sends = within N (M.step p s source m.value).1;
  output = (M.step p s source m.value).2;
  vector = slice_set vector p (length xs + 1);
}

-- by an input: sent-at is 0, and the vector is the last one with its own entry raised
abbrev pub by_input : Meaning → ℕ → ℕ → State → List Interval → ℕ → Interval
by_input M N p s xs v = begun M N p s xs 8 (record { value = v; sent_at = 0 }) (vector_after xs)

-- by a delivery from q: the vector is merged with that of the sending interval
abbrev pub by_delivery : Meaning → ℕ → State → Family → ℕ → ℕ → Message → Interval
by_delivery M N s F q p m = begun M N p s (F p) q m (merged (vector_after (F p)) (vector_after (take m.sent_at (F q))))
