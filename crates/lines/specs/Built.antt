-- What a run without failure records.
use Rattle.std.specs.Prelude.{◌≡◌, ℕ, ◌<◌, Bool, true, List, [], ◌∷◌, ◌++◌, take, ◌≢◌}
use Rattle.programs.specs.Program.{Meaning}
use Rattle.records.specs.declared.Interval.{Interval}
use Rattle.lines.specs.Intervals.{Family, Message, play, waiting, next_input, by_input, by_delivery}
use Rattle.lines.specs.Lines.{Line}

-- which values were given to a process under which number
abbrev pub Given : Type 0
Given = ℕ → ℕ → ℕ → Bool

abbrev pub Gives : Given → ℕ → ℕ → ℕ → Type 0
Gives given p n v = given p n v ≡ true

-- one process of F has one interval more in G
pub record Grows (F : Family) (p : ℕ) (x : Interval) (G : Family) : Type 0 where
  pub here : G p ≡ F p ++ (x ∷ [])
  pub others : (r : ℕ) → (r ≢ p) → G r ≡ F r

-- a family that N processes of the program record in a run, one interval at a time, each input a given one
pub data Built (M : Meaning) (N : ℕ) (given : Given) : Family → Type 0 where
  begins : {F : Family} → ((p : ℕ) → F p ≡ []) → Built M N given F
  input : {F G : Family} (p v : ℕ) → Built M N given F → p < N → Gives given p (next_input (F p)) v → Grows F p (by_input M N p (play M p (F p)) (F p) v) G → Built M N given G
  delivery : {F G : Family} (q p : ℕ) (m : Message) (ms : List Message) → Built M N given F → q < N → p < N → waiting F q p ≡ m ∷ ms →
      Grows F p (by_delivery M N (play M p (F p)) F q p m) G → Built M N given G

-- all intervals above the line are gone
abbrev pub cut : Family → Line → Family
cut F L p = take (L p) (F p)
