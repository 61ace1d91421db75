-- Sends as a list, and which of them are made.
use Rattle.std.specs.Prelude.{◌≡◌, ℕ, Bool, cond, ltb, List, [], ◌∷◌, filter, nat_lt}
use Rattle.std.specs.Fn.{Shared}
use denote.Ref.{Bor}
use Rattle.programs.specs.declared.values.Send.{Send}
use Rattle.programs.specs.declared.values.Sends.{Sends}
use Rattle.programs.specs.declared.values.Sends.TheVariants.{Nothing, One, Two}

-- what a step sends, in order
abbrev pub listed : Sends → List Send
listed Nothing = []
listed (One m) = m ∷ []
listed (Two m n) = m ∷ n ∷ []

-- the closure answers what the test does
abbrev pub Answers : {F : Type 0} → Shared F (Bor Send × Unit {0}) Bool → F → (Send → Bool) → Type 0
Answers g f p = (m : Bor Send) (b : Bool) → g.post f (m, tt) b → b ≡ p m.now

-- the sends that pass the test, in order
abbrev pub passing : (Send → Bool) → Sends → Sends
passing p Nothing = Nothing
passing p (One m) = cond (p m) (One m) Nothing
passing p (Two m n) = cond (p m) (cond (p n) (Two m n) (One m)) (cond (p n) (One n) Nothing)

-- with N processes, a send to N or above is neither made nor recorded
abbrev pub within : ℕ → Sends → Sends
within N sends = passing (λ m. nat_lt m.target N) sends

-- the same of a list of sends
abbrev pub reaching : ℕ → List Send → List Send
reaching N ms = filter (λ m. ltb m.target N) ms
