-- The records of one order: ten pieces are delivered, order 1 for three pieces goes from intake to stock and on to dispatch.
use Rattle.std.specs.Prelude.{ℕ, cond, List, [], ◌∷◌, ◌++◌, ◌==◌}
use Rattle.programs.specs.Orders.{orders, order_value}
use Rattle.records.specs.declared.Interval.{Interval}
use Rattle.lines.specs.Intervals.{Family, Message, play, waiting, by_input, by_delivery}
use Rattle.lines.specs.Lines.{Line}

abbrev grown : Family → ℕ → Interval → Family
grown F p x r = cond (r == p) (F p ++ (x ∷ [])) (F r)

abbrev pub with_input : Family → ℕ → ℕ → Family
with_input F p v = grown F p (by_input orders 3 p (play orders p (F p)) (F p) v)

abbrev taking : Family → ℕ → ℕ → List Message → Family
taking F q p [] = F
taking F q p (m ∷ ms) = grown F p (by_delivery orders 3 (play orders p (F p)) F q p m)

-- p takes what waits first from q
abbrev pub with_delivery : Family → ℕ → ℕ → Family
with_delivery F q p = taking F q p (waiting F q p)

abbrev pub story : Family
story = with_delivery (with_delivery (with_input (with_input (λ p. []) 1 10) 0 (order_value 1 3)) 0 1) 1 2

abbrev pub counts : ℕ → ℕ → ℕ → Line
counts a b c p = cond (p == 0) a (cond (p == 1) b (cond (p == 2) c 0))
