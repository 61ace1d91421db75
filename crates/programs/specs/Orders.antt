-- The order program: intake is process 0, stock process 1, dispatch process 2.
use Rattle.std.specs.Prelude.{ℕ, ◌+◌, ◌-◌, ◌*◌, ◌/◌, ◌%◌, ◌^◌, min, cond, Some, None, ◌==◌, nat_le}
use Rattle.programs.specs.Program.{Meaning, Step, zeros, idle, one_more, to}
use Rattle.programs.specs.declared.values.State.{State}
use Rattle.programs.specs.declared.values.Sends.TheVariants.{Nothing, One, Two}

-- a value is an order number times 4,294,967,296 plus a quantity below that
abbrev pub order_number : ℕ → ℕ
order_number v = v / 4294967296

abbrev pub order_quantity : ℕ → ℕ
order_quantity v = v % 4294967296

abbrev pub order_value : ℕ → ℕ → ℕ
order_value number pieces = number * 4294967296 + pieces

-- a sum with a quantity stops at the last 64-bit number
abbrev pub with_pieces : ℕ → ℕ → ℕ
with_pieces n pieces = min (n + pieces) (2 ^ 64 - 1)

abbrev pub with_a : State → ℕ → State
with_a s n = record { a = n; b = s.b; c = s.c; d = s.d }

abbrev pub with_b : State → ℕ → State
with_b s n = record { a = s.a; b = n; c = s.c; d = s.d }

-- an order from outside is counted in a; with quantity 0 it is answered at once, else stock is asked
abbrev pub intake_order : State → ℕ → Step
intake_order s v = cond (order_quantity v == 0)
    (with_a s (one_more s.a), Nothing, Some v)
    (with_a s (one_more s.a), One (to 1 v), None)

-- stock's answer adds its quantity to b and is the confirmation
abbrev pub intake_answer : State → ℕ → Step
intake_answer s v = (with_b s (with_pieces s.b (order_quantity v)), Nothing, Some v)

-- a delivery from outside adds its quantity to a
abbrev pub stock_delivery : State → ℕ → Step
stock_delivery s v = (with_a s (with_pieces s.a (order_quantity v)), Nothing, None)

-- an order of at most a is taken from a, and goes first to dispatch and then back to intake;
-- else b counts it, and it goes back with quantity 0
abbrev pub stock_order : State → ℕ → Step
stock_order s v = cond (nat_le (order_quantity v) s.a)
    (with_a s (s.a - order_quantity v), Two (to 2 v) (to 0 v), None)
    (with_b s (one_more s.b), One (to 0 (order_value (order_number v) 0)), None)

-- dispatch counts the order in a and outputs it, the picking note
abbrev pub dispatch_order : State → ℕ → Step
dispatch_order s v = (with_a s (one_more s.a), Nothing, Some v)

abbrev pub orders_step : ℕ → State → ℕ → ℕ → Step
orders_step p s source v =
    cond (p == 0) (cond (source == 8) (intake_order s v) (cond (source == 1) (intake_answer s v) (idle s)))
    (cond (p == 1) (cond (source == 8) (stock_delivery s v) (cond (source == 0) (stock_order s v) (idle s)))
    (cond (p == 2) (cond (source == 1) (dispatch_order s v) (idle s))
    (idle s)))

abbrev pub orders : Meaning
orders = record { start = λ p. zeros; step = orders_step }
