-- What is told of an entry, and in which words.
use Rattle.std.specs.Prelude.{ℕ, cond, not, ◌&&◌, List, [], ◌∷◌, ◌++◌, map, codes, decimal, ◌==◌}
use Rattle.programs.specs.Orders.{order_number, order_quantity}
use Rattle.programs.specs.declared.orders.Order.{Order}
use Rattle.runs.specs.declared.runner.Output.{Output}
use Rattle.days.specs.declared.entry.Entry.{Entry}
use Rattle.days.specs.declared.entry.Entry.TheVariants.{Stock, Placed}
use Rattle.days.specs.declared.event.Event.{Event}
use Rattle.days.specs.declared.event.Event.TheVariants.{Delivered, Picked, Confirmed, Refused, Left}

-- the order that a value stands for
abbrev pub order_of : ℕ → Order
order_of v = record { number = order_number v; quantity = order_quantity v }

-- an output of dispatch is a picking note; one of intake confirms, but refuses if it has no pieces and some were wanted
abbrev pub event_of : Order → ℕ → Output → Event
event_of wanted shelf o =
    cond (o.process == 2) (Picked (order_of o.value))
    (cond (order_quantity o.value == 0 && not (wanted.quantity == 0)) (Refused wanted shelf) (Confirmed (order_of o.value)))

-- by the entry, what came out for it, and what is on the shelf then
abbrev pub told : Entry → List Output → ℕ → List Event
told (Stock pieces) os shelf = Delivered pieces shelf ∷ []
told (Placed wanted) os shelf = map (event_of wanted shelf) os ++ (Left shelf ∷ [])

abbrev pub delivery_text : ℕ → ℕ → List ℕ
delivery_text pieces shelf = codes "stock: " ++ (decimal pieces ++ (codes " pieces delivered, " ++ (decimal shelf ++ codes " on the shelf")))

abbrev pub picking_text : Order → List ℕ
picking_text o = codes "order " ++ (decimal o.number ++ (codes ": picking note for " ++ (decimal o.quantity ++ codes " pieces")))

abbrev pub confirmation_text : Order → List ℕ
confirmation_text o = codes "order " ++ (decimal o.number ++ (codes ": confirmed with " ++ (decimal o.quantity ++ codes " pieces")))

abbrev pub shortage_text : Order → ℕ → List ℕ
shortage_text o shelf = codes "order " ++ (decimal o.number ++ (codes ": refused, " ++ (decimal o.quantity ++ (codes " pieces wanted and " ++ (decimal shelf ++ codes " on the shelf")))))

abbrev pub remainder_text : ℕ → List ℕ
remainder_text shelf = codes "stock: " ++ (decimal shelf ++ codes " left on the shelf")

abbrev pub text_of : Event → List ℕ
text_of (Delivered pieces shelf) = delivery_text pieces shelf
text_of (Picked o) = picking_text o
text_of (Confirmed o) = confirmation_text o
text_of (Refused o shelf) = shortage_text o shelf
text_of (Left shelf) = remainder_text shelf
