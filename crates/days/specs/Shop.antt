-- What an entry does to the run of the order program.
use Rattle.std.specs.Prelude.{◌≡◌, ℕ, ◌-◌, ◌^◌, ◌⊎◌, List, [], ◌∷◌, ◌++◌, length, Ok, Err, vec_items, Result, Vec}
use Rattle.std.specs.declared.alloc.Global.{Global}
use Rattle.std.specs.List.{All}
use Rattle.programs.specs.Orders.{orders, order_value}
use Rattle.runs.specs.Answers.{Advanced, Quiet, Delivery, Grown}
use Rattle.runs.specs.Held.{configuration, Unchanged}
use Rattle.runs.specs.Run.{Configuration, Move, took, Leads, Run}
use Rattle.runs.specs.declared.runner.Output.{Output}
use Rattle.runs.specs.declared.runner.RunError.{RunError}
use Rattle.runs.specs.declared.runner.RunError.TheVariants.{ProcessCount, NoSuchProcess, NothingWaiting, Unsettled, Memory}
use Rattle.days.specs.Events.{told}
use Rattle.days.specs.declared.entry.Entry.{Entry}
use Rattle.days.specs.declared.entry.Entry.TheVariants.{Stock, Placed}
use Rattle.days.specs.declared.event.Event.{Event}
use Rattle.days.specs.declared.shop.Shop.{Shop}

-- how the three processes stand
abbrev pub standing : Shop → Configuration
standing s = configuration s.run

-- all that came out so far
abbrev pub issued : Shop → List Output
issued s = vec_items s.run.outputs

-- the pieces on the shelf
abbrev pub pieces_left : Shop → ℕ
pieces_left s = ((standing s).state 1).a

-- a shop opens at the beginning of a run of intake, stock and dispatch
abbrev pub Opens : Result Shop RunError → Type 0
Opens (Ok s) = Run orders 3 [] (standing s) × (issued s ≡ [])
Opens (Err ProcessCount) = ⊥
Opens (Err NoSuchProcess) = ⊥
Opens (Err NothingWaiting) = ⊥
Opens (Err Unsettled) = ⊥
Opens (Err Memory) = Unit {0}

-- a delivery goes to stock, an order to intake
abbrev pub input : Entry → Move
input (Stock pieces) = took 1 pieces
input (Placed o) = took 0 (order_value o.number o.quantity)

-- the entry was put in, and messages were delivered
pub record Carried (e : Entry) (ms : List Move) (a b : Shop) : Type 0 where
  pub deliveries : All Delivery ms
  pub moves : Leads orders 3 (input e ∷ ms) (standing a) (standing b)
  pub grown : Grown a.run b.run

-- the entry is put in, or nothing is for want of memory
abbrev pub Puts : Entry → Shop → Shop → Result (Unit {0}) RunError → Type 0
Puts e a b (Ok _) = Advanced orders (input e) a.run b.run
Puts e a b (Err ProcessCount) = ⊥
Puts e a b (Err NoSuchProcess) = ⊥
Puts e a b (Err NothingWaiting) = ⊥
Puts e a b (Err Unsettled) = ⊥
Puts e a b (Err Memory) = Unchanged a.run b.run

-- an entry is carried until nothing waits, or until so many deliveries were too few; want of memory stops it before its input or after it
abbrev pub Carries : ℕ → Entry → Shop → Shop → Result (Unit {0}) RunError → Type 0
Carries limit e a b (Ok _) = (ms : List Move) × (Carried e ms a b × Quiet (standing b))
Carries limit e a b (Err ProcessCount) = ⊥
Carries limit e a b (Err NoSuchProcess) = ⊥
Carries limit e a b (Err NothingWaiting) = ⊥
Carries limit e a b (Err Unsettled) = (ms : List Move) × (Carried e ms a b × (length ms ≡ limit) × (Quiet (standing b) → ⊥))
Carries limit e a b (Err Memory) = Unchanged a.run b.run ⊎ ((ms : List Move) × Carried e ms a b)

-- more deliveries than any program of ours ever needs
abbrev pub most : ℕ
most = 2 ^ 64 - 1

-- what is told is what came out for the entry, and what is on the shelf then
abbrev pub Told : Entry → Shop → Shop → List Event → Type 0
Told e a b events = (os : List Output) × ((issued b ≡ issued a ++ os) × (events ≡ told e os (pieces_left b)))

-- playing an entry is carrying it and telling of it; want of memory may come after it was carried
abbrev pub Plays : Entry → Shop → Shop → Result (Vec Event Global) RunError → Type 0
Plays e a b (Ok events) = Carries most e a b (Ok tt) × Told e a b (vec_items events)
Plays e a b (Err why) = Carries most e a b (Err why) ⊎ ((why ≡ Memory) × Carries most e a b (Ok tt))
