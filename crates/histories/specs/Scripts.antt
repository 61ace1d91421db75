-- Small scripts of calls with their answers, over a store that keeps the first j of its unsafe records.
use Rattle.std.specs.Prelude.{◌≡◌, ℕ, min, true, List, [], ◌∷◌, ◌++◌, map, drop, None}
use Rattle.std.specs.List.{range_with_len}
use Rattle.programs.specs.Orders.{orders, order_value}
use Rattle.programs.specs.Program.{Meaning}
use Rattle.stores.specs.Calls.{unsafe_count}
use Rattle.stores.specs.Meaning as store
use Rattle.histories.specs.Calls.{Call, input, deliver, save, mark, crash, recover, fail, restart, show, look, Answer, accepted, refused, by_host, by_store}
use Rattle.histories.specs.Rules.{rule}
use Rattle.histories.specs.World.{World, fresh}

abbrev pub keeps : World → Call → ℕ
keeps w (restart j) = min j (unsafe_count w.store)
keeps w (input p n v) = 0
keeps w (deliver q p) = 0
keeps w (save p) = 0
keeps w (mark p) = 0
keeps w (crash p) = 0
keeps w recover = 0
keeps w (fail k) = 0
keeps w (show p n) = 0
keeps w (look p) = 0

abbrev pub answers : Meaning → ℕ → World → List Call → List Answer
answers M N w [] = []
answers M N w (c ∷ cs) = (rule M N (keeps w c) w c).0 ∷ answers M N (rule M N (keeps w c) w c).1 cs

abbrev empty_store : ℕ → store.Meaning
empty_store capacity = record { records = []; capacity = capacity; safe = 0; alive = true; fuse = None }

-- of three processes that run orders, over so many slots
abbrev pub script : ℕ → List Call → List Answer
script slots cs = answers orders 3 (fresh orders 3 (empty_store slots)) cs

-- one order: stock is delivered, intake saves the order, dispatch saves the picking note, stock loses all
abbrev pub lost_stock : List Call
lost_stock = input 1 1 10 ∷ input 0 1 (order_value 1 3) ∷ save 0 ∷ deliver 0 1 ∷ deliver 1 2 ∷ save 2 ∷ show 2 1 ∷ crash 1 ∷ []

abbrev ok : List ℕ → Answer
ok ns = accepted ns

abbrev no : ℕ → ℕ → Answer
no number place = refused (by_host number place)

abbrev gone : ℕ → ℕ → Answer
gone number place = refused (by_store number place)

pub record Scripts : Type 0 where
  -- the picking note is not shown, since stock's part of it was not saved; the recovery takes it back
  pub order : script 512 (lost_stock ++ (recover ∷ []))
      ≡ ok (1 ∷ []) ∷ ok (1 ∷ []) ∷ ok (1 ∷ []) ∷ ok (2 ∷ []) ∷ ok (1 ∷ []) ∷ ok (1 ∷ []) ∷ no 19 0 ∷ ok (0 ∷ []) ∷ ok (1 ∷ 0 ∷ 0 ∷ 0 ∷ 0 ∷ 0 ∷ []) ∷ []
  -- arguments are refused from the left, before the state
  pub arguments : script 8 (input 3 0 1 ∷ input 0 0 1 ∷ input 0 97 1 ∷ deliver 3 3 ∷ deliver 0 3 ∷ save 3 ∷ mark 3 ∷ crash 3 ∷ fail 65536 ∷ restart 65536 ∷ show 3 0 ∷ show 0 0 ∷ show 0 97 ∷ look 3 ∷ [])
      ≡ no 1 1 ∷ no 2 2 ∷ no 2 2 ∷ no 1 1 ∷ no 1 2 ∷ no 1 1 ∷ no 1 1 ∷ no 1 1 ∷ no 2 1 ∷ no 2 1 ∷ no 1 1 ∷ no 2 2 ∷ no 2 2 ∷ no 1 1 ∷ []
  -- states, in their order
  pub states : script 8 (restart 0 ∷ recover ∷ input 0 2 5 ∷ input 0 1 0 ∷ input 0 1 0 ∷ deliver 1 0 ∷ crash 0 ∷ look 0 ∷ input 0 1 0 ∷ deliver 1 0 ∷ save 0 ∷ mark 0 ∷ crash 0 ∷ [])
      ≡ no 11 0 ∷ no 13 0 ∷ no 15 0 ∷ ok (1 ∷ []) ∷ no 14 0 ∷ no 16 0 ∷ ok (0 ∷ []) ∷ no 12 0 ∷ no 12 0 ∷ no 12 0 ∷ no 12 0 ∷ no 12 0 ∷ no 12 0 ∷ []
  -- a full row: 95 inputs and a delivery
  pub full_row : drop 96 (script 8 (map (λ n. input 1 n 1) (range_with_len 1 95) ++ (input 0 1 (order_value 1 3) ∷ deliver 0 1 ∷ input 1 96 1 ∷ input 1 95 1 ∷ [])))
      ≡ ok (96 ∷ []) ∷ no 17 0 ∷ no 14 0 ∷ []
  -- a full store refuses and changes nothing
  pub full_store : script 1 (input 1 1 10 ∷ save 1 ∷ input 1 2 5 ∷ save 1 ∷ mark 1 ∷ look 1 ∷ save 0 ∷ [])
      ≡ ok (1 ∷ []) ∷ ok (1 ∷ []) ∷ ok (2 ∷ []) ∷ gone 18 1 ∷ gone 18 1 ∷ ok (2 ∷ 1 ∷ 15 ∷ 0 ∷ 0 ∷ 0 ∷ []) ∷ ok (0 ∷ []) ∷ []
  -- a replay begins at the checkpoint
  pub replay : script 8 (input 1 1 10 ∷ mark 1 ∷ input 1 2 5 ∷ save 1 ∷ crash 1 ∷ recover ∷ look 1 ∷ [])
      ≡ ok (1 ∷ []) ∷ ok (1 ∷ []) ∷ ok (2 ∷ []) ∷ ok (2 ∷ []) ∷ ok (2 ∷ []) ∷ ok (0 ∷ 2 ∷ 0 ∷ 0 ∷ 1 ∷ 0 ∷ []) ∷ ok (2 ∷ 2 ∷ 15 ∷ 0 ∷ 0 ∷ 0 ∷ []) ∷ []
  -- the power goes at the second append: what revive keeps stands, and no more
  pub none_kept : script 8 (input 1 1 10 ∷ input 1 2 5 ∷ fail 1 ∷ save 1 ∷ look 1 ∷ restart 0 ∷ look 1 ∷ [])
      ≡ ok (1 ∷ []) ∷ ok (2 ∷ []) ∷ ok (1 ∷ []) ∷ gone 20 1 ∷ no 10 0 ∷ ok (0 ∷ 0 ∷ 0 ∷ 0 ∷ 0 ∷ 0 ∷ []) ∷ ok (0 ∷ 0 ∷ 0 ∷ 0 ∷ 0 ∷ 0 ∷ []) ∷ []
  pub one_kept : script 8 (input 1 1 10 ∷ input 1 2 5 ∷ fail 1 ∷ save 1 ∷ restart 9 ∷ look 1 ∷ [])
      ≡ ok (1 ∷ []) ∷ ok (2 ∷ []) ∷ ok (1 ∷ []) ∷ gone 20 1 ∷ ok (0 ∷ 1 ∷ 0 ∷ 0 ∷ 1 ∷ 0 ∷ []) ∷ ok (1 ∷ 1 ∷ 10 ∷ 0 ∷ 0 ∷ 0 ∷ []) ∷ []
  -- a checkpoint comes after its intervals, so that none is left without them
  pub mark_cut : script 8 (input 1 1 10 ∷ input 1 2 5 ∷ fail 1 ∷ mark 1 ∷ restart 1 ∷ look 1 ∷ [])
      ≡ ok (1 ∷ []) ∷ ok (2 ∷ []) ∷ ok (1 ∷ []) ∷ gone 20 1 ∷ ok (0 ∷ 1 ∷ 0 ∷ 0 ∷ 1 ∷ 0 ∷ []) ∷ ok (1 ∷ 1 ∷ 10 ∷ 0 ∷ 0 ∷ 0 ∷ []) ∷ []
  -- the power goes inside a recovery, before its line record is appended
  pub before_line : drop 8 (script 512 (lost_stock ++ (fail 0 ∷ recover ∷ look 0 ∷ restart 0 ∷ look 2 ∷ [])))
      ≡ ok (0 ∷ []) ∷ gone 20 2 ∷ no 10 0 ∷ ok (1 ∷ 0 ∷ 0 ∷ 1 ∷ 0 ∷ 0 ∷ []) ∷ ok (0 ∷ 0 ∷ 0 ∷ 0 ∷ 0 ∷ 0 ∷ []) ∷ []
  -- and after it, with the record kept or not
  pub line_kept : drop 8 (script 512 (lost_stock ++ (fail 1 ∷ recover ∷ restart 1 ∷ look 2 ∷ [])))
      ≡ ok (1 ∷ []) ∷ gone 20 3 ∷ ok (1 ∷ 0 ∷ 0 ∷ 1 ∷ 0 ∷ 0 ∷ []) ∷ ok (0 ∷ 0 ∷ 0 ∷ 0 ∷ 0 ∷ 0 ∷ []) ∷ []
  pub line_dropped : drop 8 (script 512 (lost_stock ++ (fail 1 ∷ recover ∷ restart 0 ∷ look 2 ∷ [])))
      ≡ ok (1 ∷ []) ∷ gone 20 3 ∷ ok (1 ∷ 0 ∷ 0 ∷ 1 ∷ 0 ∷ 0 ∷ []) ∷ ok (0 ∷ 0 ∷ 0 ∷ 0 ∷ 0 ∷ 0 ∷ []) ∷ []
  -- a recovery without room for its line record; a restart without it stays dark on a living store
  pub no_room : drop 8 (script 3 (lost_stock ++ (input 0 2 (order_value 2 1) ∷ fail 1 ∷ save 0 ∷ restart 1 ∷ look 0 ∷ restart 0 ∷ [])))
      ≡ ok (2 ∷ []) ∷ ok (1 ∷ []) ∷ gone 20 3 ∷ gone 18 3 ∷ no 10 0 ∷ gone 18 3 ∷ []
  pub full_recovery : drop 8 (script 2 (lost_stock ++ (recover ∷ look 0 ∷ []))) ≡ gone 18 2 ∷ ok (1 ∷ 1 ∷ 1 ∷ 0 ∷ 0 ∷ 0 ∷ []) ∷ []
  -- what is committed is shown, before and after a loss of power
  pub shown_again : script 512 (input 0 1 (order_value 7 0) ∷ show 0 1 ∷ save 0 ∷ show 0 1 ∷ fail 0 ∷ mark 0 ∷ restart 0 ∷ show 0 1 ∷ show 0 2 ∷ [])
      ≡ ok (1 ∷ []) ∷ no 19 0 ∷ ok (1 ∷ []) ∷ ok (order_value 7 0 ∷ []) ∷ ok (0 ∷ []) ∷ gone 20 1 ∷ ok (1 ∷ 0 ∷ 0 ∷ 1 ∷ 0 ∷ 0 ∷ []) ∷ ok (order_value 7 0 ∷ []) ∷ no 19 0 ∷ []
  -- an interval that a recovery took back does not come back under a new one of the same number
  pub no_orphan : drop 8 (script 512 (lost_stock ++ (recover ∷ input 1 1 10 ∷ deliver 0 1 ∷ save 1 ∷ fail 0 ∷ mark 0 ∷ restart 0 ∷ look 2 ∷ show 2 1 ∷ [])))
      ≡ ok (1 ∷ 0 ∷ 0 ∷ 0 ∷ 0 ∷ 0 ∷ []) ∷ ok (1 ∷ []) ∷ ok (2 ∷ []) ∷ ok (2 ∷ []) ∷ ok (0 ∷ []) ∷ gone 20 5 ∷ ok (1 ∷ 2 ∷ 0 ∷ 1 ∷ 2 ∷ 0 ∷ []) ∷ ok (0 ∷ 0 ∷ 0 ∷ 0 ∷ 0 ∷ 0 ∷ []) ∷ no 19 0 ∷ []
  -- a message sent in the interval right above what is left of its sender is taken back with that interval, and sent again
  pub just_above : script 8 (input 1 1 10 ∷ save 1 ∷ input 0 1 (order_value 1 3) ∷ save 0 ∷ deliver 0 1 ∷ deliver 1 2 ∷ save 2 ∷ show 2 1 ∷ crash 1 ∷ recover ∷ look 2 ∷ deliver 1 2 ∷ deliver 0 1 ∷ deliver 1 2 ∷ [])
      ≡ ok (1 ∷ []) ∷ ok (1 ∷ []) ∷ ok (1 ∷ []) ∷ ok (1 ∷ []) ∷ ok (2 ∷ []) ∷ ok (1 ∷ []) ∷ ok (1 ∷ []) ∷ no 19 0 ∷ ok (1 ∷ []) ∷ ok (1 ∷ 1 ∷ 0 ∷ 0 ∷ 1 ∷ 0 ∷ []) ∷ ok (0 ∷ 0 ∷ 0 ∷ 0 ∷ 0 ∷ 0 ∷ []) ∷ no 16 0 ∷ ok (2 ∷ []) ∷ ok (1 ∷ []) ∷ []
