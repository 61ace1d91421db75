-- An input and the deliveries after it are one list of moves.
use Rattle.std.proofs.Common.{◌≡◌, ℕ, ◌≤◌, List, [], ◌∷◌, ◌++◌, length, drop, Ok, Err, Result, sym, ap, ◌∙◌, subst, inr, arith}
use Rattle.std.proofs.lemmas.List.{append_assoc, length-append, drop_at}
use Rattle.programs.specs.Orders.{orders}
use Rattle.programs.specs.Program.{Meaning}
use Rattle.runs.specs.Answers.{Advanced, Delivered, Settles, Grown}
use Rattle.runs.specs.Run.{Configuration, Fresh, Run, Move, Makes, Leads, stays, goes_on}
use Rattle.runs.specs.declared.runner.Output.{Output}
use Rattle.runs.specs.declared.runner.RunError.{RunError}
use Rattle.runs.specs.declared.runner.RunError.TheVariants.{ProcessCount, NoSuchProcess, NothingWaiting, Unsettled, Memory}
use Rattle.days.specs.Events.{told}
use Rattle.days.specs.Shop.{Carried, Carries, Told, input, standing, issued, pieces_left}
use Rattle.days.specs.declared.entry.Entry.{Entry}
use Rattle.days.specs.declared.event.Event.{Event}
use Rattle.days.specs.declared.shop.Shop.{Shop}

-- a run begins with no move
pub begun : (M : Meaning) (N : ℕ) (c : Configuration) → Fresh M N c → Run M N [] c
begun M N c fresh = (c, (fresh, stays))

leads_first : {M : Meaning} {N : ℕ} (m : Move) {ms : List Move} {a b c : Configuration} → Makes M N m a b → Leads M N ms b c → Leads M N (m ∷ ms) a c
leads_first m first stays = goes_on stays m first
leads_first m first (goes_on before n move) = goes_on (leads_first m first before) n move

module _ (e : Entry) (a b c : Shop) (first : Advanced orders (input e) a.run b.run) where
  carried : (ms : List Move) → Delivered orders ms b.run c.run → Carried e ms a c
  carried ms rest = record {
    deliveries = rest.deliveries;
    moves = leads_first (input e) (subst (λ n. Makes orders n (input e) (standing a) (standing b)) a.three first.move)
        (subst (λ n. Leads orders n ms (standing b) (standing c)) b.three rest.moves);
    grown = (
      first.grown.0 ++ rest.grown.0,
      rest.grown.1 ∙ ap (λ os. os ++ rest.grown.0) first.grown.1 ∙ append_assoc (issued a) first.grown.0 rest.grown.0,
    );
  }

  pub carries : (limit : ℕ) (r : Result (Unit {0}) RunError) → Settles orders limit b.run c.run r → Carries limit e a c r
  carries limit (Ok _) s = (s.0, (carried s.0 s.1.0, s.1.2))
  carries limit (Err ProcessCount) s = s
  carries limit (Err NoSuchProcess) s = s
  carries limit (Err NothingWaiting) s = s
  carries limit (Err Unsettled) s = (s.0, (carried s.0 s.1.0, s.1.1, s.1.2))
  carries limit (Err Memory) s = inr (s.0, carried s.0 s.1.0)

pub longer : (before after : List Output) (os : List Output) → after ≡ before ++ os → length before ≤ length after
longer before after os e = omega (arith, simp length-append at (ap length e))
