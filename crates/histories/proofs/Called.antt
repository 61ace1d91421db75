-- A call that keeps to its rule keeps every other promise.
use Rattle.std.proofs.Common.{ℕ, ◌≤◌, [], ◌∷◌, ◌++◌}
use Rattle.programs.specs.Program.{Meaning}
use Rattle.histories.specs.Called.{Tied, Reached, Called}
use Rattle.histories.specs.History.{Does, goes_on}
use Rattle.histories.specs.Ledger.{Event}
use Rattle.histories.specs.World.{World}
use Rattle.histories.proofs.Histories.{holds_at}
use Rattle.histories.proofs.Remembered.{kept_whole}

module _ (M : Meaning) (N : ℕ) (few : N ≤ 8) where
  pub tied : {w : World} → Reached M N w → Tied M w
  tied {w} r =
      let at = holds_at (Unit {0}) (Unit {0}) M N few r.made r.history in
      record {
        states = at.1.rows.states tt;
        checkpoints = (kept_whole (Unit {0}) M N at.0 (λ p. 0) w.store.records w.store.safe at.1.stored.safe at.1.stored.remembered).checks tt;
      }

  pub called : {w : World} {e : Event} {v : World} → Does M N w e v → Called M N w e v
  called {w} {e} {v} does = record {
    does = does;
    goes_on = λ first es h. goes_on h e v does;
    stays_made = λ r.
        let later : Reached M N v = record { first = r.first; made = r.made; events = r.events ++ (e ∷ []); history = goes_on r.history e v does } in
        (later, tied later);
  }
