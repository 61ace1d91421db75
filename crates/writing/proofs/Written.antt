-- A write, step by step.
use Rattle.std.proofs.Common.{◌≡◌, ℕ, Ok, Err, sym, ap}
use Rattle.stores.specs.Calls.{Outcome}
use Rattle.stores.specs.Meaning.{Meaning}
use Rattle.histories.specs.Effects.{then}

-- after a step that was accepted the next is made, and after one that was refused none
pub then_ok : {o : Outcome (Unit {0})} {m : Meaning} (k : Meaning → Outcome (Unit {0})) → (Ok tt, m) ≡ o → then o k ≡ k m
then_ok k e = ap (λ p. then p k) (sym e)

pub then_err : {o : Outcome (Unit {0})} {m : Meaning} {n : ℕ} (k : Meaning → Outcome (Unit {0})) → (Err n, m) ≡ o → then o k ≡ (Err n, m)
then_err k e = ap (λ p. then p k) (sym e)
