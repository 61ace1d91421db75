-- Which delivery a check lets through.
use Rattle.std.specs.Prelude.{◌≡◌, ℕ, Some}
use Rattle.std.specs.List.{slice_get}
use Rattle.lines.specs.Intervals.{Family, waiting}
use Rattle.tables.specs.Answers.{as_message}
use Rattle.checks.specs.declared.calls.Delivery.{Delivery}

-- from q to p, with the first message waiting there
abbrev pub Next : Family → ℕ → ℕ → Delivery → Type 0
Next F q p d = (d.source ≡ q) × (d.target ≡ p) × (slice_get (waiting F q p) 0 ≡ Some (as_message d.message))
