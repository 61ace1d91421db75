-- What is written behind the intervals.
use Rattle.std.specs.Prelude.{ℕ, List, [], ◌∷◌, Some, None, Option}
use Rattle.records.specs.declared.Content.{Content}
use Rattle.records.specs.declared.Content.TheVariants.{Line}
use Rattle.records.specs.declared.Record.{Record}

abbrev pub recorded_line : List ℕ → Record
recorded_line entries = record { content = Line entries }

-- the record behind the intervals, if there is one
abbrev pub last_record : Option Content → List Record
last_record None = []
last_record (Some x) = record { content = x } ∷ []
