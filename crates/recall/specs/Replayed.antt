-- What a replay leads to.
use Rattle.std.specs.Prelude.{ℕ, List, fold}
use Rattle.programs.specs.Program.{Meaning}
use Rattle.programs.specs.declared.values.State.{State}
use Rattle.records.specs.declared.Interval.{Interval}

-- the state of process p after one interval more
abbrev pub played : Meaning → ℕ → State → Interval → State
played M p s x = (M.step p s x.source x.value).0

-- the intervals of process p, played one after the other from a state
abbrev pub replayed : Meaning → ℕ → State → List Interval → State
replayed M p from xs = fold (played M p) from xs
