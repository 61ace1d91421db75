-- Outputs by their number.
use Rattle.std.specs.Prelude.{ℕ, zero, suc, List, None, Option}
use Rattle.std.specs.List.{slice_get}
use Rattle.records.specs.declared.Interval.{Interval}
use Rattle.lines.specs.Intervals.{outputs}

-- the outputs of the intervals are numbered from 1
abbrev pub nth_output : ℕ → List Interval → Option ℕ
nth_output zero xs = None
nth_output (suc n) xs = slice_get (outputs xs) n
