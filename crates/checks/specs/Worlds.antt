-- A table, whether the host is dark, and a store, as the world of a host.
use Rattle.std.specs.Prelude.{ℕ, Bool, List, length, take, if◌then◌else◌}
use Rattle.stores.specs.Meaning as store
use Rattle.lines.specs.Intervals.{outputs}
use Rattle.lines.specs.Lines.{Line, greatest_line}
use Rattle.tables.specs.Tables.{processes, family, row_of}
use Rattle.tables.specs.declared.table.Table.{Table}
use Rattle.histories.specs.Calls.{Call}
use Rattle.histories.specs.Tests.{Test, tests}
use Rattle.histories.specs.World.{World}
use Rattle.checks.specs.declared.state.HostState.{HostState}

abbrev pub world_of : Table → Bool → store.Meaning → World
world_of t dark m = record {
  intervals = λ p. (row_of t p).intervals;
  saved = λ p. (row_of t p).saved;
  up = λ p. (row_of t p).up;
  state = λ p. (row_of t p).state;
  dark = dark;
  store = m;
}

-- the outputs of process p up to the committed line
abbrev pub committed_outputs : Table → ℕ → List ℕ
committed_outputs t p = outputs (take (greatest_line (processes t) (family t) (λ q. (row_of t q).saved) p) (row_of t p).intervals)

-- the tests of a call of a host in this state, over a store
abbrev pub tests_of : HostState → store.Meaning → Call → List Test
tests_of s m c = tests (processes s.table) (world_of s.table s.dark m) c

-- what a recovery may go back to: the saved count of a down process, the number of intervals of an up one
abbrev pub left_of : Table → Line
left_of t p = if (row_of t p).up then length (row_of t p).intervals else (row_of t p).saved
