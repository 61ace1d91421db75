-- The rows of a table from its processes on.
use Rattle.std.proofs.Common.{◌≡◌, ℕ, ◌≤◌, ltb, map, get_or}
use Rattle.std.proofs.lemmas.Bool.{cond-false, le-ltb}
use Rattle.rows.specs.Rows.{held}
use Rattle.tables.specs.Tables.{processes, row_of, idle}
use Rattle.tables.specs.declared.table.Table.{Table}

-- what is no process is idle
pub row_idle : (t : Table) (p : ℕ) → processes t ≤ p → row_of t p ≡ idle
row_idle t p h = cond-false (ltb p (processes t)) (get_or (map held t.rows) p idle) idle (le-ltb p (processes t) h)
