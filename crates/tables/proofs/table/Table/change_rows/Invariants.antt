use Rattle.std.proofs.Common.{◌≡◌, ℕ, length}
use Rattle.rows.specs.Rows.{Held, held}
use Rattle.tables.proofs.Families.{Reached}
use Rattle.tables.proofs.table.Table.change_rows.Given as goal

abbrev pub invariant-loop-p : goal.invariant-loop-p
invariant-loop-p g l =
    (length l.rows ≡ 8)
    × ((f : ℕ → Held → Held) → ((p : ℕ) (a b : _) → goal.F-post g l.fn.change p a tt b → held b.now ≡ f p (held a.now)) → Reached f l.initial.rows l.rows l.p)
