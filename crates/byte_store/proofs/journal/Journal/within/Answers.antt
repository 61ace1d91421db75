use Rattle.std.proofs.Common.{ℕ, ◌+◌, ◌-◌, Bool, leb, get_or, take, drop, sym, arith, rules}
use Rattle.std.proofs.lemmas.List.Sorted.{IsPartitionedBy-leb, IsPartitionPoint-from_clause}
use Rattle.byte_store.proofs.Walks.{rises, stood}
use Rattle.byte_store.proofs.journal.Journal.within.Goals as goal

pub returns-clause-value : goal.returns-clause-value
returns-clause-value c =
    let j = c.args.self.now in
    let safe = c.args.safe in
    let from = get_or j.ends safe 0 in
    let others = take ((j.count + 1) - (safe + 1)) (drop (safe + 1) j.ends) in
    let test : ℕ → Bool = λ y. leb (y - from) c.args.j in
    let point =
    IsPartitionPoint-from_clause test others c.partition_point.result c.partition_point.ensures.partitioned
    (IsPartitionedBy-leb (λ y. y - from) others c.args.j (rises j.exact safe (omega (arith, j.exact.number)) (omega arith)))
    (λ a r f h. search rules) in
    sym (stood j.exact safe (omega (arith, j.exact.number)) (omega arith) c.args.j _ c.partition_point.ensures.bound point)
