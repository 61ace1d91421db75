use Rattle.std.proofs.Common.{arith}
use Rattle.byte_store.proofs.Filed.{cut_exact}
use Rattle.byte_store.proofs.journal.JournalMedium.cut.Goals as goal

pub invariant_of-self : goal.invariant_of-self
invariant_of-self c =
    let j = c.args.self.now in
    record {
      bounded = omega (arith, j.bounded, j.exact.number);
      exact = cut_exact _ _ _ _ _ _ j.exact (omega arith) c.zero.ensures;
    }
