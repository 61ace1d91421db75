use Rattle.std.proofs.Common.{arith}
use Rattle.byte_store.proofs.Filed.{push_written, push_low, push_records, push_exact}
use Rattle.byte_store.proofs.journal.JournalMedium.push.Goals as goal

pub unwrap-end-requires : goal.unwrap-end-requires
unwrap-end-requires c = push_written _ _ _ _ _ _ _ _ c.args.self.now.exact c.requires c.end-at.ensures c.write_frame.ensures

pub overflow_cast-self : goal.overflow_cast-self
overflow_cast-self c =
    let end = push_low _ _ _ _ _ _ _ _ c.args.self.now.exact c.requires c.end-at.ensures c.write_frame.ensures _ c.unwrap-end.ensures in
    omega arith

pub invariant_of-self : goal.invariant_of-self
invariant_of-self c = record {
  bounded = omega arith;
  exact =
      push_exact _ _ _ _ _ _ _ _ c.args.self.now.exact c.requires c.end-at.ensures c.write_frame.ensures _ c.unwrap-end.ensures (omega arith) c.write_frame.auto.out;
}

pub returns-clause-records : goal.returns-clause-records
returns-clause-records c =
    push_records _ _ _ _ _ _ _ _ c.args.self.now.exact c.requires c.end-at.ensures c.write_frame.ensures _ c.unwrap-end.ensures (omega arith) c.write_frame.auto.out
