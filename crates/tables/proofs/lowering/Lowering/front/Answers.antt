use Rattle.std.proofs.Common.{length, take, sym, ◌∙◌, subst, arith}
use Rattle.std.specs.List.{All}
use Rattle.std.proofs.lemmas.List.Elements.{All-more, All-weaker}
use Rattle.std.proofs.lemmas.List.{take_all}
use Rattle.std.proofs.lemmas.Bool.{both_ways}
use Rattle.lines.specs.Lines.{Backed}
use Rattle.tables.specs.Answers.{line_of}
use Rattle.tables.specs.Tables.{processes}
use Rattle.tables.proofs.Lowered.{front_stops, front_whole, backed_above}
use Rattle.tables.proofs.lowering.Lowering.front.Goals as goal

pub returns-then-not-backs : goal.returns-then-not-backs
returns-then-not-backs c = record {
  longest = front_stops (processes c.args.self.now.table.now) (line_of c.args.self.now.line) c.args.xs.now c.loop-i.i _ c.loop-i-test.true c.loop-i.invariant.0
      (λ b. both_ways c.backs.result c.if-not-backs.true (c.backs.ensures.1 b));
  needs = c.loop-i.invariant.1;
}

pub loop-i-preserved : goal.loop-i-preserved
loop-i-preserved c =
    let n = processes c.args.self.now.table.now in let xs = c.args.xs.now in let i = c.loop-i.i in let here = c.loop-i-test.true in
    let before = line_of c.loop-i.needs in let after = line_of c.raise.new.needs in (
      All-more (Backed n (line_of c.args.self.now.line)) xs i _ here c.loop-i.invariant.0 (c.backs.ensures.0 c.if-not-backs.false),
      All-more (Backed n after) xs i _ here (All-weaker (Backed n before) (Backed n after) (λ x. backed_above n before after x (λ q _. c.raise.ensures.above q)) (take i xs) c.loop-i.invariant.1)
          (c.raise.ensures.backed n (omega arith)),
    )

pub returns : goal.returns
returns c =
    let xs = c.args.xs.now in let i = c.loop-i.i in let n = processes c.args.self.now.table.now in
    record {
      longest = front_whole n (line_of c.args.self.now.line) xs i c.loop-i-test.false c.loop-i.invariant.0;
      needs = subst (All (Backed n (line_of c.loop-i.needs))) (take_all i xs c.loop-i-test.false ∙ sym (take_all (length xs) xs (omega arith))) c.loop-i.invariant.1;
    }
