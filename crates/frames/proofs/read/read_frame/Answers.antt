use Rattle.std.proofs.Common.{◌≡◌, drop, true, Some, None, sym, ap, ◌∙◌, arith}
use Rattle.std.specs.Bool.{then_some}
use Rattle.std.proofs.lemmas.List.{drop_all, take_rest}
use Rattle.frames.specs.Reads.{decoded}
use Rattle.frames.proofs.Decoding.{tested, decoded_nil, strict_none, strict_either}
use Rattle.frames.proofs.read.read_frame.Goals as goal

pub returns-in_err-rest : goal.returns-in_err-rest
returns-in_err-rest c =
    let none : decoded (drop c.args.at c.args.bytes.now) ≡ None = ap decoded (drop_all c.args.at c.args.bytes.now (omega (arith, c.in_err-rest.ensures.lookup.0))) ∙ decoded_nil in
    rw c.from_residual.ensures (record { value = sym none; strict = strict_none _ none })

pub returns-then-starts_with : goal.returns-then-starts_with
returns-then-starts_with c =
    let x = c.candidate-record.result in
    let rest : c.in_ok-rest.rest.now ≡ drop c.args.at c.args.bytes.now = c.in_ok-rest.ensures.lookup.0.2 ∙ take_rest c.args.bytes.now c.args.at in
    let some : decoded (drop c.args.at c.args.bytes.now) ≡ Some x =
    ap decoded (sym rest) ∙ tested c.in_ok-rest.rest.now _ _ _ x _ c.candidate-record.ensures c.in_ok-size.ensures.1 c.starts_with.ensures.value
    ∙ ap (λ b. then_some b x) c.if-starts_with.true in
    record { value = sym some; strict = strict_either _ x true some c.in_ok-size.ensures.0 }

pub returns-else-starts_with : goal.returns-else-starts_with
returns-else-starts_with c =
    let x = c.candidate-record.result in
    let rest : c.in_ok-rest.rest.now ≡ drop c.args.at c.args.bytes.now = c.in_ok-rest.ensures.lookup.0.2 ∙ take_rest c.args.bytes.now c.args.at in
    let none : decoded (drop c.args.at c.args.bytes.now) ≡ None =
    ap decoded (sym rest) ∙ tested c.in_ok-rest.rest.now _ _ _ x _ c.candidate-record.ensures c.in_ok-size.ensures.1 c.starts_with.ensures.value
    ∙ ap (λ b. then_some b x) c.if-starts_with.false in
    record { value = sym none; strict = strict_none _ none }
