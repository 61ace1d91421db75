use Rattle.std.proofs.Common.{◌≡◌, ◌-◌, [], ◌++◌, length, take, drop, replicate, ap, ◌∙◌, append-nil, arith}
use Rattle.std.proofs.lemmas.List.{drop_all, length-drop, take_rest}
use Rattle.byte_store.proofs.journal.zero.Goals as goal

pub returns : goal.returns
returns c =
    let bs = c.args.bytes.now in
    let from = c.args.from in
    let n = length bs - from in
    let size : length (take n (drop from bs)) ≡ n = ap length (take_rest bs from) ∙ length-drop from bs in
    let filled : c.fill.new.self ≡ replicate n 0 = c.fill.ensures.after (λ y e. e) ∙ ap (λ k. replicate k 0) size in
    let none : drop n (drop from bs) ≡ [] = drop_all n (drop from bs) (omega (arith, length-drop from bs)) in
    ap (λ ys. take from bs ++ (ys ++ drop n (drop from bs))) filled
    ∙ ap (λ ys. take from bs ++ (replicate n 0 ++ ys)) none
    ∙ ap (λ ys. take from bs ++ ys) (append-nil (replicate n 0))
