-- One part written after another is their join written.
use Rattle.std.proofs.Common.{◌≡◌, ℕ, ◌+◌, ◌-◌, List, ◌++◌, take, drop, sym, ap, ◌∙◌, subst, append_assoc, arith}
use Rattle.std.proofs.lemmas.List.{length-append, drop-drop}
use Rattle.frames.specs.Frames.{Wrote}
use Rattle.frames.specs.Inside.{Puts}
use Rattle.frames.specs.declared.write.Pen.{Pen}

pub then : {was mid out : List ℕ} {at stop end : ℕ} {p q : List ℕ} → Wrote was at p mid stop → Wrote mid stop q out end → Wrote was at (p ++ q) out end
then {was} {mid} {out} {at} {stop} {end} {p} {q} a b =
    record {
      stop = omega (arith, a.stop, b.stop, length-append p q);
      front = b.front ∙ ap (λ xs. xs ++ q) a.front ∙ append_assoc (take at was) p q;
      back =
          let e : end ≡ stop + (end - stop) = omega (arith, b.stop) in
          b.back
          ∙ ap (λ n. drop n mid) e ∙ sym (drop-drop (end - stop) stop mid)
          ∙ ap (λ xs. drop (end - stop) xs) a.back
          ∙ drop-drop (end - stop) stop was ∙ ap (λ n. drop n was) (sym e);
    }

-- the same of a pen
pub puts : {a b c : Pen} {p q : List ℕ} → Puts a p b → Puts b q c → Puts a (p ++ q) c
puts x y = record { lent = y.lent ∙ x.lent; room = y.room ∙ x.room; wrote = then x.wrote y.wrote }

-- the same bytes under another name
pub same_part : {a b : Pen} {p q : List ℕ} → p ≡ q → Puts a p b → Puts a q b
same_part {a} {b} e x = let P : List ℕ → Type 0 = λ xs. Puts a xs b in subst P e x
