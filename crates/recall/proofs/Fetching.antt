-- The records of a store and their numbers.
use Rattle.std.proofs.Common.{◌≡◌, ℕ, ◌+◌, List, [], ◌∷◌, map, refl, ap}
use Rattle.std.specs.List.{enumerate_from}

-- the items without their numbers
pub unnumbered : {X : Type 0} (n : ℕ) (xs : List X) → map (λ (x : ℕ × X). x.1) (enumerate_from n xs) ≡ xs
unnumbered n [] = refl
unnumbered n (x ∷ xs) = ap (λ ys. x ∷ ys) (unnumbered (n + 1) xs)
