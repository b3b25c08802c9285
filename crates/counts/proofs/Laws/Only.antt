-- What a slice of one stands for. Assumes nothing.
use Rattle.std.proofs.Common.{ℕ, List, [], ◌∷◌, ◌≡◌, refl, length, get_or, arith}
use Rattle.counts.specs.Only.{only}

-- the numbers of its first element
pub only_first : (xs : List (List ℕ)) (d : List ℕ) → length xs ≡ 1 → only xs ≡ get_or xs 0 d
only_first [] d h = absurd (omega (arith, h))
only_first (x ∷ []) d h = refl
only_first (x ∷ y ∷ ys) d h = absurd (omega (arith, h))

-- of more than one none are asked
pub only_more : (x y : List ℕ) (ys : List (List ℕ)) → only (x ∷ y ∷ ys) ≡ []
only_more x y ys = refl
