-- What a slice of what a run keeps stands for. No meaning rests on it. Assumes nothing.
use Rattle.std.specs.Prelude.{ℕ, List, [], ◌∷◌}

-- a slice of one stands for the numbers of that one, and one of another length for none
abbrev pub only : List (List ℕ) → List ℕ
only [] = []
only (x ∷ []) = x
only (x ∷ y ∷ ys) = []
