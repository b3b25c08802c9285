-- Lists kept in order, and lists changed at one place. Assumes nothing.
-- Laws (`proofs/Laws/Changed`): elements of different keys are put in in either order, and changes at two places are made in either.
use Rattle.std.specs.Prelude.{ℕ, zero, suc, cond, List, [], ◌∷◌, ltb}

-- x among elements that rise by `key`: before the first that is greater
unfoldable pub inserted : {A : Type 0} → (A → ℕ) → A → List A → List A
inserted key x [] = x ∷ []
inserted key x (y ∷ ys) = cond (ltb (key x) (key y)) (x ∷ y ∷ ys) (y ∷ inserted key x ys)

-- f done to the element at place i, where there is one
unfoldable pub modify : {A : Type 0} → ℕ → (A → A) → List A → List A
modify i f [] = []
modify zero f (x ∷ xs) = f x ∷ xs
modify (suc i) f (x ∷ xs) = x ∷ modify i f xs

-- the last element, or v where there is none
unfoldable pub last_or : {A : Type 0} → A → List A → A
last_or v [] = v
last_or v (x ∷ xs) = last_or x xs
