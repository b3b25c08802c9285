-- Tests and choices over lists. Assumes nothing.
use Rattle.std.specs.Prelude.{ℕ, zero, suc, Bool, true, cond, ◌&&◌, List, [], ◌∷◌, ◌++◌, leb, eqb, ltb, length}

-- each element passes
unfoldable pub every : {A : Type 0} → (A → Bool) → List A → Bool
every p [] = true
every p (x ∷ xs) = p x && every p xs

-- the elements that pass, in their order
unfoldable pub select : {A : Type 0} → (A → Bool) → List A → List A
select p [] = []
select p (x ∷ xs) = cond (p x) (x ∷ select p xs) (select p xs)

-- f never falls from one element to the next, and is at least b at the first
unfoldable pub rising_from : {A : Type 0} → (A → ℕ) → ℕ → List A → Bool
rising_from f b [] = true
rising_from f b (x ∷ xs) = leb b (f x) && rising_from f (f x) xs

-- f is n, n + 1, n + 2 .. at the elements in turn
unfoldable pub counts_from : {A : Type 0} → (A → ℕ) → ℕ → List A → Bool
counts_from f n [] = true
counts_from f n (x ∷ xs) = eqb (f x) n && counts_from f (suc n) xs

-- f 0, f 1, .. f (n − 1)
unfoldable pub tab : {A : Type 0} → ℕ → (ℕ → A) → List A
tab zero f = []
tab (suc n) f = f zero ∷ tab n (λ i. f (suc i))

-- the lists one after the other
unfoldable pub joined : {A : Type 0} → List (List A) → List A
joined [] = []
joined (x ∷ xs) = x ++ joined xs

-- how many elements are below k by f
abbrev pub count_below : {A : Type 0} → (A → ℕ) → ℕ → List A → ℕ
count_below f k xs = length (select (λ x. ltb (f x) k) xs)
