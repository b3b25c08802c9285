-- Laws of `tab`: one more at its end, a loop that fills a list from the front, and a map as a `tab`. Assumes nothing.
use Prim.Native.Nat.{ℕ, zero, suc, ◌+◌, ◌<◌}
use mathlib.Core.Path.{◌≡◌, refl, ap, ap₂}
use mathlib.Core.List.{List, [], ◌∷◌, ◌++◌, map}
use native.Mathlib.Numerals.{add-one}
use native.Mathlib.Omega.{arith}
use lib.ListN.{length, get_or, set, drop}
use Rattle.lists.specs.Lists.{tab}

module _ {A : Type 0} where
  -- one more, at the end
  pub tab_more : (n : ℕ) (f : ℕ → A) → tab (suc n) f ≡ tab n f ++ (f n ∷ [])
  unfolding tab
  tab_more zero f = refl
  tab_more (suc n) f = ap (λ l. f zero ∷ l) (tab_more n (λ i. f (suc i)))

  pub tab_ext : (n : ℕ) (f g : ℕ → A) → ((i : ℕ) → i < n → f i ≡ g i) → tab n f ≡ tab n g
  unfolding tab
  tab_ext zero f g h = refl
  tab_ext (suc n) f g h = ap₂ ◌∷◌ (h zero (omega arith)) (tab_ext n (λ i. f (suc i)) (λ i. g (suc i)) (λ i l. h (suc i) (omega arith)))

  -- a list filled from the front, one store a turn: after n turns it is `tab n f ++ drop n d`
  pub tab_fill_none : (f : ℕ → A) (d : List A) → d ≡ tab 0 f ++ drop 0 d
  unfolding tab
  tab_fill_none f d = refl

  fill_suc : (n : ℕ) (f : ℕ → A) (d : List A) → n < length d → set (tab n f ++ drop n d) n (f n) ≡ tab (suc n) f ++ drop (suc n) d
  unfolding tab
  fill_suc n f [] h = absurd (omega arith)
  fill_suc zero f (x ∷ d) h = refl
  fill_suc (suc n) f (x ∷ d) h = ap (λ l. f zero ∷ l) (fill_suc n (λ i. f (suc i)) d (omega arith))

  pub tab_fill_more : (n : ℕ) (f : ℕ → A) (d : List A) → n < length d → set (tab n f ++ drop n d) n (f n) ≡ tab (n + 1) f ++ drop (n + 1) d
  tab_fill_more n f d h = rw add-one (fill_suc n f d h)

-- a map, by number
pub map_is : {A B : Type 0} (f : A → B) (d : A) (xs : List A) → map f xs ≡ tab (length xs) (λ i. f (get_or xs i d))
unfolding tab
map_is f d [] = refl
map_is f d (x ∷ xs) = ap (λ l. f x ∷ l) (map_is f d xs)
