-- Tests of a list as tests of the numbers of its elements. Assumes nothing.
use Prim.Native.Nat.{ℕ, zero, suc, ◌+◌, ◌<◌}
use mathlib.Core.Path.{◌≡◌, refl, sym, ◌∙◌, ap₂}
use mathlib.Core.Bool.{Bool, ◌&&◌, and-true, and_assoc}
use mathlib.Core.List.{List, [], ◌∷◌}
use native.Mathlib.Nat.{add-zero, add-suc, zero-add, suc-add}
use native.Mathlib.Omega.{arith}
use lib.Dec.{eqb}
use lib.ListN.{length, get_or}
use Rattle.lists.specs.Range.{all}
use Rattle.lists.specs.Lists.{every, counts_from}

-- `all`, from its first number on, and of two tests that agree
pub all_first : (n : ℕ) (p : ℕ → Bool) → all (suc n) p ≡ (p zero && all n (λ i. p (suc i)))
unfolding all
all_first zero p = sym (and-true (p zero))
all_first (suc n) p = rw (all_first n p) (and_assoc (p zero) (all n (λ i. p (suc i))) (p (suc n)))

pub all_ext : (n : ℕ) (p q : ℕ → Bool) → ((i : ℕ) → i < n → p i ≡ q i) → all n p ≡ all n q
unfolding all
all_ext zero p q f = refl
all_ext (suc n) p q f = ap₂ ◌&&◌ (all_ext n p q (λ i h. f i (omega arith))) (f n (omega arith))

-- tests of a list, by number
module _ {A : Type 0} (d : A) where
  pub every_is : (p : A → Bool) (xs : List A) → every p xs ≡ all (length xs) (λ i. p (get_or xs i d))
  unfolding every
  every_is p [] = unfold all in refl
  every_is p (x ∷ xs) = rw (every_is p xs) (sym (all_first (length xs) (λ i. p (get_or (x ∷ xs) i d))))

  counts_from_lem : (f : A → ℕ) (n : ℕ) (xs : List A) → counts_from f n xs ≡ all (length xs) (λ i. eqb (f (get_or xs i d)) (n + i))
  unfolding counts_from
  counts_from_lem f n [] = unfold all in refl
  counts_from_lem f n (x ∷ xs) =
      rw (counts_from_lem f (suc n) xs) (simp suc-add (sym (simp (add-zero, add-suc) at (all_first (length xs) (λ i. eqb (f (get_or (x ∷ xs) i d)) (n + i))))))

  pub counts_is : (f : A → ℕ) (xs : List A) → counts_from f 0 xs ≡ all (length xs) (λ i. eqb (f (get_or xs i d)) i)
  counts_is f xs = counts_from_lem f 0 xs ∙ simp zero-add
