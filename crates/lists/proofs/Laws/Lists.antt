-- Laws of tests and choices over lists, and of positions in a list that a number orders. Assumes nothing.
use Prim.Native.Nat.{ℕ, zero, suc, ◌≤◌, ◌<◌}
use mathlib.Core.Path.{◌≡◌, refl, ◌∙◌, ap}
use mathlib.Core.Bool.{Bool, true, false, not}
use mathlib.Core.List.{List, [], ◌∷◌}
use native.Mathlib.Omega.{arith}
use borrow.Author.Tests.{not-true}
use lib.ListN.{length, get_or}
use Rattle.lists.proofs.Laws.Range.{and_left, and_right, and_both}
use Rattle.lists.specs.Lists.{every, select, tab}

-- a Bool with the equation that says what it is
pub data Truth (b : Bool) : Type 0 where
  holds : b ≡ true → Truth b
  fails : b ≡ false → Truth b

pub truth : (b : Bool) → Truth b
truth true = holds refl
truth false = fails refl

module _ {A : Type 0} (p : A → Bool) where
  -- `every`, taken apart and put together
  pub every_each : (d : A) (xs : List A) → every p xs ≡ true → (i : ℕ) → i < length xs → p (get_or xs i d) ≡ true
  unfolding every
  every_each d [] e i h = absurd (omega arith)
  every_each d (x ∷ xs) e zero h = and_left (p x) (every p xs) e
  every_each d (x ∷ xs) e (suc i) h = every_each d xs (and_right (p x) (every p xs) e) i (omega arith)

  pub every-all : (d : A) (xs : List A) → ((i : ℕ) → i < length xs → p (get_or xs i d) ≡ true) → every p xs ≡ true
  unfolding every
  every-all d [] f = refl
  every-all d (x ∷ xs) f =
      and_both (p x) (every p xs) (f zero (omega arith)) (every-all d xs (λ i h. f (suc i) (omega arith)))

  -- `select`, at an element that passes and at one that does not
  pub select_yes : (x : A) (xs : List A) → p x ≡ true → select p (x ∷ xs) ≡ x ∷ select p xs
  unfolding select
  select_yes x xs e = rw e

  pub select_no : (x : A) (xs : List A) → p x ≡ false → select p (x ∷ xs) ≡ select p xs
  unfolding select
  select_no x xs e = rw e

  pub select_passes : (xs : List A) → every p (select p xs) ≡ true
  unfolding every select
  select_passes [] = refl
  select_passes (x ∷ xs) = elim (truth (p x)) [
    | holds e ↦ rw (select_yes x xs e) (and_both (p x) (every p (select p xs)) e (select_passes xs))
    | fails e ↦ rw (select_no x xs e) (select_passes xs)
  ]

  pub select-length : (xs : List A) → length (select p xs) ≤ length xs
  unfolding select
  select-length [] = omega arith
  select-length (x ∷ xs) = elim (truth (p x)) [
    | holds e ↦ rw (select_yes x xs e) (omega (arith, select-length xs))
    | fails e ↦ rw (select_no x xs e) (omega (arith, select-length xs))
  ]

  -- where each element passes nothing is left out
  pub select-all : (xs : List A) → every p xs ≡ true → select p xs ≡ xs
  unfolding every
  select-all [] e = unfold select in refl
  select-all (x ∷ xs) e =
      select_yes x xs (and_left (p x) (every p xs) e) ∙ ap (λ l. x ∷ l) (select-all xs (and_right (p x) (every p xs) e))

  -- where none passes nothing is left
  pub select_none : (xs : List A) → every (λ x. not (p x)) xs ≡ true → select p xs ≡ []
  unfolding every
  select_none [] e = unfold select in refl
  select_none (x ∷ xs) e =
      select_no x xs (not-true (p x) (and_left (not (p x)) _ e)) ∙ select_none xs (and_right (not (p x)) _ e)

-- what each element passes, each chosen one passes
module _ {A : Type 0} (p q : A → Bool) where
  pub every-select : (xs : List A) → every q xs ≡ true → every q (select p xs) ≡ true
  unfolding every select
  every-select [] e = refl
  every-select (x ∷ xs) e = elim (truth (p x)) [
    | holds t ↦ rw (select_yes p x xs t) (and_both (q x) _ (and_left (q x) (every q xs) e) (every-select xs (and_right (q x) (every q xs) e)))
    | fails t ↦ rw (select_no p x xs t) (every-select xs (and_right (q x) (every q xs) e))
  ]

-- `tab`, by number
pub length-tab : {A : Type 0} (n : ℕ) (f : ℕ → A) → length (tab n f) ≡ n
unfolding tab
length-tab zero f = refl
length-tab (suc n) f = ap suc (length-tab n (λ i. f (suc i)))

pub get_d_tab : {A : Type 0} (d : A) (n : ℕ) (f : ℕ → A) (i : ℕ) → i < n → get_or (tab n f) i d ≡ f i
unfolding tab
get_d_tab d zero f i h = absurd (omega arith)
get_d_tab d (suc n) f zero h = refl
get_d_tab d (suc n) f (suc i) h = get_d_tab d n (λ i. f (suc i)) i (omega arith)
