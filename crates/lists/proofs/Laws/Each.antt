-- What holds of each element of a list, and of each two, when one is put in or the end is cut off. Assumes nothing.
use Prim.Native.Nat.{ℕ, zero, suc, ◌≤◌}
use mathlib.Core.Path.{◌≡◌, refl, ap}
use mathlib.Core.Bool.{Bool, true}
use mathlib.Core.List.{List, [], ◌∷◌, ◌++◌, map}
use native.Mathlib.Omega.{arith}
use borrow.Author.Tests.{ltb-true, ltb-false}
use lib.Dec.{ltb}
use lib.ListN.{take}
use Rattle.lists.proofs.Laws.Range.{and_left, and_right, and_both}
use Rattle.lists.specs.Lists.{every}
use Rattle.lists.proofs.Laws.Lists.{holds, fails, truth}
use Rattle.lists.specs.Changed.{inserted}
use Rattle.lists.specs.Each.{Each, Pairwise}

module _ {A : Type 0} where
  pub each_map : (P Q : A → Type 0) → ((x : A) → P x → Q x) → (xs : List A) → Each P xs → Each Q xs
  unfolding Each
  each_map P Q f [] e = tt
  each_map P Q f (x ∷ xs) e = (f x e.0, each_map P Q f xs e.1)

  pub each_any : (P : A → Type 0) → ((x : A) → P x) → (xs : List A) → Each P xs
  unfolding Each
  each_any P f [] = tt
  each_any P f (x ∷ xs) = (f x, each_any P f xs)

  pub each_append : (P : A → Type 0) (xs ys : List A) → Each P xs → Each P ys → Each P (xs ++ ys)
  unfolding Each
  each_append P [] ys e g = g
  each_append P (x ∷ xs) ys e g = (e.0, each_append P xs ys e.1 g)

  -- two facts of each element
  pub each_both : (P Q R : A → Type 0) → ((x : A) → P x → Q x → R x) → (xs : List A) → Each P xs → Each Q xs → Each R xs
  unfolding Each
  each_both P Q R f [] e g = tt
  each_both P Q R f (x ∷ xs) e g = (f x e.0 g.0, each_both P Q R f xs e.1 g.1)

  -- of each element of one list and each of another, in either order
  pub each_swap : (R S : A → A → Type 0) → ((x y : A) → R x y → S y x) → (xs ys : List A) → Each (λ x. Each (R x) ys) xs → Each (λ y. Each (S y) xs) ys
  unfolding Each
  each_swap R S f xs [] e = tt
  each_swap R S f xs (y ∷ ys) e = (
    each_map (λ x. Each (R x) (y ∷ ys)) (S y) (λ x r. f x y r.0) xs e,
    each_swap R S f xs ys (each_map (λ x. Each (R x) (y ∷ ys)) (λ x. Each (R x) ys) (λ x r. r.1) xs e),
  )

  pub each_take : (P : A → Type 0) (n : ℕ) (xs : List A) → Each P xs → Each P (take n xs)
  unfolding Each
  each_take P zero xs e = tt
  each_take P (suc n) [] e = tt
  each_take P (suc n) (x ∷ xs) e = (e.0, each_take P n xs e.1)

  pub pairwise_take : (R : A → A → Type 0) (n : ℕ) (xs : List A) → Pairwise R xs → Pairwise R (take n xs)
  unfolding Pairwise
  pairwise_take R zero xs e = tt
  pairwise_take R (suc n) [] e = tt
  pairwise_take R (suc n) (x ∷ xs) e = (each_take (R x) n xs e.0, pairwise_take R n xs e.1)

  module _ (key : A → ℕ) where
    pub each_inserted : (P : A → Type 0) (x : A) → P x → (ys : List A) → Each P ys → Each P (inserted key x ys)
    unfolding Each inserted
    each_inserted P x p [] e = (p, tt)
    each_inserted P x p (y ∷ ys) e = elim (truth (ltb (key x) (key y))) [
      | holds h ↦ rw h (p, e)
      | fails h ↦ rw h (e.0, each_inserted P x p ys e.1)
    ]

    pub pairwise_inserted : (R : A → A → Type 0) → ((x y : A) → R x y → R y x) → (x : A) (ys : List A) → Each (R x) ys → Pairwise R ys → Pairwise R (inserted key x ys)
    unfolding Each Pairwise inserted
    pairwise_inserted R s x [] e w = (tt, tt)
    pairwise_inserted R s x (y ∷ ys) e w = elim (truth (ltb (key x) (key y))) [
      | holds h ↦ rw h (e, w)
      | fails h ↦ rw h (each_inserted (R y) x (s x y e.0) ys w.0, pairwise_inserted R s x ys e.1 w.1)
    ]

-- what is made of each element
pub each_made : {A B : Type 0} (f : A → B) (P : B → Type 0) (xs : List A) → Each (λ x. P (f x)) xs → Each P (map f xs)
unfolding Each
each_made f P [] e = tt
each_made f P (x ∷ xs) e = (e.0, each_made f P xs e.1)

-- a list that rises still does when an element is put in
pub rising_inserted : {A : Type 0} (key : A → ℕ) (x : A) (ys : List A) → Pairwise (λ a b. key a ≤ key b) ys → Pairwise (λ a b. key a ≤ key b) (inserted key x ys)
unfolding Each Pairwise inserted
rising_inserted key x [] w = (tt, tt)
rising_inserted key x (y ∷ ys) w = elim (truth (ltb (key x) (key y))) [
  | holds h ↦
      let less = ltb-true (key x) (key y) h in
      rw h ((omega (arith, less), each_map (λ b. key y ≤ key b) (λ b. key x ≤ key b) (λ b g. omega (arith, less, g)) ys w.0), w)
  | fails h ↦
      rw h (each_inserted key (λ b. key y ≤ key b) x (ltb-false (key x) (key y) h) ys w.0, rising_inserted key x ys w.1)
]

-- each element passes a test
pub every_is : {A : Type 0} (t : A → Bool) (P : A → Type 0) → ((x : A) → t x ≡ true → P x) → (xs : List A) → every t xs ≡ true → Each P xs
unfolding Each every
every_is t P f [] e = tt
every_is t P f (x ∷ xs) e = (f x (and_left (t x) (every t xs) e), every_is t P f xs (and_right (t x) (every t xs) e))

pub is_every : {A : Type 0} (t : A → Bool) (P : A → Type 0) → ((x : A) → P x → t x ≡ true) → (xs : List A) → Each P xs → every t xs ≡ true
unfolding Each every
is_every t P f [] e = refl
is_every t P f (x ∷ xs) e = and_both (t x) (every t xs) (f x e.0) (is_every t P f xs e.1)

-- a list put in order and then mapped, or mapped first
pub inserted-map : {A B : Type 0} (key : A → ℕ) (key' : B → ℕ) (f : A → B) → ((x : A) → key' (f x) ≡ key x) → (x : A) (ys : List A) → map f (inserted key x ys) ≡ inserted key' (f x) (map f ys)
unfolding inserted
inserted-map key key' f q x [] = refl
inserted-map key key' f q x (y ∷ ys) = elim (truth (ltb (key x) (key y))) [
  | holds h ↦ rw (q x, q y, h) refl
  | fails h ↦ rw (q x, q y, h) (ap (λ l. f y ∷ l) (inserted-map key key' f q x ys))
]

pub take-map : {A B : Type 0} (f : A → B) (n : ℕ) (xs : List A) → map f (take n xs) ≡ take n (map f xs)
take-map f zero xs = refl
take-map f (suc n) [] = refl
take-map f (suc n) (x ∷ xs) = ap (λ l. f x ∷ l) (take-map f n xs)
