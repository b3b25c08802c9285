-- Laws of choices, tests and maps put one after the other. Assumes nothing.
use Prim.Native.Nat.{ℕ, zero, suc, ◌<◌}
use mathlib.Core.Path.{◌≡◌, refl, sym, ◌∙◌, ap, fun_ext}
use mathlib.Core.Bool.{Bool, true, ◌&&◌, and_comm, cond}
use mathlib.Core.List.{List, [], ◌∷◌, map, ◌++◌}
use native.Mathlib.Omega.{arith}
use Rattle.lists.proofs.Laws.Range.{and_left, and_right, and_both}
use Rattle.lists.specs.Lists.{every, select, rising_from, counts_from, tab, joined}
use Rattle.lists.proofs.Laws.Lists.{holds, fails, truth}

-- choices from a mapped list and tests of it are those of the list, put behind the map
module _ {A B : Type 0} (f : A → B) where
  pub select-map : (p : B → Bool) (xs : List A) → select p (map f xs) ≡ map f (select (λ x. p (f x)) xs)
  unfolding select
  select-map p [] = refl
  select-map p (x ∷ xs) = elim (truth (p (f x))) [
    | holds e ↦ rw e (ap (λ l. f x ∷ l) (select-map p xs))
    | fails e ↦ rw e (select-map p xs)
  ]

  pub every_map : (p : B → Bool) (xs : List A) → every p (map f xs) ≡ every (λ x. p (f x)) xs
  unfolding every
  every_map p [] = refl
  every_map p (x ∷ xs) = ap (λ b. p (f x) && b) (every_map p xs)

  pub rising_map : (g : B → ℕ) (b : ℕ) (xs : List A) → rising_from g b (map f xs) ≡ rising_from (λ x. g (f x)) b xs
  unfolding rising_from
  rising_map g b [] = refl
  rising_map g b (x ∷ xs) = rw (rising_map g (g (f x)) xs)

  pub counts_map : (g : B → ℕ) (n : ℕ) (xs : List A) → counts_from g n (map f xs) ≡ counts_from (λ x. g (f x)) n xs
  unfolding counts_from
  counts_map g n [] = refl
  counts_map g n (x ∷ xs) = rw (counts_map g (suc n) xs)

module _ {A : Type 0} where
  -- two choices, one after the other, are the choice of what passes both, in either order
  pub select-select : (p q : A → Bool) (xs : List A) → select p (select q xs) ≡ select (λ x. q x && p x) xs
  unfolding select
  select-select p q [] = refl
  select-select p q (x ∷ xs) = elim (truth (q x)) [
    | holds e ↦ elim (truth (p x)) [
      | holds t ↦ rw (e, t) (ap (λ l. x ∷ l) (select-select p q xs))
      | fails t ↦ rw (e, t) (select-select p q xs)
    ]
    | fails e ↦ rw e (select-select p q xs)
  ]

  pub select_swap : (p q : A → Bool) (xs : List A) → select p (select q xs) ≡ select q (select p xs)
  select_swap p q xs =
      select-select p q xs ∙ ap (λ r. select r xs) (fun_ext (λ x. and_comm (q x) (p x))) ∙ sym (select-select q p xs)

  -- two tests that agree on each element choose the same
  pub select_same : (p q r : A → Bool) → ((x : A) → r x ≡ true → p x ≡ q x) → (xs : List A) → every r xs ≡ true → select p xs ≡ select q xs
  unfolding every select
  select_same p q r f [] e = refl
  select_same p q r f (x ∷ xs) e =
      rw (f x (and_left (r x) (every r xs) e), select_same p q r f xs (and_right (r x) (every r xs) e))

  -- a test that follows from another, and two tests that both pass
  pub every_then : (p q : A → Bool) → ((x : A) → p x ≡ true → q x ≡ true) → (xs : List A) → every p xs ≡ true → every q xs ≡ true
  unfolding every
  every_then p q f [] e = refl
  every_then p q f (x ∷ xs) e =
      and_both (q x) (every q xs) (f x (and_left (p x) (every p xs) e)) (every_then p q f xs (and_right (p x) (every p xs) e))

  pub every_both : (p q : A → Bool) (xs : List A) → every p xs ≡ true → every q xs ≡ true → every (λ x. p x && q x) xs ≡ true
  unfolding every
  every_both p q [] e t = refl
  every_both p q (x ∷ xs) e t =
      and_both (p x && q x) _ (and_both (p x) (q x) (and_left (p x) (every p xs) e) (and_left (q x) (every q xs) t))
      (every_both p q xs (and_right (p x) (every p xs) e) (and_right (q x) (every q xs) t))

  -- a map that keeps each element that passes keeps a list of such
  pub map-kept : (p : A → Bool) (f : A → A) → ((x : A) → p x ≡ true → f x ≡ x) → (xs : List A) → every p xs ≡ true → map f xs ≡ xs
  unfolding every
  map-kept p f h [] e = refl
  map-kept p f h (x ∷ xs) e =
      rw (h x (and_left (p x) (every p xs) e)) (ap (λ l. x ∷ l) (map-kept p f h xs (and_right (p x) (every p xs) e)))

  -- a test of all that `tab` makes
  pub every-tab : (p : A → Bool) (n : ℕ) (f : ℕ → A) → ((i : ℕ) → i < n → p (f i) ≡ true) → every p (tab n f) ≡ true
  unfolding tab every
  every-tab p zero f h = refl
  every-tab p (suc n) f h =
      and_both (p (f zero)) _ (h zero (omega arith)) (every-tab p n (λ i. f (suc i)) (λ i l. h (suc i) (omega arith)))

-- the groups of the numbers that pass, one after the other
pub chosen_groups : {A : Type 0} (t : ℕ → Bool) (g : ℕ → List A) (n : ℕ) (f : ℕ → ℕ) → joined (map g (select t (tab n f))) ≡ joined (tab n (λ i. cond (t (f i)) (g (f i)) []))
unfolding joined select tab
chosen_groups t g zero f = refl
chosen_groups t g (suc n) f = elim (truth (t (f zero))) [
  | holds e ↦ rw e (ap (λ l. g (f zero) ++ l) (chosen_groups t g n (λ i. f (suc i))))
  | fails e ↦ rw e (chosen_groups t g n (λ i. f (suc i)))
]
