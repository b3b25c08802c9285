-- Laws of lists kept in order, and of lists changed at one place. Assumes nothing.
use Prim.Native.Nat.{ℕ, zero, suc, ◌≤◌, ◌<◌}
use mathlib.Core.Path.{◌≡◌, refl, sym, ◌∙◌, ap}
use mathlib.Core.List.{List, [], ◌∷◌}
use native.Mathlib.Decide.{dec_lt}
use native.Mathlib.Omega.{arith}
use borrow.Author.Tests.{lt-ltb, le-ltb}
use lib.ListN.{length, get_or, take}
use Rattle.lists.specs.Changed.{inserted, modify}

-- what is cut off a tail is cut off the whole
take_tail : {A : Type 0} (n : ℕ) (ys : List A) → take n (take (suc n) ys) ≡ take n ys
take_tail zero ys = refl
take_tail (suc n) [] = refl
take_tail (suc n) (y ∷ ys) = ap (λ l. y ∷ l) (take_tail n ys)

take_cons : {A : Type 0} (n : ℕ) (y : A) (ys : List A) → take n (y ∷ take n ys) ≡ take n (y ∷ ys)
take_cons zero y ys = refl
take_cons (suc n) y ys = ap (λ l. y ∷ l) (take_tail n ys)

module _ {A : Type 0} (key : A → ℕ) where
  -- before an element that is greater, and past one that is not
  pub inserted_here : (x y : A) (ys : List A) → key x < key y → inserted key x (y ∷ ys) ≡ x ∷ y ∷ ys
  unfolding inserted
  inserted_here x y ys h = rw (lt-ltb (key x) (key y) h)

  pub inserted_past : (x y : A) (ys : List A) → key y ≤ key x → inserted key x (y ∷ ys) ≡ y ∷ inserted key x ys
  unfolding inserted
  inserted_past x y ys h = rw (le-ltb (key x) (key y) h)

  -- two elements with different keys can be put in in either order
  rising_comm : (x y : A) → key x < key y → (zs : List A) → inserted key x (inserted key y zs) ≡ inserted key y (inserted key x zs)
  rising_comm x y h [] = unfold inserted in inserted_here x y [] h ∙ sym (inserted_past y x [] (omega arith))
  rising_comm x y h (z ∷ zs) = elim (dec_lt (key y) (key z)) [
    | yes a ↦ rw (inserted_here y z zs a, inserted_here x z zs (omega arith), inserted_here x y (z ∷ zs) h, inserted_past y x (z ∷ zs) (omega arith), inserted_here y z zs a)
    | no a ↦ elim (dec_lt (key x) (key z)) [
      | yes b ↦ rw (inserted_past y z zs (omega arith), inserted_here x z (inserted key y zs) b, inserted_here x z zs b, inserted_past y x (z ∷ zs) (omega arith), inserted_past y z zs (omega arith))
      | no b ↦ rw (inserted_past y z zs (omega arith), inserted_past x z (inserted key y zs) (omega arith), inserted_past x z zs (omega arith), inserted_past y z (inserted key x zs) (omega arith), rising_comm x y h zs)
    ]
  ]

  pub inserted_comm : (x y : A) → (key x ≡ key y → ⊥) → (zs : List A) → inserted key x (inserted key y zs) ≡ inserted key y (inserted key x zs)
  inserted_comm x y n zs = elim (dec_lt (key x) (key y)) [
    | yes a ↦ rising_comm x y a zs
    | no a ↦ sym (rising_comm y x (omega (arith, n)) zs)
  ]

  -- what lies past the first n has no part in the first n
  pub take_inserted : (n : ℕ) (x : A) (ys : List A) → take n (inserted key x (take n ys)) ≡ take n (inserted key x ys)
  take_inserted zero x ys = refl
  take_inserted (suc n) x [] = refl
  take_inserted (suc n) x (y ∷ ys) = elim (dec_lt (key x) (key y)) [
    | yes a ↦ rw (inserted_here x y (take n ys) a, inserted_here x y ys a) (ap (λ l. x ∷ l) (take_cons n y ys))
    | no a ↦ rw (inserted_past x y (take n ys) (omega arith), inserted_past x y ys (omega arith)) (ap (λ l. y ∷ l) (take_inserted n x ys))
  ]

  -- so two elements can be put into the first n in either order
  pub taken_comm : (n : ℕ) (x y : A) → (key x ≡ key y → ⊥) → (zs : List A) → take n (inserted key x (take n (inserted key y zs))) ≡ take n (inserted key y (take n (inserted key x zs)))
  taken_comm n x y d zs =
      take_inserted n x (inserted key y zs) ∙ ap (take n) (inserted_comm x y d zs) ∙ sym (take_inserted n y (inserted key x zs))

module _ {A : Type 0} where
  -- a list changed at one place: there, elsewhere, its length
  pub modify-length : (i : ℕ) (f : A → A) (xs : List A) → length (modify i f xs) ≡ length xs
  unfolding modify
  modify-length i f [] = refl
  modify-length zero f (x ∷ xs) = refl
  modify-length (suc i) f (x ∷ xs) = ap suc (modify-length i f xs)

  pub modify_at : (d : A) (i : ℕ) (f : A → A) (xs : List A) → i < length xs → get_or (modify i f xs) i d ≡ f (get_or xs i d)
  unfolding modify
  modify_at d i f [] h = absurd (omega arith)
  modify_at d zero f (x ∷ xs) h = refl
  modify_at d (suc i) f (x ∷ xs) h = modify_at d i f xs (omega arith)

  pub modify_other : (d : A) (i j : ℕ) (f : A → A) (xs : List A) → (i ≡ j → ⊥) → get_or (modify i f xs) j d ≡ get_or xs j d
  unfolding modify
  modify_other d i j f [] n = refl
  modify_other d zero zero f (x ∷ xs) n = absurd (n refl)
  modify_other d zero (suc j) f (x ∷ xs) n = refl
  modify_other d (suc i) zero f (x ∷ xs) n = refl
  modify_other d (suc i) (suc j) f (x ∷ xs) n = modify_other d i j f xs (λ e. n (ap suc e))

  -- the element that stands there put in its place
  pub modify_itself : (d : A) (i : ℕ) (xs : List A) → modify i (λ _. get_or xs i d) xs ≡ xs
  unfolding modify
  modify_itself d i [] = refl
  modify_itself d zero (x ∷ xs) = refl
  modify_itself d (suc i) (x ∷ xs) = ap (λ l. x ∷ l) (modify_itself d i xs)

  -- changes at two places commute, and two at one place are one
  pub modify_comm : (i j : ℕ) (f g : A → A) (xs : List A) → (i ≡ j → ⊥) → modify i f (modify j g xs) ≡ modify j g (modify i f xs)
  unfolding modify
  modify_comm i j f g [] n = refl
  modify_comm zero zero f g (x ∷ xs) n = absurd (n refl)
  modify_comm zero (suc j) f g (x ∷ xs) n = refl
  modify_comm (suc i) zero f g (x ∷ xs) n = refl
  modify_comm (suc i) (suc j) f g (x ∷ xs) n = ap (λ l. x ∷ l) (modify_comm i j f g xs (λ e. n (ap suc e)))

  pub modify_twice : (i : ℕ) (f g : A → A) (xs : List A) → modify i f (modify i g xs) ≡ modify i (λ x. f (g x)) xs
  unfolding modify
  modify_twice i f g [] = refl
  modify_twice zero f g (x ∷ xs) = refl
  modify_twice (suc i) f g (x ∷ xs) = ap (λ l. x ∷ l) (modify_twice i f g xs)
