-- A list into which an element is put by its key, said by places. Assumes nothing.
use Prim.Native.Nat.{ℕ, zero, suc, ◌≤◌, ◌<◌}
use mathlib.Core.Path.{◌≡◌, refl, sym, ◌∙◌, ap, ap₂}
use mathlib.Core.Bool.{true}
use mathlib.Core.List.{List, [], ◌∷◌, ◌++◌}
use native.Mathlib.Decide.{dec_lt}
use native.Mathlib.Omega.{arith}
use lib.ListN.{length, get_or, take}
use lib.Seq.{take_at}
use Rattle.lists.specs.Lists.{tab, rising_from}
use Rattle.lists.proofs.Laws.Fill.{tab_ext}
use Rattle.lists.proofs.Laws.Rising.{rising_head, rising_tail, rising_cons}
use Rattle.lists.specs.Changed.{inserted}
use Rattle.lists.proofs.Laws.Changed.{inserted_here, inserted_past}

module _ {A : Type 0} (key : A → ℕ) where
  -- x put among f 0 .. f (n − 1) at place r gives g 0 .. g n, where g is f before r, x at r, and f one place later behind r
  pub inserted-tab : (x : A) (n r : ℕ) (f g : ℕ → A) → r ≤ n
      → ((i : ℕ) → i < r → key (f i) ≤ key x) → (r < n → key x < key (f r))
      → ((i : ℕ) → i < r → g i ≡ f i) → g r ≡ x → ((i : ℕ) → r ≤ i → i < n → g (suc i) ≡ f i)
      → tab (suc n) g ≡ inserted key x (tab n f)
  unfolding tab
  inserted-tab x zero zero f g h lo hi b e a = unfold inserted in rw e
  inserted-tab x zero (suc r) f g h lo hi b e a = absurd (omega arith)
  inserted-tab x (suc n) zero f g h lo hi b e a =
      ap₂ ◌∷◌ e (tab_ext (suc n) (λ i. g (suc i)) f (λ i l. a i (omega arith) l))
      ∙ sym (inserted_here key x (f zero) (tab n (λ i. f (suc i))) (hi (omega arith)))
  inserted-tab x (suc n) (suc r) f g h lo hi b e a =
      ap₂ ◌∷◌ (b zero (omega arith))
      (inserted-tab x n r (λ i. f (suc i)) (λ i. g (suc i)) (omega arith)
      (λ i l. lo (suc i) (omega arith)) (λ l. hi (omega arith)) (λ i l. b (suc i) (omega arith)) e (λ i l m. a (suc i) (omega arith) (omega arith)))
      ∙ sym (inserted_past key x (f zero) (tab n (λ i. f (suc i))) (lo zero (omega arith)))

  -- x is last where no key is greater
  pub inserted_last : (d x : A) (ys : List A) → ((i : ℕ) → i < length ys → key (get_or ys i d) ≤ key x) → inserted key x ys ≡ ys ++ (x ∷ [])
  inserted_last d x [] h = unfold inserted in refl
  inserted_last d x (y ∷ ys) h =
      inserted_past key x y ys (h zero (omega arith)) ∙ ap (λ l. y ∷ l) (inserted_last d x ys (λ i l. h (suc i) (omega arith)))

  -- then nothing changes among the first n of n
  pub full_last : (d x : A) (n : ℕ) (ys : List A) → length ys ≡ n → ((i : ℕ) → i < length ys → key (get_or ys i d) ≤ key x) → take n (inserted key x ys) ≡ ys
  full_last d x n ys e h = ap (take n) (inserted_last d x ys h) ∙ take_at ys (x ∷ []) n e

  -- and where the last of n + 1 has a greater key, it is the one that is left out
  pub full_before : (x l : A) (n : ℕ) (ys : List A) → length ys ≡ n → key x < key l → take (suc n) (inserted key x (ys ++ (l ∷ []))) ≡ inserted key x ys
  full_before x l zero [] e h = unfold inserted in ap (take 1) (inserted_here key x l [] h)
  full_before x l (suc n) [] e h = absurd (omega arith)
  full_before x l zero (y ∷ ys) e h = absurd (omega arith)
  full_before x l (suc n) (y ∷ ys) e h = elim (dec_lt (key x) (key y)) [
    | yes m ↦
        ap (take (suc (suc n))) (inserted_here key x y (ys ++ (l ∷ [])) m)
        ∙ ap (λ t. x ∷ y ∷ t) (take_at ys (l ∷ []) n (omega arith))
        ∙ sym (inserted_here key x y ys m)
    | no g ↦
        ap (take (suc (suc n))) (inserted_past key x y (ys ++ (l ∷ [])) (omega arith))
        ∙ ap (λ t. y ∷ t) (full_before x l n ys (omega arith) h)
        ∙ sym (inserted_past key x y ys (omega arith))
  ]

  -- one element more
  pub inserted-length : (x : A) (ys : List A) → length (inserted key x ys) ≡ suc (length ys)
  inserted-length x [] = unfold inserted in refl
  inserted-length x (y ∷ ys) = elim (dec_lt (key x) (key y)) [
    | yes m ↦ ap length (inserted_here key x y ys m)
    | no g ↦ ap length (inserted_past key x y ys (omega arith)) ∙ ap suc (inserted-length x ys)
  ]

  -- keys that never fall still never fall, and do so in the first n
  pub rising_inserted : (b : ℕ) (x : A) (ys : List A) → b ≤ key x → rising_from key b ys ≡ true → rising_from key b (inserted key x ys) ≡ true
  rising_inserted b x [] h e = unfold inserted in rising_cons key b x [] h (unfold rising_from in refl)
  rising_inserted b x (y ∷ ys) h e = elim (dec_lt (key x) (key y)) [
    | yes m ↦ rw (inserted_here key x y ys m) (rising_cons key b x (y ∷ ys) h (rising_cons key (key x) y ys (omega arith) (rising_tail key b y ys e)))
    | no g ↦
        rw (inserted_past key x y ys (omega arith))
        (rising_cons key b y (inserted key x ys) (rising_head key b y ys e) (rising_inserted (key y) x ys (omega arith) (rising_tail key b y ys e)))
  ]

  pub rising_take : (b n : ℕ) (ys : List A) → rising_from key b ys ≡ true → rising_from key b (take n ys) ≡ true
  rising_take b zero ys e = unfold rising_from in refl
  rising_take b (suc n) [] e = e
  rising_take b (suc n) (y ∷ ys) e = rising_cons key b y (take n ys) (rising_head key b y ys e) (rising_take (key y) n ys (rising_tail key b y ys e))
