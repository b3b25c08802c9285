-- Positions in a list along which a number never falls: the elements countBelow f k stand first, then those at k. Assumes nothing.
use Prim.Native.Nat.{ℕ, zero, suc, ◌+◌, ◌-◌, ◌≤◌, ◌<◌, suc-le-suc}
use mathlib.Core.Path.{◌≡◌, refl, sym, ◌∙◌, ap}
use mathlib.Core.Bool.{Bool, true}
use mathlib.Core.List.{List, [], ◌∷◌}
use native.Mathlib.Nat.{zero-add, suc-add, le_trans, le_antisymm, le_of_eq}
use native.Mathlib.Decide.{dec_lt}
use native.Mathlib.Omega.{arith}
use borrow.Author.Tests.{leb-true, le-leb, lt-ltb, le-ltb, eq-eqb, ne_eqb}
use lib.Dec.{eqb, leb, ltb}
use lib.ListN.{length, get_or}
use Rattle.lists.proofs.Laws.Range.{and_left, and_right, and_both}
use Rattle.lists.specs.Lists.{select, rising_from, count_below}
use Rattle.lists.proofs.Laws.Lists.{holds, fails, truth, select_yes, select_no, select-length}

-- two numbers, compared
pub data Order (a b : ℕ) : Type 0 where
  less : a < b → Order a b
  same : a ≡ b → Order a b
  more : b < a → Order a b

pub order : (a b : ℕ) → Order a b
order a b = elim (dec_lt a b) [
  | yes l ↦ less l
  | no g ↦ elim (dec_lt b a) [ yes l ↦ more l | no h ↦ same (omega arith) ]
]

module _ {A : Type 0} (f : A → ℕ) where
  -- the elements at k
  abbrev pub among : ℕ → List A → List A
  among k xs = select (λ x. eqb (f x) k) xs

  pub rising_head : (b : ℕ) (x : A) (xs : List A) → rising_from f b (x ∷ xs) ≡ true → b ≤ f x
  unfolding rising_from
  rising_head b x xs e = leb-true b (f x) (and_left (leb b (f x)) (rising_from f (f x) xs) e)

  pub rising_tail : (b : ℕ) (x : A) (xs : List A) → rising_from f b (x ∷ xs) ≡ true → rising_from f (f x) xs ≡ true
  unfolding rising_from
  rising_tail b x xs e = and_right (leb b (f x)) (rising_from f (f x) xs) e

  pub rising_cons : (b : ℕ) (x : A) (xs : List A) → b ≤ f x → rising_from f (f x) xs ≡ true → rising_from f b (x ∷ xs) ≡ true
  unfolding rising_from
  rising_cons b x xs h e = and_both (leb b (f x)) (rising_from f (f x) xs) (le-leb b (f x) h) e

  pub rising_lower : (a b : ℕ) (xs : List A) → a ≤ b → rising_from f b xs ≡ true → rising_from f a xs ≡ true
  rising_lower a b [] h e = unfold rising_from in refl
  rising_lower a b (x ∷ xs) h e = rising_cons a x xs (le_trans h (rising_head b x xs e)) (rising_tail b x xs e)

  -- a choice from a rising list is rising
  pub rising_select : (p : A → Bool) (b : ℕ) (xs : List A) → rising_from f b xs ≡ true → rising_from f b (select p xs) ≡ true
  rising_select p b [] e = unfold select rising_from in refl
  rising_select p b (x ∷ xs) e = elim (truth (p x)) [
    | holds t ↦ rw (select_yes p x xs t) (rising_cons b x (select p xs) (rising_head b x xs e) (rising_select p (f x) xs (rising_tail b x xs e)))
    | fails t ↦ rw (select_no p x xs t) (rising_select p b xs (rising_lower b (f x) xs (rising_head b x xs e) (rising_tail b x xs e)))
  ]

  -- nothing in a list that rises from b is below b
  none_below : (k b : ℕ) (xs : List A) → k ≤ b → rising_from f b xs ≡ true → count_below f k xs ≡ 0
  none_below k b [] h e = unfold select in refl
  none_below k b (x ∷ xs) h e =
      let g : k ≤ f x = le_trans h (rising_head b x xs e) in
      ap length (select_no (λ y. ltb (f y) k) x xs (le-ltb (f x) k g)) ∙ none_below k (f x) xs g (rising_tail b x xs e)

  none_among : (k b : ℕ) (xs : List A) → k < b → rising_from f b xs ≡ true → among k xs ≡ []
  none_among k b [] h e = unfold select in refl
  none_among k b (x ∷ xs) h e =
      let g : b ≤ f x = rising_head b x xs e in
      let g' : k < f x = omega arith in
      select_no (λ y. eqb (f y) k) x xs (ne_eqb (f x) k (omega arith)) ∙ none_among k (f x) xs g' (rising_tail b x xs e)

  -- the elements countBelow f k are the first ones
  pub first_below : (d : A) (k b : ℕ) (xs : List A) → rising_from f b xs ≡ true → (j : ℕ) → j < count_below f k xs → f (get_or xs j d) < k
  first_below d k b [] e j h = absurd (unfold select in omega arith)
  first_below d k b (x ∷ xs) e j h = elim (dec_lt (f x) k) [
    | yes l ↦ go j (rw (select_yes (λ y. ltb (f y) k) x xs (lt-ltb (f x) k l)) at h) l (first_below d k (f x) xs (rising_tail b x xs e))
    | no g ↦ absurd (empty (none_below k (f x) xs (omega arith) (rising_tail b x xs e)) (rw (select_no (λ y. ltb (f y) k) x xs (le-ltb (f x) k (omega arith))) at h))
  ]
    where
      go : (i : ℕ) → i < suc (count_below f k xs) → f x < k → ((i : ℕ) → i < count_below f k xs → f (get_or xs i d) < k) → f (get_or (x ∷ xs) i d) < k
      go zero l m ih = m
      go (suc i) l m ih = ih i (omega arith)

      empty : count_below f k xs ≡ 0 → j < count_below f k xs → ⊥
      empty z l = omega arith

  -- and after them stand none
  pub rest_above : (d : A) (k b : ℕ) (xs : List A) → rising_from f b xs ≡ true → (j : ℕ) → j < length xs → count_below f k xs ≤ j → k ≤ f (get_or xs j d)
  rest_above d k b [] e j h l = absurd (omega arith)
  rest_above d k b (x ∷ xs) e j h l = elim (dec_lt (f x) k) [
    | yes m ↦ go j h (rw (select_yes (λ y. ltb (f y) k) x xs (lt-ltb (f x) k m)) at l) (rest_above d k (f x) xs (rising_tail b x xs e))
    | no g ↦ up j h (omega arith) (rest_above d k (f x) xs (rising_tail b x xs e)) (none_below k (f x) xs (omega arith) (rising_tail b x xs e))
  ]
    where
      go : (i : ℕ) → i < suc (length xs) → suc (count_below f k xs) ≤ i → ((i : ℕ) → i < length xs → count_below f k xs ≤ i → k ≤ f (get_or xs i d)) → k ≤ f (get_or (x ∷ xs) i d)
      go zero m o ih = absurd (omega arith)
      go (suc i) m o ih = ih i (omega arith) (omega arith)

      up : (i : ℕ) → i < suc (length xs) → k ≤ f x → ((i : ℕ) → i < length xs → count_below f k xs ≤ i → k ≤ f (get_or xs i d)) → count_below f k xs ≡ 0 → k ≤ f (get_or (x ∷ xs) i d)
      up zero m o ih z = o
      up (suc i) m o ih z = ih i (omega arith) (omega arith)

  -- one more: those countBelow f k + 1 are those countBelow f k and those at k
  pub count_more : (k : ℕ) (xs : List A) → count_below f (suc k) xs ≡ count_below f k xs + length (among k xs)
  count_more k [] = unfold select in refl
  count_more k (x ∷ xs) = elim (order (f x) k) [
    | less l ↦ rw (select_yes (λ y. ltb (f y) (suc k)) x xs (lt-ltb (f x) (suc k) (omega arith)), select_yes (λ y. ltb (f y) k) x xs (lt-ltb (f x) k l), select_no (λ y. eqb (f y) k) x xs (ne_eqb (f x) k (omega arith))) (omega (arith, count_more k xs))
    | same q ↦ rw (select_yes (λ y. ltb (f y) (suc k)) x xs (lt-ltb (f x) (suc k) (omega arith)), select_no (λ y. ltb (f y) k) x xs (le-ltb (f x) k (omega arith)), select_yes (λ y. eqb (f y) k) x xs (eq-eqb (f x) k q)) (omega (arith, count_more k xs))
    | more l ↦ rw (select_no (λ y. ltb (f y) (suc k)) x xs (le-ltb (f x) (suc k) l), select_no (λ y. ltb (f y) k) x xs (le-ltb (f x) k (omega arith)), select_no (λ y. eqb (f y) k) x xs (ne_eqb (f x) k (omega arith))) (count_more k xs)
  ]

  -- no fewer are below a greater number
  pub count_mono : (j k : ℕ) → j ≤ k → (xs : List A) → count_below f j xs ≤ count_below f k xs
  count_mono j k h [] = unfold select in omega arith
  count_mono j k h (x ∷ xs) = elim (dec_lt (f x) j) [
    | yes l ↦
        rw (select_yes (λ y. ltb (f y) j) x xs (lt-ltb (f x) j l), select_yes (λ y. ltb (f y) k) x xs (lt-ltb (f x) k (omega arith)))
        (omega (arith, count_mono j k h xs))
    | no g ↦ elim (dec_lt (f x) k) [
      | yes l ↦
          rw (select_no (λ y. ltb (f y) j) x xs (le-ltb (f x) j (omega arith)), select_yes (λ y. ltb (f y) k) x xs (lt-ltb (f x) k l))
          (omega (arith, count_mono j k h xs))
      | no m ↦
          rw (select_no (λ y. ltb (f y) j) x xs (le-ltb (f x) j (omega arith)), select_no (λ y. ltb (f y) k) x xs (le-ltb (f x) k (omega arith)))
          (count_mono j k h xs)
    ]
  ]

  -- the elements at k stand right after those below it, in their order
  pub among_at : (d : A) (k b : ℕ) (xs : List A) → rising_from f b xs ≡ true → (j : ℕ) → j < length (among k xs) → get_or (among k xs) j d ≡ get_or xs (count_below f k xs + j) d
  among_at d k b [] e j h = absurd (unfold select in omega arith)
  among_at d k b (x ∷ xs) e j h = elim (order (f x) k) [
    | less l ↦
        rw (select_no (λ y. eqb (f y) k) x xs (ne_eqb (f x) k (omega arith)), select_yes (λ y. ltb (f y) k) x xs (lt-ltb (f x) k l), suc-add (count_below f k xs) j)
        (among_at d k (f x) xs (rising_tail b x xs e) j (rw (select_no (λ y. eqb (f y) k) x xs (ne_eqb (f x) k (omega arith))) at h))
    | same q ↦
        rw (select_yes (λ y. eqb (f y) k) x xs (eq-eqb (f x) k q), select_no (λ y. ltb (f y) k) x xs (le-ltb (f x) k (omega arith)))
        (here j (none_below k (f x) xs (omega arith) (rising_tail b x xs e)) (rw (select_yes (λ y. eqb (f y) k) x xs (eq-eqb (f x) k q)) at h)
        (among_at d k (f x) xs (rising_tail b x xs e)))
    | more l ↦
        absurd (absent (none_among k (f x) xs l (rising_tail b x xs e)) (rw (select_no (λ y. eqb (f y) k) x xs (ne_eqb (f x) k (omega arith))) at h))
  ]
    where
      here : (i : ℕ) → count_below f k xs ≡ 0 → i < suc (length (among k xs))
          → ((i : ℕ) → i < length (among k xs) → get_or (among k xs) i d ≡ get_or xs (count_below f k xs + i) d)
          → get_or (x ∷ among k xs) i d ≡ get_or (x ∷ xs) (count_below f k xs + i) d
      here zero z l ih = rw z
      here (suc i) z l ih = ih i (omega arith) ∙ rw (z, zero-add i, zero-add (suc i))

      absent : among k xs ≡ [] → j < length (among k xs) → ⊥
      absent z l = omega (arith, ap length z)

  -- rising, said of neighbours
  pub rising_next : (d : A) (b : ℕ) (xs : List A) → rising_from f b xs ≡ true → (i : ℕ) → suc i < length xs → f (get_or xs i d) ≤ f (get_or xs (suc i) d)
  rising_next d b [] e i h = absurd (omega arith)
  rising_next d b (x ∷ []) e i h = absurd (omega arith)
  rising_next d b (x ∷ y ∷ xs) e zero h = rising_head (f x) y xs (rising_tail b x (y ∷ xs) e)
  rising_next d b (x ∷ y ∷ xs) e (suc i) h = rising_next d (f x) (y ∷ xs) (rising_tail b x (y ∷ xs) e) i (omega arith)

  pub rising_all : (d : A) (b : ℕ) (xs : List A) → (0 < length xs → b ≤ f (get_or xs 0 d))
      → ((i : ℕ) → suc i < length xs → f (get_or xs i d) ≤ f (get_or xs (suc i) d)) → rising_from f b xs ≡ true
  rising_all d b [] h g = unfold rising_from in refl
  rising_all d b (x ∷ []) h g = rising_cons b x [] (h (omega arith)) (unfold rising_from in refl)
  rising_all d b (x ∷ y ∷ xs) h g =
      rising_cons b x (y ∷ xs) (h (omega arith))
      (rising_all d (f x) (y ∷ xs) (λ l. g zero (omega arith)) (λ i l. g (suc i) (omega arith)))

  -- rising, said of any two
  pub rising_le : (d : A) (b : ℕ) (xs : List A) → rising_from f b xs ≡ true → (i j : ℕ) → i ≤ j → j < length xs → f (get_or xs i d) ≤ f (get_or xs j d)
  rising_le d b xs e i j h l = elim (dec_lt (f (get_or xs j d)) (f (get_or xs i d))) [
    | yes m ↦ absurd (elim (dec_lt j (count_below f (f (get_or xs i d)) xs)) [
      | yes g ↦ let z : f (get_or xs i d) < f (get_or xs i d) = first_below d (f (get_or xs i d)) b xs e i (le_trans (suc-le-suc h) g) in omega arith
      | no g ↦ let z : f (get_or xs i d) ≤ f (get_or xs j d) = rest_above d (f (get_or xs i d)) b xs e j l (omega arith) in omega arith
    ])
    | no g ↦ omega arith
  ]

  -- how many elements are at k, by the places of the first of them and of the first above
  pub run_length : (d : A) (b : ℕ) (xs : List A) → rising_from f b xs ≡ true → (k p q : ℕ) → p < q → q ≤ length xs
      → ((i : ℕ) → i < p → f (get_or xs i d) < k) → ((i : ℕ) → p ≤ i → i < q → f (get_or xs i d) ≡ k) → (q < length xs → k < f (get_or xs q d))
      → length (among k xs) ≡ q - p
  run_length d b xs e k p q h l lo at hi = omega (arith, count_more k xs, starts, ends)
    where
      none_after : (m i : ℕ) → i < length xs → m ≤ f (get_or xs i d) → count_below f m xs ≤ i
      none_after m i j g = elim (dec_lt i (count_below f m xs)) [
        | yes t ↦ let z : f (get_or xs i d) < m = first_below d m b xs e i t in absurd (omega arith)
        | no t ↦ omega arith
      ]

      counted : (m i : ℕ) → i < length xs → f (get_or xs i d) < m → i < count_below f m xs
      counted m i j g = elim (dec_lt i (count_below f m xs)) [
        | yes t ↦ t
        | no t ↦ let z : m ≤ f (get_or xs i d) = rest_above d m b xs e i j (omega arith) in absurd (omega arith)
      ]

      upto : (m i : ℕ) → i ≤ length xs → ((j : ℕ) → j < i → f (get_or xs j d) < m) → i ≤ count_below f m xs
      upto m zero j g = omega arith
      upto m (suc i) j g = counted m i j (g i (omega arith))

      starts : count_below f k xs ≡ p
      starts =
          le_antisymm (none_after k p (omega arith) (le_of_eq (sym (at p (omega arith) h))))
          (upto k p (omega arith) lo)

      before : (i : ℕ) → i < q → f (get_or xs i d) < suc k
      before i g = elim (dec_lt i p) [
        | yes t ↦ let z : f (get_or xs i d) < k = lo i t in omega arith
        | no t ↦ let z : f (get_or xs i d) ≡ k = at i (omega arith) g in omega arith
      ]

      ends : count_below f (suc k) xs ≡ q
      ends = elim (dec_lt q (length xs)) [
        | yes t ↦ le_antisymm (none_after (suc k) q t (hi t)) (upto (suc k) q l before)
        | no t ↦ le_antisymm (le_trans (select-length (λ x. ltb (f x) (suc k)) xs) (omega arith)) (upto (suc k) q l before)
      ]

-- a walk from 0 up along which f never falls and is at least b: where it stands, and the last value that it saw
pub record Climbed (f : ℕ → ℕ) (b r low : ℕ) : Type 0 where
  pub least : (i : ℕ) → i < r → b ≤ f i
  pub next : (i : ℕ) → suc i < r → f i ≤ f (suc i)
  pub seen : (i : ℕ) → suc i ≡ r → low ≡ f i
  pub start : r ≡ 0 → low ≡ b
  pub floor : b ≤ low
  pub top : (i : ℕ) → i < r → f i ≤ low

module _ (f : ℕ → ℕ) (b : ℕ) where
  pub climbed_none : Climbed f b 0 b
  climbed_none =
      record {
        least = λ i h. absurd (omega arith);
        next = λ i h. absurd (omega arith);
        seen = λ i e. absurd (omega arith);
        start = λ e. refl;
        floor = omega arith;
        top = λ i h. absurd (omega arith);
      }

  pub climbed_more : (r low : ℕ) → Climbed f b r low → low ≤ f r → Climbed f b (r + 1) (f r)
  climbed_more r low c h =
      record {
        least = λ i l. elim (order i r) [
          | less g ↦ c.least i g
          | same e ↦ rw e (le_trans c.floor h)
          | more g ↦ absurd (omega arith)
        ];
        next = λ i l. elim (order (suc i) r) [
          | less g ↦ c.next i g
          | same e ↦ rw (e, ← (c.seen i e)) h
          | more g ↦ absurd (omega arith)
        ];
        seen = λ i e. let g : r ≡ i = omega arith in ap f g;
        start = λ e. absurd (omega arith);
        floor = le_trans c.floor h;
        top = λ i l. elim (order i r) [
          | less g ↦ le_trans (c.top i g) h
          | same e ↦ le_of_eq (ap f e)
          | more g ↦ absurd (omega arith)
        ];
      }

  -- a value below the last one seen is a fall, or below b
  pub climbed_fails : (r low : ℕ) → Climbed f b r low → f r < low → b ≤ f r → ((i : ℕ) → suc i ≡ r → f i ≤ f (suc i)) → ⊥
  climbed_fails zero low c h g n = omega (arith, c.start refl)
  climbed_fails (suc r) low c h g n = omega (arith, c.seen r refl, n r refl)

  -- what bounds b and all values bounds the last one seen
  pub climbed_most : (m r low : ℕ) → Climbed f b r low → b ≤ m → ((i : ℕ) → i < r → f i ≤ m) → low ≤ m
  climbed_most m zero low c h g = rw (c.start refl) h
  climbed_most m (suc r) low c h g = rw (c.seen r refl) (g r (omega arith))
