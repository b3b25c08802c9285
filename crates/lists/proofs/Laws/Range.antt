-- Laws of tests: the halves of `&&`, and what `all` and `first` say of the numbers below n. Assumes nothing.
use Prim.Native.Nat.{ℕ, zero, suc, ◌+◌, ◌-◌, ◌≤◌, ◌<◌}
use mathlib.Core.Path.{◌≡◌, refl, sym, ◌∙◌}
use mathlib.Core.Bool.{Bool, true, false, not, cond, ◌&&◌, true≢false, false≢true}
use native.Mathlib.Omega.{arith}
use native.Mathlib.Decide.{dec_lt}
use native.Mathlib.Numerals.{add-one}
use borrow.Author.Tests.{not-true, not-false}
use Rattle.lists.specs.Range.{implies, all, first}

pub and_left : (a b : Bool) → (a && b) ≡ true → a ≡ true
and_left true b e = refl
and_left false b e = e

pub and_right : (a b : Bool) → (a && b) ≡ true → b ≡ true
and_right true b e = e
and_right false b e = absurd (false≢true e)

pub and_both : (a b : Bool) → a ≡ true → b ≡ true → (a && b) ≡ true
and_both a b p q = rw (p, q)

pub and_fails_left : (a b : Bool) → a ≡ false → (a && b) ≡ false
and_fails_left a b p = rw p

pub and_fails_right : (a b : Bool) → b ≡ false → (a && b) ≡ false
and_fails_right true b p = p
and_fails_right false b p = refl

pub implies_then : (a b : Bool) → implies a b ≡ true → a ≡ true → b ≡ true
implies_then true b e p = e
implies_then false b e p = absurd (false≢true p)

pub implies_when : (a b : Bool) → (a ≡ true → b ≡ true) → implies a b ≡ true
implies_when true b f = f refl
implies_when false b f = refl

pub implies_left : (a b : Bool) → a ≡ false → implies a b ≡ true
implies_left a b p = rw p

pub implies_fails : (a b : Bool) → a ≡ true → b ≡ false → implies a b ≡ false
implies_fails a b p q = rw (p, q)

-- tests made by a branch on the first half: what each way answers
pub and_taken : (a b r : Bool) → a ≡ true → r ≡ b → r ≡ (a && b)
and_taken a b r p q = rw p q

pub unless_taken : (a b r : Bool) → a ≡ true → r ≡ b → not r ≡ not (implies a b)
unless_taken a b r p q = rw (p, q)

pub unless_left : (a b : Bool) → a ≡ false → false ≡ not (implies a b)
unless_left a b p = rw p

pub refuted : (b : Bool) → (b ≡ true → ⊥) → b ≡ false
refuted true f = absurd (f refl)
refuted false f = refl

pub not_both : (b : Bool) → b ≡ true → b ≡ false → ⊥
not_both b p q = true≢false (sym p ∙ q)

-- a number below suc n is below n, or n
data Split (i n : ℕ) : Type 0 where
  below : i < n → Split i n
  last : i ≡ n → Split i n

split : (i n : ℕ) → i < suc n → Split i n
split i n h = elim (dec_lt i n) [ yes l ↦ below l | no g ↦ last (omega arith) ]

-- `all`, taken apart and put together
pub all_each : (n : ℕ) (p : ℕ → Bool) → all n p ≡ true → (i : ℕ) → i < n → p i ≡ true
unfolding all
all_each zero p e i h = absurd (omega arith)
all_each (suc n) p e i h =
    elim (split i n h) [
      | below l ↦ all_each n p (and_left (all n p) (p n) e) i l
      | last q ↦ rw q (and_right (all n p) (p n) e)
    ]

pub all-every : (n : ℕ) (p : ℕ → Bool) → ((i : ℕ) → i < n → p i ≡ true) → all n p ≡ true
unfolding all
all-every zero p f = refl
all-every (suc n) p f =
    and_both (all n p) (p n) (all-every n p (λ i h. f i (omega arith))) (f n (omega arith))

pub all_fails : (n : ℕ) (p : ℕ → Bool) (i : ℕ) → i < n → p i ≡ false → all n p ≡ false
all_fails n p i h q = go (all n p) refl
  where
    go : (b : Bool) → all n p ≡ b → b ≡ false
    go true e = absurd (not_both (p i) (all_each n p e i h) q)
    go false e = refl

-- where not all pass, some number does not
pub record Refuted (n : ℕ) (p : ℕ → Bool) : Type 0 where
  pub at : ℕ
  pub below : at < n
  pub refuted_at : p at ≡ false

pub all_refuted : (n : ℕ) (p : ℕ → Bool) → all n p ≡ false → Refuted n p
unfolding all
all_refuted zero p e = absurd (true≢false e)
all_refuted (suc n) p e = go (all n p) (p n) refl refl e (all_refuted n p)
  where
    go : (a b : Bool) → all n p ≡ a → p n ≡ b → (a && b) ≡ false → (all n p ≡ false → Refuted n p) → Refuted (suc n) p
    go true b ea eb f r = record { at = n; below = omega arith; refuted_at = eb ∙ f }
    go false b ea eb f r = let q = r ea in record { at = q.at; below = omega (arith, q.below); refuted_at = q.refuted_at }

-- a loop that tests the numbers below n in turn and ends at the first that fails: i of them have passed
abbrev pub Tested : ℕ → (ℕ → Bool) → ℕ → Type 0
Tested n p i = (i ≤ n) × (all i p ≡ true)

module _ (n : ℕ) (p : ℕ → Bool) where
  pub tested_none : Tested n p 0
  unfolding all
  tested_none = (omega arith, refl)

  -- r is what the code tested
  pub tested_more : (i : ℕ) (r : Bool) → Tested n p i → i < n → r ≡ p i → not r ≡ false → Tested n p (i + 1)
  unfolding all
  tested_more i r h l e t = (omega arith, rw add-one (and_both (all i p) (p i) h.1 (sym e ∙ not-false r t)))

  pub tested_fails : (i : ℕ) (r : Bool) → i < n → r ≡ p i → not r ≡ true → false ≡ all n p
  tested_fails i r l e t = sym (all_fails n p i l (sym e ∙ not-true r t))

  pub tested_all : (i : ℕ) → Tested n p i → n ≤ i → true ≡ all n p
  tested_all i h l = let z : i ≡ n = omega arith in rw z at (sym h.1)

-- `first`: it is at most n; below n it passes, and nothing before it does
pub first_le : (n : ℕ) (p : ℕ → Bool) → first n p ≤ n
unfolding first
first_le zero p = omega arith
first_le (suc n) p = go (p zero) (first_le n (λ i. p (suc i)))
  where
    go : (b : Bool) → first n (λ i. p (suc i)) ≤ n → cond b zero (suc (first n (λ i. p (suc i)))) ≤ suc n
    go true h = omega arith
    go false h = omega arith

pub first_passes : (n : ℕ) (p : ℕ → Bool) → first n p < n → p (first n p) ≡ true
unfolding first
first_passes zero p h = absurd (omega arith)
first_passes (suc n) p h = go (p zero) refl h (first_passes n (λ i. p (suc i)))
  where
    rest : ℕ
    rest = first n (λ i. p (suc i))

    go : (b : Bool) → p zero ≡ b → cond b zero (suc rest) < suc n → (rest < n → p (suc rest) ≡ true) → p (cond b zero (suc rest)) ≡ true
    go true e l f = e
    go false e l f = f (omega arith)

pub first_before : (n : ℕ) (p : ℕ → Bool) (i : ℕ) → i < first n p → p i ≡ false
unfolding first
first_before zero p i h = absurd (omega arith)
first_before (suc n) p i h = go (p zero) refl i h (first_before n (λ k. p (suc k)))
  where
    rest : ℕ
    rest = first n (λ k. p (suc k))

    go : (b : Bool) → p zero ≡ b → (k : ℕ) → k < cond b zero (suc rest) → ((j : ℕ) → j < rest → p (suc j) ≡ false) → p k ≡ false
    go true e k l f = absurd (omega arith)
    go false e zero l f = e
    go false e (suc j) l f = f j (omega arith)

-- the number that passes with none before it is the first; where none passes the first is n
pub first_at_lem : (n : ℕ) (p : ℕ → Bool) (i : ℕ) → i < n → p i ≡ true → ((k : ℕ) → k < i → p k ≡ false) → first n p ≡ i
first_at_lem n p i h e f = go (dec_lt (first n p) i) (dec_lt i (first n p))
  where
    go : Dec (first n p < i) → Dec (i < first n p) → first n p ≡ i
    go (yes l) g = absurd (not_both (p (first n p)) (first_passes n p (omega arith)) (f (first n p) l))
    go (no l) (yes g) = absurd (not_both (p i) e (first_before n p i g))
    go (no l) (no g) = omega arith

pub first_none : (n : ℕ) (p : ℕ → Bool) → ((k : ℕ) → k < n → p k ≡ false) → first n p ≡ n
first_none n p f = go (dec_lt (first n p) n)
  where
    go : Dec (first n p < n) → first n p ≡ n
    go (yes l) = absurd (not_both (p (first n p)) (first_passes n p l) (f (first n p) l))
    go (no g) = omega (arith, first_le n p)

-- with one number more: what was found stays; else it is the last one, if that passes
pub first-kept : (n : ℕ) (p : ℕ → Bool) → first (n - 1) p < n - 1 → first n p ≡ first (n - 1) p
first-kept n p h = first_at_lem n p (first (n - 1) p) (omega (arith, h)) (first_passes (n - 1) p h) (first_before (n - 1) p)

pub first_last : (n : ℕ) (p : ℕ → Bool) → (n ≡ 0 → ⊥) → n - 1 ≤ first (n - 1) p → p (n - 1) ≡ true → first n p ≡ n - 1
first_last n p z h e = first_at_lem n p (n - 1) (omega (arith, z)) e (λ k l. first_before (n - 1) p k (omega (arith, h, l)))

pub first_past : (n : ℕ) (p : ℕ → Bool) → n - 1 ≤ first (n - 1) p → p (n - 1) ≡ false → first n p ≡ n
first_past n p h e = first_none n p (λ k l. go k (dec_lt k (n - 1)) l)
  where
    go : (k : ℕ) → Dec (k < n - 1) → k < n → p k ≡ false
    go k (yes g) l = first_before (n - 1) p k (omega (arith, h, g))
    go k (no g) l = let same : k ≡ n - 1 = omega (arith, g, l) in rw same e

pub first_found : (n : ℕ) (p : ℕ → Bool) (i : ℕ) → i < n → p i ≡ true → first n p < n
first_found n p i h e = go (dec_lt (first n p) n)
  where
    go : Dec (first n p < n) → first n p < n
    go (yes l) = l
    go (no g) = absurd (not_both (p i) e (first_before n p i (omega arith)))
