-- How many levels lie at or above a level: fewer, strictly above. So no chain of forks is longer than there are levels. Assumes nothing.
use Prim.Native.Nat.{ℕ, zero, suc, ◌+◌, ◌≤◌, ◌<◌}
use mathlib.Core.Path.{◌≡◌, refl}
use mathlib.Core.Bool.{Bool, true, false, not, cond}
use native.Mathlib.Decide.{ℕ_discrete}
use native.Mathlib.Omega.{arith}
use borrow.Author.Tests.{not-true, eqb-false}
use lib.Dec.{eqb}
use Rattle.dominance.specs.Order.{Dominance, strictly, PartialOrder}
use Rattle.lists.proofs.Laws.Range.{and_left, and_right, refuted, not_both}
use Rattle.lists.proofs.Laws.Lists.{Truth, holds, fails, truth}

-- how many numbers below n pass
unfoldable pub count : ℕ → (ℕ → Bool) → ℕ
count zero p = 0
count (suc n) p = count n p + cond (p n) 1 0

pub count_most : (n : ℕ) (p : ℕ → Bool) → count n p ≤ n
unfolding count
count_most zero p = omega arith
count_most (suc n) p = elim (truth (p n)) [
  | holds e ↦ rw e (omega (arith, count_most n p))
  | fails e ↦ rw e (omega (arith, count_most n p))
]

-- where each that passes p passes q, no fewer pass q
pub count_le : (n : ℕ) (p q : ℕ → Bool) → ((i : ℕ) → i < n → p i ≡ true → q i ≡ true) → count n p ≤ count n q
unfolding count
count_le zero p q f = omega arith
count_le (suc n) p q f =
    let below = count_le n p q (λ i h. f i (omega arith)) in
    elim (truth (p n)) [
      | holds e ↦ rw (e, f n (omega arith) e) (omega (arith, below))
      | fails e ↦ elim (truth (q n)) [
        | holds g ↦ rw (e, g) (omega (arith, below))
        | fails g ↦ rw (e, g) (omega (arith, below))
      ]
    ]

-- and more, where one passes q that does not pass p
pub count_lt : (n : ℕ) (p q : ℕ → Bool) → ((i : ℕ) → i < n → p i ≡ true → q i ≡ true) → (k : ℕ) → k < n → p k ≡ false → q k ≡ true → count n p < count n q
unfolding count
count_lt zero p q f k h e g = absurd (omega arith)
count_lt (suc n) p q f k h e g = elim (ℕ_discrete k n) [
  | yes t ↦ rw (rw t at e, rw t at g) (omega (arith, count_le n p q (λ i l. f i (omega arith))))
  | no t ↦ more (count_lt n p q (λ i l. f i (omega arith)) k (omega (arith, t)) e g) (truth (p n))
]
  where
    more : count n p < count n q → Truth (p n) → count n p + cond (p n) 1 0 < count n q + cond (q n) 1 0
    more l (holds a) = rw (a, f n (omega arith) a) (omega (arith, l))
    more l (fails a) = rw a (omega (arith, l))

-- the levels at or above level l
abbrev pub rank : ℕ → Dominance → ℕ → ℕ
rank n dom l = count n (λ k. dom k l)

module _ (n : ℕ) (dom : Dominance) (po : PartialOrder n dom) where
  pub rank_falls : (u l : ℕ) → u < n → l < n → strictly dom u l ≡ true → rank n dom u < rank n dom l
  rank_falls u l hu hl s =
      let ul = and_left (dom u l) (not (eqb u l)) s in
      let apart = eqb-false u l (not-true (eqb u l) (and_right (dom u l) (not (eqb u l)) s)) in
      count_lt n (λ k. dom k u) (λ k. dom k l) (λ k h e. po.through k u l h hu hl e ul) l hl
      (refuted (dom l u) (λ e. apart (po.same u l hu hl ul e))) (po.itself l hl)

  pub rank_positive : (l : ℕ) → l < n → 0 < rank n dom l
  rank_positive l h =
      omega (arith, count_lt n (λ k. false) (λ k. dom k l) (λ k g e. absurd (not_both false e refl)) l h refl (po.itself l h))
