-- A dominance test passes question 4 exactly where it is a partial order, for any number of levels. Assumes nothing.
use Prim.Native.Nat.{ℕ, ◌<◌}
use mathlib.Core.Path.{◌≡◌, ◌∙◌}
use mathlib.Core.Bool.{true, false, ◌&&◌, and_comm}
use native.Mathlib.Decide.{dec_lt}
use native.Mathlib.Omega.{arith}
use borrow.Author.Tests.{eqb-true, eq-eqb, ne_eqb}
use lib.Dec.{eqb}
use Rattle.lists.specs.Range.{implies, all}
use Rattle.dominance.specs.Order.{Dominance, reflexive, antisymmetric, transitive, is_order, PartialOrder}
use Rattle.lists.proofs.Laws.Range.{and_left, and_right, and_both, implies_then, implies_when, implies_left, implies_fails, all_each, all-every, all_fails}

module _ (n : ℕ) (dom : Dominance) where
  itself : reflexive n dom ≡ true → (i : ℕ) → i < n → dom i i ≡ true
  unfolding reflexive
  itself e i h = all_each n (λ i. dom i i) e i h

  same : antisymmetric n dom ≡ true → (i j : ℕ) → i < n → j < n → dom i j ≡ true → dom j i ≡ true → i ≡ j
  unfolding antisymmetric
  same e i j h l p q =
      eqb-true i j
      (implies_then (dom i j && dom j i) (eqb i j)
      (all_each n _ (all_each n (λ i. all n (λ j. implies (dom i j && dom j i) (eqb i j))) e i h) j l)
      (and_both (dom i j) (dom j i) p q))

  through : transitive n dom ≡ true → (i j k : ℕ) → i < n → j < n → k < n → dom i j ≡ true → dom j k ≡ true → dom i k ≡ true
  unfolding transitive
  through e i j k hi hj hk p q =
      implies_then (dom i j && dom j k) (dom i k)
      (all_each n _
      (all_each n _ (all_each n (λ i. all n (λ j. all n (λ k. implies (dom i j && dom j k) (dom i k)))) e i hi) j hj) k hk)
      (and_both (dom i j) (dom j k) p q)

  -- two levels that dominate each other fail the test; where no level and a lower-numbered one do, it passes
  pub antisymmetric_fails : (i j : ℕ) → i < n → j < i → (dom i j && dom j i) ≡ true → antisymmetric n dom ≡ false
  unfolding antisymmetric
  antisymmetric_fails i j hi hj e =
      all_fails n _ i hi (all_fails n _ j (omega arith) (implies_fails _ _ e (ne_eqb i j (omega arith))))

  pub antisymmetric_pairs : ((i : ℕ) → i < n → (j : ℕ) → j < i → (dom i j && dom j i) ≡ false) → antisymmetric n dom ≡ true
  unfolding antisymmetric
  antisymmetric_pairs f =
      all-every n _ λ i hi. all-every n _ λ j hj. pair i j hi hj (dec_lt j i) (dec_lt i j)
    where
      pair : (i j : ℕ) → i < n → j < n → Dec (j < i) → Dec (i < j) → implies (dom i j && dom j i) (eqb i j) ≡ true
      pair i j hi hj (yes l) d = implies_left (dom i j && dom j i) (eqb i j) (f i hi j l)
      pair i j hi hj (no l) (yes g) =
          implies_left (dom i j && dom j i) (eqb i j) (and_comm (dom i j) (dom j i) ∙ f j hj i g)
      pair i j hi hj (no l) (no g) = implies_when (dom i j && dom j i) (eqb i j) (λ t. eq-eqb i j (omega arith))

  -- a gap fails the test
  pub transitive_fails : (i j k : ℕ) → i < n → j < n → k < n → implies (dom i j && dom j k) (dom i k) ≡ false → transitive n dom ≡ false
  unfolding transitive
  transitive_fails i j k hi hj hk e = all_fails n _ i hi (all_fails n _ j hj (all_fails n _ k hk e))

  pub transitive-every : ((i : ℕ) → i < n → (j : ℕ) → j < n → (k : ℕ) → k < n → implies (dom i j && dom j k) (dom i k) ≡ true) → transitive n dom ≡ true
  unfolding transitive
  transitive-every f = all-every n _ λ i hi. all-every n _ λ j hj. all-every n _ λ k hk. f i hi j hj k hk

  -- what question 4 says of dominance: it is a partial order
  pub order : is_order n dom ≡ true → PartialOrder n dom
  unfolding is_order
  order e =
      let t = and_left (reflexive n dom && antisymmetric n dom) (transitive n dom) e in
      record {
        itself = itself (and_left (reflexive n dom) (antisymmetric n dom) t);
        same = same (and_right (reflexive n dom) (antisymmetric n dom) t);
        through = through (and_right (reflexive n dom && antisymmetric n dom) (transitive n dom) e);
      }

  -- and every partial order passes
  pub is_order_lem : PartialOrder n dom → is_order n dom ≡ true
  unfolding is_order reflexive antisymmetric transitive
  is_order_lem po =
      and_both _ _
      (and_both _ _
      (all-every n _ po.itself)
      (all-every n _ λ i hi. all-every n _ λ j hj. implies_when (dom i j && dom j i) (eqb i j)
      λ t. eq-eqb i j (po.same i j hi hj (and_left (dom i j) (dom j i) t) (and_right (dom i j) (dom j i) t))))
      (all-every n _ λ i hi. all-every n _ λ j hj. all-every n _ λ k hk. implies_when (dom i j && dom j k) (dom i k)
      λ t. po.through i j k hi hj hk (and_left (dom i j) (dom j k) t) (and_right (dom i j) (dom j k) t))
