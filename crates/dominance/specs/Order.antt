-- Levels 0 to n − 1 under a dominance test: `dom i j` says that level i dominates level j. Any n, any test. Assumes nothing.
-- Laws (`proofs/Laws/Order`): a dominance test passes `is_order` exactly where it is a partial order (`order`, `is_order_lem`).
use Rattle.std.specs.Prelude.{ℕ, ◌<◌, ◌≡◌, Bool, true, not, ◌&&◌, eqb}
use Rattle.lists.specs.Range.{implies, all}

-- a dominance test
abbrev pub Dominance : Type 0
Dominance = ℕ → ℕ → Bool

-- level i dominates level j and is another level
abbrev pub strictly : Dominance → ℕ → ℕ → Bool
strictly dom i j = dom i j && not (eqb i j)

-- neither level dominates the other
abbrev pub incomparable : Dominance → ℕ → ℕ → Bool
incomparable dom i j = not (dom i j) && not (dom j i)

-- question 4: each level's mask names .. its own
unfoldable pub reflexive : ℕ → Dominance → Bool
reflexive n dom = all n (λ i. dom i i)

-- question 4: do no two levels dominate each other
unfoldable pub antisymmetric : ℕ → Dominance → Bool
antisymmetric n dom = all n (λ i. all n (λ j. implies (dom i j && dom j i) (eqb i j)))

-- question 4: does dominance carry through
unfoldable pub transitive : ℕ → Dominance → Bool
transitive n dom = all n (λ i. all n (λ j. all n (λ k. implies (dom i j && dom j k) (dom i k))))

-- the three of question 4 that speak of dominance alone
unfoldable pub is_order : ℕ → Dominance → Bool
is_order n dom = reflexive n dom && antisymmetric n dom && transitive n dom

-- what `is_order` tests, said of the levels: dominance is a partial order
pub record PartialOrder (n : ℕ) (dom : Dominance) : Type 0 where
  pub itself : (i : ℕ) → i < n → dom i i ≡ true
  pub same : (i j : ℕ) → i < n → j < n → dom i j ≡ true → dom j i ≡ true → i ≡ j
  pub through : (i j k : ℕ) → i < n → j < n → k < n → dom i j ≡ true → dom j k ≡ true → dom i k ≡ true
