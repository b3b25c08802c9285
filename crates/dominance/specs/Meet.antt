-- Greatest lower bounds of levels 0 to n − 1: least upper bounds of the reversed test. Any n, any test. Assumes nothing.
-- Laws (`proofs/Laws/Meet`): where there is a level, levels that pass questions 4 and 5 pass 17 exactly where some level is dominated by all
-- (`meets_by_lowest`). What passes 4, 5 and 17 is a lattice (`lattice`). All laws of joins are laws of meets, of the reversed test, which is
-- a partial order where the test is (`reversed_order`).
use Rattle.std.specs.Prelude.{ℕ, Bool, ltb}
use Rattle.lists.specs.Range.{all, first}
use Rattle.dominance.specs.Order.{Dominance}
use Rattle.dominance.specs.Join.{join, has_joins, LeastUpper, Unjoined, JoinSemilattice}

-- the reversed test: a level is above those that dominate it
abbrev pub reversed : Dominance → Dominance
reversed dom a b = dom b a

-- the greatest lower bound of a and b, or n where they have none
abbrev pub meet : ℕ → Dominance → ℕ → ℕ → ℕ
meet n dom = join n (reversed dom)

-- question 17: has every pair of levels a greatest lower bound. No pair of no levels lacks one
abbrev pub has_meets : ℕ → Dominance → Bool
has_meets n dom = has_joins n (reversed dom)

-- u is the greatest lower bound of a and b
abbrev pub GreatestLower : ℕ → Dominance → ℕ → ℕ → ℕ → Type 0
GreatestLower n dom = LeastUpper n (reversed dom)

-- a pair of levels that has no greatest lower bound
abbrev pub Unmet : ℕ → Dominance → Type 0
Unmet n dom = Unjoined n (reversed dom)

-- all levels dominate level l, and some level is such
unfoldable pub is_lowest : ℕ → Dominance → ℕ → Bool
is_lowest n dom l = all n (λ i. dom i l)

unfoldable pub has_lowest : ℕ → Dominance → Bool
has_lowest n dom = ltb (first n (is_lowest n dom)) n

-- what questions 4, 5 and 17 together say: the levels are a lattice, with `join` and `meet`
pub record Lattice (n : ℕ) (dom : Dominance) : Type 0 where
  pub joins : JoinSemilattice n dom
  pub meets : JoinSemilattice n (reversed dom)
