-- Least upper bounds of levels 0 to n − 1 under a dominance test. Any n, any test. Assumes nothing.
-- A greatest lower bound is a least upper bound of the reversed test.
-- Laws (`proofs/Laws/Join`): `has_joins` says yes exactly where each pair has a least upper bound (`joined`, `all-joined`), and no where some pair has
-- none (`unjoined`); what passes
-- questions 4 and 5 is a join semilattice (`semilattice`). A least upper bound is unique (`unique`, `join_is`), and the join commutes
-- (`join_comm`). The join of m and l is m exactly where m dominates l (`join_same`), and else lies strictly above m (`join_strict`). A
-- level dominates a join exactly where it dominates both levels (`join-below`).
use Rattle.std.specs.Prelude.{ℕ, ◌<◌, ◌≡◌, Bool, true, ◌&&◌, ltb}
use Rattle.lists.specs.Range.{implies, all, first}
use Rattle.dominance.specs.Order.{Dominance, PartialOrder}

-- level u dominates both a and b
abbrev pub is_upper : Dominance → ℕ → ℕ → ℕ → Bool
is_upper dom a b u = dom u a && dom u b

-- u is an upper bound of a and b, and every upper bound dominates it. Least by dominance, not by number
unfoldable pub is_least : ℕ → Dominance → ℕ → ℕ → ℕ → Bool
is_least n dom a b u = is_upper dom a b u && all n (λ v. implies (is_upper dom a b v) (dom v u))

-- the least upper bound of a and b, or n where they have none
unfoldable pub join : ℕ → Dominance → ℕ → ℕ → ℕ
join n dom a b = first n (is_least n dom a b)

-- question 5: has every pair of levels a least upper bound
unfoldable pub has_joins : ℕ → Dominance → Bool
has_joins n dom = all n (λ a. all n (λ b. ltb (join n dom a b) n))

-- what `is_least` tests, said of the levels: u is the least upper bound of a and b
pub record LeastUpper (n : ℕ) (dom : Dominance) (a b u : ℕ) : Type 0 where
  pub present : u < n
  pub above_left : dom u a ≡ true
  pub above_right : dom u b ≡ true
  pub least : (v : ℕ) → v < n → dom v a ≡ true → dom v b ≡ true → dom v u ≡ true

-- a pair of levels that has no least upper bound
pub record Unjoined (n : ℕ) (dom : Dominance) : Type 0 where
  pub left : ℕ
  pub right : ℕ
  pub left_present : left < n
  pub right_present : right < n
  pub none : (u : ℕ) → LeastUpper n dom left right u → ⊥

-- what questions 4 and 5 together say: the levels are a join semilattice, and `join` is its join
pub record JoinSemilattice (n : ℕ) (dom : Dominance) : Type 0 where
  pub order : PartialOrder n dom
  pub least : (a b : ℕ) → a < n → b < n → LeastUpper n dom a b (join n dom a b)
