-- Tests over the numbers below n: what "each", "no two" and "every pair" of document 01 compute to. Assumes nothing.
use Rattle.std.specs.Prelude.{ℕ, zero, suc, Bool, true, not, cond, ◌&&◌, ◌||◌}

-- b passes wherever a does
abbrev pub implies : Bool → Bool → Bool
implies a b = not a || b

-- each number below n passes
unfoldable pub all : ℕ → (ℕ → Bool) → Bool
all zero p = true
all (suc n) p = all n p && p n

-- the least number below n that passes, or n where none does
unfoldable pub first : ℕ → (ℕ → Bool) → ℕ
first zero p = zero
first (suc n) p = cond (p zero) zero (suc (first n (λ i. p (suc i))))
