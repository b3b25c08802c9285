-- Rows of equal width, counted. Assumes nothing.
use Prim.Native.Nat.{ℕ, ◌+◌, ◌*◌, ◌≤◌, ◌<◌}
use native.Mathlib.Nat.{mul-le-mul_left, mul-suc}
use native.Mathlib.Omega.{arith}

-- one of n rows ends within them
pub row_within : (width i n : ℕ) → i < n → width * i + width ≤ width * n
row_within width i n h = omega (arith, mul-le-mul_left width h, mul-suc width i)
