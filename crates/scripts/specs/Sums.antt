-- What is promised of sums, as a statement. Its proof is in proofs/Sums.antt. Assumes nothing.
use Rattle.std.specs.Prelude.{ℕ, ◌+◌, ◌≤◌, ◌<◌, ◌≡◌}
use Rattle.session.specs.Value.{Value}
use Rattle.std.specs.Prelude.{None, Some}
use Rattle.scripts.specs.Limits.{greatest_number}
use Rattle.scripts.specs.Value.{sum, number_in}

-- "ADD gives NIL when the sum passes 4,294,967,295; at that value it is still a number"
pub record SumsBounded : Type 0 where
  pub up_to : (m n : ℕ) → m + n ≤ greatest_number → sum (Some m) (Some n) ≡ Some (m + n)
  pub past : (m n : ℕ) → greatest_number < m + n → sum (Some m) (Some n) ≡ None
  -- a sum that is a number is one of those, and not less than what was added: no mileage looks young
  pub bounded : (x y : Value) (k : ℕ) → sum x y ≡ Some k → k ≤ greatest_number
  pub not_less : (x y : Value) (k : ℕ) → sum x y ≡ Some k → (number_in x ≤ k) × (number_in y ≤ k)
  -- "NIL if either is NIL"
  pub nil_added : (x : Value) → sum x None ≡ None
  pub added_to_nil : (y : Value) → sum None y ≡ None
