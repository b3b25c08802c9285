-- Proof of `specs/Sums`. Assumes nothing.
use Prim.Native.Nat.{ℕ, ◌+◌, ◌≤◌, ◌<◌}
use mathlib.Core.Path.{◌≡◌, refl}
use native.Mathlib.Omega.{arith}
use borrow.Author.Tests.{lt-ltb, le-ltb, ltb-false}
use lib.Dec.{ltb}
use Rattle.session.specs.Value.{Value}
use Rattle.std.specs.Prelude.{None, Some}
use Rattle.lists.proofs.Laws.Lists.{holds, fails, truth}
use Rattle.scripts.specs.Limits.{greatest_number}
use Rattle.scripts.specs.Value.{sum, number_in}
use Rattle.scripts.specs.Sums.{SumsBounded}

same_number : (m k : ℕ) → Some m ≡ Some k → m ≡ k
same_number m k e = cc

no_number : (k : ℕ) → None ≡ Some k → ⊥
no_number k e = let z : ◌≡◌ {A = ℕ} 0 1 = cc in omega arith

pub up_to : (m n : ℕ) → m + n ≤ greatest_number → sum (Some m) (Some n) ≡ Some (m + n)
unfolding sum
up_to m n h = rw (le-ltb greatest_number (m + n) h) refl

pub past : (m n : ℕ) → greatest_number < m + n → sum (Some m) (Some n) ≡ None
unfolding sum
past m n h = rw (lt-ltb greatest_number (m + n) h) refl

nil_added : (x : Value) → sum x None ≡ None
unfolding sum
nil_added None = refl
nil_added (Some m) = refl

added_to_nil : (y : Value) → sum None y ≡ None
unfolding sum
added_to_nil y = refl

-- of two numbers whose sum is one it is their sum
number_sum : (m n k : ℕ) → sum (Some m) (Some n) ≡ Some k → (m + n ≤ greatest_number) × (m + n ≡ k)
unfolding sum
number_sum m n k e = elim (truth (ltb greatest_number (m + n))) [
  | holds h ↦ absurd (no_number k (rw h at e))
  | fails h ↦ (ltb-false greatest_number (m + n) h, same_number (m + n) k (rw h at e))
]

bounded : (x y : Value) (k : ℕ) → sum x y ≡ Some k → k ≤ greatest_number
unfolding sum
bounded None y k e = absurd (no_number k e)
bounded (Some m) None k e = absurd (no_number k e)
bounded (Some m) (Some n) k e =
    let q = number_sum m n k e in
    omega (arith, q.0, q.1)

not_less : (x y : Value) (k : ℕ) → sum x y ≡ Some k → (number_in x ≤ k) × (number_in y ≤ k)
unfolding sum
not_less None y k e = absurd (no_number k e)
not_less (Some m) None k e = absurd (no_number k e)
not_less (Some m) (Some n) k e =
    let q = number_sum m n k e in
    (omega (arith, q.1), omega (arith, q.1))

pub sums_bounded : SumsBounded
sums_bounded =
    record {
      up_to = up_to;
      past = past;
      bounded = bounded;
      not_less = not_less;
      nil_added = nil_added;
      added_to_nil = added_to_nil;
    }
