-- Values as options: NIL as the number 0, and sums. Assumes nothing.
use Rattle.std.proofs.Common.{Bool, true, false, cond, ℕ, ◌+◌, ◌^◌, ◌<◌, ◌≡◌, refl, sym, ◌∙◌, ap, eqb, arith}
use Rattle.std.specs.Prelude.{None, Some}
use Rattle.std.specs.Option.{unwrap_or, SomeIff}
use Rattle.session.specs.Value.{Value}
use Rattle.scripts.specs.Value.{sum, is_nil_or0}
use Rattle.scripts.proofs.Sums.{up_to, past}

pub nil_as_0 : (v : Value) → eqb (unwrap_or v 0) 0 ≡ is_nil_or0 v
unfolding is_nil_or0
nil_as_0 None = refl
nil_as_0 (Some n) = refl

-- what checked addition of 32 bits gives is the sum
pub checked_sum : (r : Value) (m n : ℕ) → SomeIff r (m + n < 2 ^ 32) (m + n) → r ≡ sum (Some m) (Some n)
checked_sum None m n h = sym (past m n (omega (arith, h)))
checked_sum (Some k) m n h = ap Some h.1 ∙ sym (up_to m n (omega (arith, h.0)))

-- a choice of one value twice
pub either_same : (b : Bool) (v : Value) → cond b v v ≡ v
either_same true v = refl
either_same false v = refl
