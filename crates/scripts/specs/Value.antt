-- Values of registers and fields: "NIL or a number". What is promised of sums is in `Sums`. Assumes nothing.
use Rattle.std.specs.Prelude.{ℕ, ◌+◌, Bool, true, cond, eqb, ltb}
use Rattle.session.specs.Value.{Value}
use Rattle.std.specs.Prelude.{None, Some}
use Rattle.scripts.specs.Limits.{greatest_number}

-- "ADD b to a, .. NIL if either is NIL"; "ADD gives NIL when the sum passes 4,294,967,295"
unfoldable pub sum : Value → Value → Value
sum None y = None
sum (Some m) None = None
sum (Some m) (Some n) = cond (ltb greatest_number (m + n)) None (Some (m + n))

-- "if a is NIL or 0"
unfoldable pub is_nil_or0 : Value → Bool
is_nil_or0 None = true
is_nil_or0 (Some n) = eqb n 0

-- "tag (1 number, 0 NIL)", and the number, "0 if NIL"
abbrev pub tag : Value → ℕ
tag None = 0
tag (Some n) = 1

abbrev pub number_in : Value → ℕ
number_in None = 0
number_in (Some n) = n
