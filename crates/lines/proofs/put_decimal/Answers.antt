use Prim.Native.Nat.{ℕ, ◌^◌, ◌<◌}
use mathlib.Core.Path.{◌≡◌, sym, ◌∙◌, ap}
use mathlib.Core.List.{List}
use native.Mathlib.Omega.{arith}
use lib.ListN.{length, take}
use Rattle.io.specs.Digits.{last_digits as digits, IsDigitCount}
use Rattle.text.specs.Lines.{decimal_size, decimal_of}
use Rattle.lines.proofs.Laws.Lines.{decimal_is, decimal_length}
use Rattle.lines.proofs.put_decimal.Goals as goal

-- what `io::decimal` leaves at the front of its buffer
spelt : (n k : ℕ) (d : List ℕ) → n < 2 ^ 32 → IsDigitCount 10 1 n k → take k d ≡ digits 10 k n → take k d ≡ decimal_of n
spelt n k d h f e = e ∙ decimal_is decimal_size n k (omega arith) (omega arith) f

pub put_all-requires : goal.put_all-requires
put_all-requires c =
    let g = c.args in
    let d = c.decimal-count in
    let e : length (take d.result d.new.out) ≡ length (decimal_of g.number) = ap length (spelt g.number d.result d.new.out (omega arith) d.ensures.len d.ensures.digits) in
    omega (arith, e, decimal_length decimal_size g.number)

pub returns : goal.returns
returns c =
    let g = c.args in
    let d = c.decimal-count in
    rw (sym (spelt g.number d.result d.new.out (omega arith) d.ensures.len d.ensures.digits)) c.put_all.ensures
