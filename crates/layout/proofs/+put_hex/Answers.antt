use native.Mathlib.Omega.{arith}
use Rattle.text.proofs.Laws.Lengths.{hex_length}
use Rattle.layout.proofs.Laws.Placing.{upper_digit, hex_none, hex_more}
use Prim.Native.Nat.{◌-◌, ◌/◌}
use Rattle.layout.proofs.+put_hex.Goals as goal

pub returns-then-places-eq0 : goal.returns-then-places-eq0
returns-then-places-eq0 t c =
    hex_none c.args.places c.args.n c.args.at c.args.page.now c.if-places-eq0.true (omega (arith, c.requires))

pub put-requires : goal.put-requires
put-requires t c =
    let before = c.put_hex-next in
    omega (arith, c.requires, c.if-places-eq0.false, before.auto.page, before.ensures.ends, hex_length (c.args.places - 1) (c.args.n / 16))

pub returns : goal.returns
returns t c =
    let g = c.args in
    let before = c.put_hex-next in
    let put = c.put in
    hex_more g.at before.result put.result g.page.now before.new.page put.new.text g.places g.n c.if-places-eq0.false before.ensures
    (rw (c.digit.ensures, upper_digit) at put.ensures)
