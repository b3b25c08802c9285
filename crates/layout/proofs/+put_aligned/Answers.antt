use native.Mathlib.Omega.{arith}
use Rattle.text.proofs.Laws.Lengths.{aligned_length}
use Rattle.layout.proofs.Laws.Placing.{upper_digit, aligned_none, aligned_few, aligned_more}
use Prim.Native.Nat.{◌-◌, ◌/◌}
use Rattle.layout.proofs.+put_aligned.Goals as goal

pub returns-then-columns-eq0 : goal.returns-then-columns-eq0
returns-then-columns-eq0 t c =
    aligned_none c.args.columns c.args.n c.args.at c.args.page.now c.if-columns-eq0.true (omega (arith, c.requires))

pub returns-then-n-lt10 : goal.returns-then-n-lt10
returns-then-n-lt10 t c =
    let g = c.args in
    let before = c.put_blanks-next in
    let put = c.put in
    aligned_few g.at before.result put.result g.page.now before.new.page put.new.text g.columns g.n c.if-columns-eq0.false c.if-n-lt10.true before.ensures
    (rw (c.digit.ensures, upper_digit) at put.ensures)

pub put-requires-2 : goal.put-requires-2
put-requires-2 t c =
    let before = c.put_aligned-next in
    omega (arith, c.requires, c.if-columns-eq0.false, before.auto.page, before.ensures.ends, aligned_length (c.args.columns - 1) (c.args.n / 10))

pub returns : goal.returns
returns t c =
    let g = c.args in
    let before = c.put_aligned-next in
    let put = c.put-2 in
    aligned_more g.at before.result put.result g.page.now before.new.page put.new.text g.columns g.n c.if-columns-eq0.false c.if-n-lt10.false before.ensures
    (rw (c.digit-2.ensures, upper_digit) at put.ensures)
