-- Number, blank, place and line feed stand one behind the other.
use mathlib.Core.List.{[], ◌∷◌, ◌++◌}
use native.Mathlib.Omega.{arith}
use Rattle.lists.specs.Placed.{Placed}
use Rattle.lists.proofs.Laws.Placed.{placed_then, placed-written}
use Rattle.text.specs.Lines.{blank, line_feed, decimal_size, decimal_of, refusal_line}
use Rattle.lines.proofs.Laws.Lines.{decimal_length}
use Rattle.lines.proofs.put_refusal.Goals as goal

pub put-second-requires : goal.put-second-requires
put-second-requires c =
    let number = c.put_decimal-blank in
    omega (arith, c.requires, number.auto.text, number.ensures.ends, decimal_length decimal_size c.args.number)

pub put_decimal-end-requires : goal.put_decimal-end-requires
put_decimal-end-requires c =
    let number = c.put_decimal-blank in
    let space = c.put-second in
    omega (arith, c.requires, number.auto.text, number.ensures.ends, decimal_length decimal_size c.args.number, space.auto.text, space.ensures.ends)

pub put-requires : goal.put-requires
put-requires c =
    let number = c.put_decimal-blank in
    let space = c.put-second in
    let place = c.put_decimal-end in
    omega (
      arith,
      c.requires,
      number.auto.text,
      number.ensures.ends,
      decimal_length decimal_size c.args.number,
      space.auto.text,
      space.ensures.ends,
      place.auto.text,
      place.ensures.ends,
      decimal_length decimal_size c.args.place,
    )

pub returns : goal.returns
unfolding refusal_line
returns c =
    let g = c.args in
    let t = g.text.now in
    let number = c.put_decimal-blank in
    let space = c.put-second in
    let place = c.put_decimal-end in
    let end = c.put in
    let two : Placed (decimal_of g.number ++ (blank ∷ [])) 0 t space.new.text space.result =
    placed_then t number.new.text (decimal_of g.number) 0 number.result number.ensures space.new.text (blank ∷ []) space.result space.ensures in
    let three : Placed (decimal_of g.number ++ (blank ∷ []) ++ decimal_of g.place) 0 t place.new.text place.result =
    placed_then t space.new.text (decimal_of g.number ++ (blank ∷ [])) 0 space.result two place.new.text (decimal_of g.place) place.result place.ensures in
    placed-written (refusal_line g.number g.place) t end.new.text end.result
    (placed_then t place.new.text (decimal_of g.number ++ (blank ∷ []) ++ decimal_of g.place) 0 place.result three end.new.text (line_feed ∷ []) end.result end.ensures)
