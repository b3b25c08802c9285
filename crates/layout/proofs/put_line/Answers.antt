-- The front, three numbers and the line feed stand one behind the other.
use Rattle.layout.proofs.Laws.Placing.{placed_next}
use Rattle.text.specs.Text.{line_of}
use Rattle.layout.proofs.put_line.Goals as goal

pub returns : goal.returns
unfolding line_of
returns c =
    let first = rw c.half_in-first.ensures.0 at c.put_field-third.ensures in
    let last = rw c.half_in-last.ensures.0 at c.put_field-fourth.ensures in
    let steps = rw c.half_in-steps.ensures.0 at c.put_field-end.ensures in
    placed_next (placed_next (placed_next (placed_next c.put_front-second.ensures first) last) steps) c.put.ensures
