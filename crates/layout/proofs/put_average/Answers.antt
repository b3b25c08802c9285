-- Word, level, quotient, remainder and line feed stand one behind the other.
use Rattle.layout.proofs.Laws.Placing.{placed_next}
use Rattle.text.specs.Text.{average_line}
use Rattle.layout.proofs.put_average.Goals as goal

pub returns : goal.returns
unfolding average_line
returns c =
    placed_next (placed_next (placed_next (placed_next c.put_all-second.ensures c.put_field-third.ensures) c.put_apart-fourth.ensures) c.put_apart-end.ensures) c.put.ensures
