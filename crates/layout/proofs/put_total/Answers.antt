-- Word, number and line feed stand one behind the other.
use native.Mathlib.Omega.{arith}
use Rattle.layout.proofs.Laws.Placing.{placed_next}
use Rattle.text.specs.Text.{total_gap, total_columns, total_line}
use Rattle.text.proofs.Laws.Lengths.{apart_length}
use Rattle.layout.proofs.put_total.Goals as goal

pub put-requires : goal.put-requires
put-requires c =
    let word = c.put_all-second in
    let number = c.put_apart-end in
    omega (
      arith,
      c.requires,
      word.auto.text,
      word.ensures.ends,
      number.auto.page,
      number.ensures.ends,
      apart_length total_gap total_columns c.args.total,
    )

pub returns : goal.returns
unfolding total_line
returns c = placed_next (placed_next c.put_all-second.ensures c.put_apart-end.ensures) c.put.ensures
