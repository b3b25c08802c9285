-- The four numbers stand one behind the other.
use Rattle.layout.proofs.Laws.Placing.{placed_next}
use Rattle.text.specs.Text.{front_of}
use Rattle.layout.proofs.put_front.Goals as goal

pub returns : goal.returns
unfolding front_of
returns c =
    let stamp = rw c.word_at-stamp.ensures at c.put_hex-second.ensures in
    let level = rw c.byte_at-level.ensures at c.put_field-third.ensures in
    let ending = rw c.byte_at-ending.ensures at c.put_field-fourth.ensures in
    let writes = rw c.byte_at-writes.ensures at c.put_field.ensures in
    placed_next (placed_next (placed_next stamp level) ending) writes
