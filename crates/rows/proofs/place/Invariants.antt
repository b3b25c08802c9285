-- The invariant: the row behind the place, if there is one, has a greater key.
use Rattle.std.proofs.Common.{◌+◌, ◌*◌, ◌<◌, get_or}
use Rattle.rows.proofs.place.Given as goal

abbrev pub invariant-loop-i : goal.invariant-loop-i
invariant-loop-i l = l.i < l.count → l.key < get_or l.words (l.base + l.width * l.i) 0
