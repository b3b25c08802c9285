-- The invariant: the first `i` words of the row stand at its place.
use Rattle.std.proofs.Common.{◌≤◌, length}
use Rattle.rows.proofs.Laws.Moves.{Storing}
use Rattle.rows.proofs.put.Given as goal

abbrev pub invariant-loop-i : goal.invariant-loop-i
invariant-loop-i l = (l.i ≤ length l.row) × Storing l.initial.words l.words l.at l.row l.i
