use native.Mathlib.Omega.{arith}
use Rattle.queues.proofs.Laws.Row.{root_row}
use Rattle.queues.proofs.root_row.Goals as goal

pub returns : goal.returns
returns c = (
  c.row_of.ensures,
  rw c.row_of.ensures (root_row c.args.message (record { deep = omega arith; object = omega (arith, c); name = omega (arith, c) })),
)
