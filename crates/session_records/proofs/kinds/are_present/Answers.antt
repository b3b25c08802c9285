use native.Mathlib.Omega.{arith}
use Rattle.session.proofs.Laws.Parts.{below_5}
use Rattle.session_records.proofs.kinds.are_present.Goals as goal

pub overflow_add-result : goal.overflow_add-result
overflow_add-result c = omega (arith, below_5 c.args.session.now c.requires.session_value)

pub overflow_add-result-then-objects-ge1 : goal.overflow_add-result-then-objects-ge1
overflow_add-result-then-objects-ge1 c = omega (arith, below_5 c.args.session.now c.requires.session_value)

pub overflow_add-result-then-objects-ge1-2 : goal.overflow_add-result-then-objects-ge1-2
overflow_add-result-then-objects-ge1-2 c = omega (arith, below_5 c.args.session.now c.requires.session_value)
