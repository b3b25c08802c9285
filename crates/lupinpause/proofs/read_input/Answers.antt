use Rattle.std.proofs.Common.{rules, arith}
use Rattle.io.proofs.Counting.{prefix_len_of_le}
use Rattle.lupinpause.proofs.Answered.{full_refused}
use Rattle.lupinpause.proofs.Taken.{taken_more}
use Rattle.lupinpause.proofs.read_input.Goals as goal

pub loop-done-preserved-in-Ok : goal.loop-done-preserved-in-Ok
loop-done-preserved-in-Ok g c =
    let at = c.loop-done in
    (search rules, search rules, taken_more _ _ _ _ _ _ at.buffer c.read.new.buf at.invariant.1 c.in-Ok.ensures.bound.0 at.invariant.2 c.in-Ok.ensures.bytes.0)

pub returns-clause-within : goal.returns-clause-within
returns-clause-within g c =
    let at = c.loop-done in
    (prefix_len_of_le _ _ (omega arith), full_refused at.done at.buffer (omega arith))
