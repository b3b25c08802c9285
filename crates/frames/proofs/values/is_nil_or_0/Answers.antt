-- `is_nil_or_0`: NIL counts as 0.
use Rattle.std.proofs.Common.{◌∙◌, ap, eqb}
use Rattle.frames.proofs.Laws.Values.{nil_as_0}
use Rattle.frames.proofs.values.is_nil_or_0.Goals as goal

pub returns : goal.returns
returns c = ap (λ n. eqb n 0) c.unwrap_or.ensures ∙ nil_as_0 c.args.v
