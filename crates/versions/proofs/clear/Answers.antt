use Rattle.std.proofs.Common.{refl}
use Rattle.std.proofs.Math.Seq.{length-take-le}
use Rattle.model.specs.Limits.{work_numbers}
use Rattle.calls.specs.Entries.{cleared}
use Rattle.versions.proofs.clear.Goals as goal

pub returns : goal.returns
unfolding cleared
returns c = rw (c.fill.ensures.after (λ y p. p), length-take-le work_numbers c.args.work.now c.requires) refl
