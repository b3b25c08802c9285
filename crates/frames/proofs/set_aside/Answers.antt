use mathlib.Core.Path.{refl}
use Rattle.frames.proofs.Laws.Frames.{aside_waits}
use Rattle.frames.proofs.set_aside.Goals as goal

pub returns : goal.returns
returns c = record { is = refl; waits = λ s a p. aside_waits s c.args.f a p }
