use Prim.Native.Nat.{ℕ, zero, suc, ◌<◌}
use mathlib.Core.Path.{◌≡◌, refl}
use native.Mathlib.Omega.{arith}
use Rattle.scripts.specs.State.{Frame}
use Rattle.scripts.specs.Frame.{register}
use Rattle.frames.specs.Frames.{frame_of}
use Rattle.frames.proofs.Frame.register.Goals as goal

-- register 3, and what is no register
last : (f : Frame) (k : ℕ) → 2 < k → f.r3 ≡ register f k
last f zero h = absurd (omega arith)
last f (suc zero) h = absurd (omega arith)
last f (suc (suc zero)) h = absurd (omega arith)
last f (suc (suc (suc k))) h = refl

pub returns-in_default : goal.returns-in_default
returns-in_default c = last (frame_of c.args.self) c.args.k (omega arith)
