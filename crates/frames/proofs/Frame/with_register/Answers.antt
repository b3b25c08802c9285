use native.Mathlib.Omega.{arith}
use Prim.Native.Nat.{ℕ, zero, suc, ◌<◌}
use mathlib.Core.Path.{◌≡◌, refl, sym}
use Rattle.session.specs.Value.{Value}
use Rattle.scripts.specs.State.{Frame}
use Rattle.scripts.specs.Frame.{with_register}
use Rattle.frames.specs.Frames.{frame_of}
use Rattle.frames.proofs.Frame.with_register.Goals as goal

-- register 3, and what is no register
last : (f : Frame) (k : ℕ) (v : Value) → 2 < k → with_register f k v ≡ with_register f 3 v
unfolding with_register
last f zero v h = absurd (omega arith)
last f (suc zero) v h = absurd (omega arith)
last f (suc (suc zero)) v h = absurd (omega arith)
last f (suc (suc (suc k))) v h = refl

pub returns-in-0 : goal.returns-in-0
unfolding with_register
returns-in-0 c = rw c.in-0.is (record { frame = refl; same = record { object = refl; slot = refl; start = refl; count = refl; answer = refl } })

pub returns-in-1 : goal.returns-in-1
unfolding with_register
returns-in-1 c = rw c.in-1.is (record { frame = refl; same = record { object = refl; slot = refl; start = refl; count = refl; answer = refl } })

pub returns-in-2 : goal.returns-in-2
unfolding with_register
returns-in-2 c = rw c.in-2.is (record { frame = refl; same = record { object = refl; slot = refl; start = refl; count = refl; answer = refl } })

pub returns-in_default : goal.returns-in_default
unfolding with_register
returns-in_default c = record { frame = sym (last (frame_of c.args.self) c.args.k c.args.v (omega arith)); same = record { object = refl; slot = refl; start = refl; count = refl; answer = refl } }
