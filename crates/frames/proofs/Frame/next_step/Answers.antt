use Prim.Native.Nat.{ℕ, zero, suc}
use mathlib.Core.Path.{◌≡◌, refl, ◌∙◌, ap}
use mathlib.Core.List.{List}
use native.Mathlib.Omega.{arith}
use lib.ListN.{length}
use Rattle.session.specs.Meaning.{step_at}
use Rattle.session.specs.Program.{program_of}
use Rattle.contents.specs.Reading.{MethodAt, IsMethod}
use Rattle.session.specs.declared.Step.{Step}
use Rattle.session.specs.declared.Step.TheVariants.{End}
use Rattle.scripts.specs.Manager.{script_step, next_step}
use Rattle.scripts.specs.Valid.{script_method}
use Rattle.frames.specs.Frames.{script_in, name_in, frame_of, Placed}
use Rattle.frames.specs.declared.Frame.{Frame}
use Rattle.frames.proofs.Frame.next_step.Goals as goal

-- the steps that a frame knows of are those of a method, if there are any
is_method : (s : List ℕ) (f : Frame) → Placed s f → IsMethod s f.start f.count
is_method s f p h = by (script_in f.slot) refl
  where
    by : (w : ℕ) → script_in f.slot ≡ w → (object : ℕ) × ((name : ℕ) × MethodAt s object name f.start f.count)
    by zero e = absurd (omega (arith, h, p.at.count_is, ap (λ w. length (script_method s w (name_in f.slot))) e))
    by (suc w) e = (w, (name_in f.slot, p.at.own w e))

-- so what is found there is the frame's next step
step_is : (s : List ℕ) (f : Frame) → Placed s f → (r : Step) → ((object name : ℕ) → MethodAt s object name f.start f.count → r ≡ step_at s object name f.next) → (f.count ≡ 0 → r ≡ End) → r ≡ next_step (program_of s) (frame_of f)
unfolding program_of
step_is s f p r own none = by (script_in f.slot) refl
  where
    by : (w : ℕ) → script_in f.slot ≡ w → r ≡ script_step (program_of s) (script_in f.slot) (name_in f.slot) f.next
    by zero e = unfold program_of in rw e (none (p.at.count_is ∙ ap (λ w. length (script_method s w (name_in f.slot))) e))
    by (suc w) e = unfold program_of in rw e (own w (name_in f.slot) (p.at.own w e))

pub returns : goal.returns
returns c =
    step_is c.args.session.now.bytes.now c.args.self c.requires _ c.step_in_method.ensures.0 c.step_in_method.ensures.1
