-- A manager that runs on after a start or a script step has a frame, and steps left. Assumes nothing.
use Prim.Native.Nat.{ℕ, ◌+◌, ◌<◌}
use mathlib.Core.Path.{◌≡◌, refl}
use mathlib.Core.Bool.{Bool, true, false}
use mathlib.Core.List.{List, [], ◌∷◌}
use native.Mathlib.Omega.{arith}
use borrow.Author.Tests.{ltb-true}
use lib.Dec.{ltb}
use lib.ListN.{length}
use Rattle.lists.proofs.Laws.Range.{not_both}
use Rattle.session.specs.Program.{Program}
use Rattle.session.specs.Value.{Value}
use Rattle.lists.proofs.Laws.Lists.{holds, fails, truth}
use Rattle.scripts.specs.Limits.{max_script_steps}
use Rattle.scripts.specs.Frame.{at_step}
use Rattle.scripts.specs.Ending.{is_running}
use Rattle.scripts.specs.Manager.{top, next_step, settled_from, ending_of, concluded, operated, stepped}
use Rattle.scripts.specs.State.{Frame, Manager}

running_when : (fs : List Frame) (few : Bool) → is_running (ending_of fs few) ≡ true → few ≡ true
running_when [] few e = absurd (not_both false e refl)
running_when (f ∷ fs) true e = refl
running_when (f ∷ fs) false e = absurd (not_both false e refl)

running_where : (fs : List Frame) (few : Bool) → is_running (ending_of fs few) ≡ true → 0 < length fs
running_where [] few e = absurd (not_both false e refl)
running_where (f ∷ fs) few e = omega arith

pub concluded_live : (p : Program) (m : Manager) → is_running (concluded p m).ending ≡ true → 0 < length (concluded p m).frames
unfolding concluded
concluded_live p m e =
    let n = settled_from p m m.frames in
    running_where n.frames (ltb n.steps max_script_steps) e

pub concluded_few : (p : Program) (m : Manager) → is_running (concluded p m).ending ≡ true → (concluded p m).steps < max_script_steps
unfolding concluded
concluded_few p m e =
    let n = settled_from p m m.frames in
    ltb-true n.steps max_script_steps (running_when n.frames (ltb n.steps max_script_steps) e)

pub running_few : (p : Program) (read : ℕ → ℕ → Value) (m : Manager) → is_running (stepped p read m).manager.ending ≡ true → (stepped p read m).manager.steps < max_script_steps
unfolding stepped
running_few p read m e =
    let f = top m in
    let done = (operated p read m (at_step f (f.next + 1)) (next_step p f)).manager in
    elim (truth (is_running done.ending)) [
      | holds q ↦ rw q (concluded_few p _ (rw q at e))
      | fails q ↦ absurd (not_both (is_running done.ending) (rw q at e) q)
    ]

pub running_live : (p : Program) (read : ℕ → ℕ → Value) (m : Manager) → is_running (stepped p read m).manager.ending ≡ true → 0 < length (stepped p read m).manager.frames
unfolding stepped
running_live p read m e =
    let f = top m in
    let done = (operated p read m (at_step f (f.next + 1)) (next_step p f)).manager in
    elim (truth (is_running done.ending)) [
      | holds q ↦ rw q (concluded_live p _ (rw q at e))
      | fails q ↦ absurd (not_both (is_running done.ending) (rw q at e) q)
    ]
