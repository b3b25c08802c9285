-- Pops, one at a time, and what stands after them. Assumes nothing.
use Prim.Native.Nat.{◌≤◌, ◌<◌}
use mathlib.Core.Path.{◌≡◌, refl, sym, ◌∙◌, ap}
use mathlib.Core.Bool.{true, false, cond}
use mathlib.Core.List.{List, [], ◌∷◌}
use borrow.Author.Tests.{lt-ltb, le-ltb}
use lib.Dec.{ltb}
use Rattle.lists.proofs.Laws.Range.{not_both}
use Rattle.session.specs.Program.{Program}
use Rattle.session.specs.Value.{Value}
use Rattle.std.specs.Prelude.{None}
use Rattle.lists.proofs.Laws.Lists.{holds, fails, truth}
use Rattle.scripts.specs.Limits.{max_script_steps}
use Rattle.scripts.specs.Frame.{with_register}
use Rattle.scripts.specs.Ending.{is_running}
use Rattle.scripts.specs.Manager.{with_frames, replied, with_counts, is_end, next_step, popped, settled, ending_of, concluded}
use Rattle.scripts.specs.State.{Frame, Manager}
use Rattle.scripts.specs.declared.Ending.{Ending}
use Rattle.scripts.specs.declared.Ending.TheVariants.{Running, Finished, OutOfSteps, OutOfWrites}

-- a frame above another answers it as it pops
pub popped_to_lem : (m : Manager) (f g : Frame) (gs : List Frame) (v : Value) →
    popped (with_frames m (f ∷ g ∷ gs)) v ≡ with_frames m (with_register g f.into (cond f.returns v None) ∷ gs)
unfolding popped
popped_to_lem m f g gs v = refl

-- nothing pops where the top frame is not at its script's end
pub settled-stays : (p : Program) (m : Manager) (f : Frame) (gs : List Frame) → is_end (next_step p f) ≡ false → settled p m f gs ≡ with_frames m (f ∷ gs)
unfolding settled
settled-stays p m f [] e = rw e
settled-stays p m f (g ∷ gs) e = rw e

-- the frames that a manager had are not looked at
settled_any : (p : Program) (m : Manager) (fs : List Frame) (f : Frame) (gs : List Frame) → settled p (with_frames m fs) f gs ≡ settled p m f gs
unfolding settled
settled_any p m fs f [] = refl
settled_any p m fs f (g ∷ gs) = elim (truth (is_end (next_step p f))) [
  | holds q ↦ rw q (settled_any p m fs (with_register g f.into None) gs)
  | fails q ↦ rw q refl
]

-- a manager with the ending that its frames and its steps give it
abbrev ended : Manager → Manager
ended n = with_counts n n.steps n.writes n.forks n.stamp (ending_of n.frames (ltb n.steps max_script_steps))

-- a frame at its script's end pops
pub concluded_pop : (p : Program) (m : Manager) (f g : Frame) (gs : List Frame) → is_end (next_step p f) ≡ true → concluded p (with_frames m (f ∷ g ∷ gs)) ≡ concluded p (with_frames m (with_register g f.into None ∷ gs))
unfolding concluded settled
concluded_pop p m f g gs e =
    let h = with_register g f.into None in
    rw e (ap ended (settled_any p m (f ∷ g ∷ gs) h gs ∙ sym (settled_any p m (h ∷ gs) h gs)))

-- the last one too, and the manager has finished
pub concluded_last : (p : Program) (m : Manager) (f : Frame) → is_end (next_step p f) ≡ true → concluded p (with_frames m (f ∷ [])) ≡ with_counts (replied m None) m.steps m.writes m.forks m.stamp Finished
unfolding concluded settled
concluded_last p m f e = rw e

-- one whose top frame goes on has used up its steps, or runs
pub concluded_out : (p : Program) (m : Manager) (f : Frame) (gs : List Frame) → max_script_steps ≤ m.steps → is_end (next_step p f) ≡ false → concluded p (with_frames m (f ∷ gs)) ≡ with_counts (with_frames m (f ∷ gs)) m.steps m.writes m.forks m.stamp OutOfSteps
unfolding concluded
concluded_out p m f gs h e =
    ap ended (settled-stays p (with_frames m (f ∷ gs)) f gs e) ∙ rw (le-ltb m.steps max_script_steps h)

pub concluded_runs : (p : Program) (m : Manager) (f : Frame) (gs : List Frame) → m.steps < max_script_steps → is_end (next_step p f) ≡ false → concluded p (with_frames m (f ∷ gs)) ≡ with_counts (with_frames m (f ∷ gs)) m.steps m.writes m.forks m.stamp Running
unfolding concluded
concluded_runs p m f gs h e =
    ap ended (settled-stays p (with_frames m (f ∷ gs)) f gs e) ∙ rw (lt-ltb m.steps max_script_steps h)

-- a manager that runs is left as it is where its top frame goes on
pub concluded_not : (p : Program) (m : Manager) (f : Frame) (gs : List Frame) → m.ending ≡ Running → m.frames ≡ f ∷ gs → m.steps < max_script_steps → is_end (next_step p f) ≡ false → concluded p m ≡ m
concluded_not p m f gs r e h q =
    ap (λ fs. concluded p (with_frames m fs)) e
    ∙ concluded_runs p m f gs h q
    ∙ ap (λ fs. with_counts (with_frames m fs) m.steps m.writes m.forks m.stamp Running) (sym e)
    ∙ ap (with_counts m m.steps m.writes m.forks m.stamp) (sym r)

pub running_is : (e : Ending) → is_running e ≡ true → e ≡ Running
running_is Running q = refl
running_is Finished q = absurd (not_both false q refl)
running_is OutOfSteps q = absurd (not_both false q refl)
running_is OutOfWrites q = absurd (not_both false q refl)
