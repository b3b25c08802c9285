-- A CREATE or WITHDRAW of the code's manager, pops and ending included, is a script step. Assumes nothing.
use Prim.Native.Nat.{ℕ, suc, ◌-◌}
use mathlib.Core.Path.{◌≡◌, refl, sym, ◌∙◌, ap, ap₂}
use mathlib.Core.Bool.{false, ◌&&◌}
use mathlib.Core.List.{List}
use native.Mathlib.Omega.{arith}
use lib.Dec.{ltb, leb}
use lib.ListN.{length}
use Rattle.lists.proofs.Laws.Range.{not_both}
use Rattle.session.specs.Program.{program_of}
use Rattle.scripts.specs.Ending.{is_running}
use Rattle.scripts.specs.Manager.{stepped}
use Rattle.frames.specs.Frames.{frame_of, below}
use Rattle.cores.specs.Core.{bare, standing, is_asking}
use Rattle.cores.specs.Moves.{causing, closed_as}
use Rattle.changes.specs.Changes.{Stood, StepChanged}
use Rattle.changes.specs.Changes as operation
use Rattle.cores.specs.declared.Core.{Core}
use Rattle.changes.specs.declared.Changed as made
use Rattle.cores.specs.declared.Effect.TheVariants.{Nothing}
use Rattle.managers.specs.Manager.{manager_of}
use Rattle.managers.specs.Steps.{Changeable, ChangedFrom, Lowering}
use Rattle.managers.specs.declared.Manager.{Manager}
use Rattle.managers.proofs.Laws.Turns.{below_length}
use Rattle.managers.proofs.Laws.Advance.{stack_some, same_frames}
use Rattle.managers.proofs.Laws.Closing.{left, closed_comes, closed_held}

module _ (s masks index current : List ℕ) (m : Manager) (o : Changeable s masks index current m) where
  abbrev quiet : Core
  quiet = causing m.core Nothing

  pub core_changeable : operation.Changeable s masks current quiet
  core_changeable =
      let h = o.held in
      let run = o.running in
      record {
        leveled = o.leveled;
        fields_there = o.fields_there;
        scripted = o.scripted;
        sits = record {
          level = h.level;
          low = h.low;
          made = h.made;
          wrote = h.wrote;
          forked = h.forked;
          fits = h.fits;
          top = h.top;
          over = λ q. absurd (not_both false q refl);
          runs = λ _. run;
          some = λ _. h.live run;
          tall = tt;
        };
        internal = refl;
        few = h.few run;
      }

  -- the pops of its step are to come
  pub lowering_changed : (c : Core) → Stood s quiet c → Lowering s index m.waiting c c
  lowering_changed c t =
      record {
        indexed = o.indexed;
        same = refl;
        sits = t.sits;
        done = t.done;
        room = o.held.room;
        each = λ k h. o.held.each k (omega (arith, h, t.lower));
        effect_is = refl;
        steps_are = refl;
        level_is = refl;
        first_is = refl;
        asks = λ a. refl;
        unfinished = λ a. absurd (not_both (is_asking c.effect) a t.asks);
      }

  -- once they are made, the step is
  pub changed_done : (x : made.Changed) → StepChanged s current quiet x → (d : Core) → Lowering s index m.waiting x.core d → (is_running d.ending && (leb d.top.count d.top.next && ltb 1 d.height)) ≡ false → (r : Core) → r ≡ closed_as d → ChangedFrom s current m (record { manager = record { core = r; waiting = m.waiting }; change = x.change })
  unfolding manager_of
  changed_done x t d low q r is =
      let gs = below m.waiting (m.core.height - 1) in
      let some = o.held.live o.running in
      let tall : suc (length gs) ≡ m.core.height = omega (arith, below_length m.waiting (m.core.height - 1), some) in
      let stands : manager_of m ≡ standing m.core gs = ap (bare m.core) (stack_some m.core.height (frame_of m.core.top) gs some) in
      let here = closed_comes s index m.waiting x.core d low q r is ∙ low.same in
      record {
        is = λ read own.
            let y = t.is read own gs tall in
            ap₂ (λ a e. record { manager = a; effect = e })
            (ap (λ z. z.manager) here ∙ sym (ap (λ z. z.manager) (same_frames (program_of s) quiet x.core m.waiting t.stood.flat t.stood.tall)) ∙ y.0)
            y.1
            ∙ ap (stepped (program_of s) read) (sym stands);
        held = closed_held s index m.waiting x.core d low q r is;
        level_is = (left s index m.waiting x.core d low q r is).level ∙ low.level_is ∙ t.stood.level_is;
        first_is = (left s index m.waiting x.core d low q r is).first ∙ low.first_is ∙ t.stood.first_is;
      }
