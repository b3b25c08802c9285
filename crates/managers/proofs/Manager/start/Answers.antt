use Prim.Native.Nat.{ℕ, ◌+◌, ◌≤◌, ◌<◌}
use mathlib.Core.Path.{◌≡◌, refl, sym, ◌∙◌, ap, ap₂}
use mathlib.Core.Bool.{true, false}
use mathlib.Core.List.{List, [], ◌∷◌}
use native.Mathlib.Omega.{arith}
use borrow.Author.Tests.{leb-false}
use lib.Dec.{leb}
use lib.ListN.{length}
use Rattle.lists.proofs.Laws.Range.{not_both}
use Rattle.session.specs.Program.{program_of}
use Rattle.session.specs.Questions.{verdict_of, Accepted}
use Rattle.session.specs.Limits.{names}
use Rattle.session.specs.declared.Message.{Message}
use Rattle.session.specs.Value.{Value}
use Rattle.std.specs.Prelude.{None}
use Rattle.lists.proofs.Laws.Lists.{holds, fails, truth}
use Rattle.scripts.specs.Ending.{is_running}
use Rattle.scripts.specs.State as defined
use Rattle.scripts.specs.Frame.{frame_for}
use Rattle.scripts.specs.Manager.{is_end, next_step, concluded, started}
use Rattle.scripts.specs.Valid.{Startable}
use Rattle.scripts.specs.declared.Ending.{Ending}
use Rattle.scripts.specs.declared.Ending.TheVariants.{Running, Finished}
use Rattle.scripts.proofs.Laws.Settle.{concluded_last, concluded_not}
use Rattle.frames.specs.Frames.{slot_of, script_in, name_in, frame_of, below, Placed}
use Rattle.frames.specs.declared.Frame.{Frame}
use Rattle.frames.specs.declared.Waiting.{Waiting}
use Rattle.frames.proofs.Laws.Frames.{slot_script, slot_name, at_end, not_end}
use Rattle.cores.specs.Moves.{stood_as, closed_as}
use Rattle.cores.specs.declared.Core.{Core}
use Rattle.cores.specs.declared.Effect.TheVariants.{Nothing}
use Rattle.cores.proofs.Laws.Closed.{closed_last, closed_unfinished}
use Rattle.managers.specs.Manager.{manager_of}
use Rattle.managers.specs.Steps.{waiting_frames, Starts, WellFormed}
use Rattle.managers.proofs.Manager.start.Goals as goal

-- a manager with its first frame
abbrev begun : ℕ → ℕ → Frame → Core
begun level first f =
    record {
      level = level;
      first = first;
      steps = 0;
      writes = 0;
      forks = 0;
      height = 1;
      ending = Running;
      reply = None;
      top = f;
      effect = Nothing;
    }

-- as the definitions have it, at a write stamp
abbrev alone : ℕ → ℕ → ℕ → defined.Frame → defined.Manager
alone level first stamp f =
    record {
      level = level;
      first = first;
      stamp = stamp;
      steps = 0;
      writes = 0;
      forks = 0;
      ending = Running;
      reply = None;
      frames = f ∷ [];
    }

module _ (s : List ℕ) (a : verdict_of s ≡ Accepted) (level stamp : ℕ) (m : Message) (h : Startable s level stamp m) (script : ℕ) (f : Frame) (is : frame_of f ≡ frame_for m.object script m.name 0 true m.parameter) (p : Placed s f) (ws : List Waiting) (room : length ws ≡ waiting_frames) where
  -- no fork made adds nothing to the write stamp
  none : stamp + 0 ≡ stamp
  none = omega arith

  -- the manager that starts with this script
  abbrev alike : defined.Manager
  alike = concluded (program_of s) (alone level stamp stamp (frame_for m.object script m.name 0 true m.parameter))

  -- an empty method ends at once
  ends : leb f.count f.next ≡ true → manager_of (record { core = stood_as (begun level stamp f) 0 Finished None; waiting = ws }) ≡ alike
  unfolding manager_of
  ends q =
      let g = frame_for m.object script m.name 0 true m.parameter in
      rw none (sym (concluded_last (program_of s) (alone level stamp stamp g) g (ap (λ x. is_end (next_step (program_of s) x)) (sym is) ∙ at_end s a f p q)))

  -- it is within its limits, however it stands
  stood_held : (n : ℕ) (e : Ending) → n ≤ 1 → (is_running e ≡ true → (0 < n) × (f.next < f.count)) → WellFormed s (record { core = stood_as (begun level stamp f) n e None; waiting = ws })
  stood_held n e low live =
      record {
        level = h.placed;
        low = omega (arith, low);
        made = omega arith;
        wrote = omega arith;
        forked = omega arith;
        fits = h.fits;
        top = p;
        room = room;
        each = λ k l. absurd (omega (arith, l, low));
        live = λ r. (live r).0;
        few = λ r. omega arith;
        unfinished = λ r. (live r).1;
      }

  -- another runs
  unfinished : leb f.count f.next ≡ false → manager_of (record { core = begun level stamp f; waiting = ws }) ≡ alike
  unfolding manager_of below
  unfinished q =
      let g = frame_for m.object script m.name 0 true m.parameter in
      ap₂ (alone level stamp) none is
      ∙ sym (concluded_not (program_of s) (alone level stamp stamp g) g [] refl refl (omega arith)
      (ap (λ x. is_end (next_step (program_of s) x)) (sym is) ∙ not_end s a f p (leb-false f.count f.next q)))

  stands : (c : Core) → c ≡ closed_as (begun level stamp f) → (manager_of (record { core = c; waiting = ws }) ≡ alike) × WellFormed s (record { core = c; waiting = ws })
  stands c e = elim (truth (leb f.count f.next)) [
    | holds q ↦ rw (e ∙ closed_last (begun level stamp f) refl q) (ends q, stood_held 0 Finished (omega arith) (λ r. absurd (not_both false r refl)))
    | fails q ↦ rw (e ∙ closed_unfinished (begun level stamp f) refl q (omega arith)) (unfinished q, stood_held 1 Running (omega arith) (λ _. (omega arith, leb-false f.count f.next q)))
  ]

  starts : (c : Core) → c ≡ closed_as (begun level stamp f) → Starts s level stamp m script (record { core = c; waiting = ws }) × WellFormed s (record { core = c; waiting = ws })
  unfolding started
  starts c e =
      (λ read seen. (stands c e).0 ∙ ap (λ w. concluded (program_of s) (alone level stamp stamp (frame_for m.object w m.name 0 true m.parameter))) (sym seen), (stands c e).1)

-- the first frame has the script and the name that its method's number was made of
found : (o script name slot : ℕ) (v : Value) → name < names → slot ≡ slot_of script name → frame_for o (script_in slot) (name_in slot) 0 true v ≡ frame_for o script name 0 true v
found o script name slot v h e = rw (e, slot_script script name h, slot_name script name h) refl

pub returns : goal.returns
returns c =
    let n = c.new-top in
    let w = c.slot_of in
    starts c.args.session.now.bytes.now c.args.session.now.accepted c.args.level c.args.stamp c.args.message c.requires.0 c.args.script n.result (ap frame_of n.ensures.0 ∙ found c.args.message.object c.args.script c.args.message.name w.result c.args.message.parameter c.requires.0.named w.ensures) n.ensures.1 _ refl c.closed-core.result c.closed-core.ensures
