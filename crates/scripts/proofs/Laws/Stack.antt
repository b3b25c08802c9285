-- A property of each frame of a stack, kept by a start and by a script step. Assumes nothing.
use Prim.Native.Nat.{ℕ, ◌+◌, ◌-◌, ◌≤◌, ◌<◌}
use mathlib.Core.Path.{◌≡◌, refl}
use mathlib.Core.Bool.{Bool, true, false}
use mathlib.Core.List.{List, [], ◌∷◌}
use native.Mathlib.Omega.{arith}
use borrow.Author.Tests.{ltb-true}
use lib.Dec.{ltb}
use lib.ListN.{length}
use Rattle.session.specs.Program.{Program}
use Rattle.session.specs.Value.{Value}
use Rattle.std.specs.Prelude.{None}
use Rattle.session.specs.declared.Message.{Message}
use Rattle.session.specs.declared.Step.{Step}
use Rattle.session.specs.declared.Step.TheVariants.{End, Set, Add, Jump, Read, Write, Send, Quit, Create, Withdraw}
use Rattle.lists.proofs.Laws.Lists.{holds, fails, truth}
use Rattle.fates.specs.Filter.{fate_of}
use Rattle.fates.specs.declared.Fate.{Fate}
use Rattle.fates.specs.declared.Fate.TheVariants as fate
use Rattle.scripts.specs.Existence.{existence, script_seen, withdrawn}
use Rattle.scripts.specs.Limits.{max_frames, max_forks}
use Rattle.scripts.specs.Value.{is_nil_or0}
use Rattle.scripts.specs.Frame.{frame_for, register, with_register, at_step}
use Rattle.scripts.specs.Ending.{is_running}
use Rattle.scripts.specs.Manager.{top_of, below_of, top, with_top, is_end, next_step, popped_to, popped, settled, settled_from, concluded, written, created, called, forked, sent, operated, stepped}
use Rattle.scripts.specs.Valid.{Each, Stack}
use Rattle.scripts.specs.State.{Frame, Manager}
use Rattle.scripts.proofs.Laws.Charged.{written_way, created_way}

-- the stack of a manager
abbrev pub Stacked : (Frame → Type 0) → Manager → Type 0
Stacked P m = Stack P m.frames

-- what is asked where a message makes a frame
abbrev pub Runs : Fate → Type 0 → Type 0
Runs fate.Call X = X
Runs fate.Discard X = X
Runs fate.Block X = Unit
Runs (fate.Fork u) X = Unit

-- it may be shown for every message
pub runs_any : {X : Type 0} (t : Fate) → X → Runs t X
runs_any fate.Call x = x
runs_any fate.Discard x = x
runs_any fate.Block x = tt
runs_any (fate.Fork u) x = tt

-- what is asked of a step: its jump keeps the property, and the frame that it makes has it
abbrev pub Preserves : (Frame → Type 0) → Program → (ℕ → ℕ → Value) → Manager → Frame → Step → Type 0
Preserves P p read m f End = Unit
Preserves P p read m f (Set a n) = Unit
Preserves P p read m f (Add a b) = Unit
Preserves P p read m f (Jump a b) = P (at_step f b)
Preserves P p read m f (Read a b) = Unit
Preserves P p read m f (Write a b) = Unit
Preserves P p read m f (Send a b c) =
    Runs (fate_of p.levels p.dom m.level (p.level f.object) (p.level c)) ((r : Bool) (v : Value) → P (frame_for c (script_seen read c) b a r v))
Preserves P p read m f (Quit a) = Unit
Preserves P p read m f (Create a) = Unit
Preserves P p read m f Withdraw = Unit

below_length : (fs : List Frame) → length (below_of fs) ≡ length fs - 1
below_length [] = refl
below_length (f ∷ fs) = omega arith

module _ (P : Frame → Type 0) where
  below_each : (fs : List Frame) → Each P fs → Each P (below_of fs)
  below_each [] e = tt
  below_each (f ∷ fs) e = e.1

  -- the top frame, and another in its place
  pub top_each : (m : Manager) → Stacked P m → 0 < length m.frames → P (top m)
  top_each m s h = by m.frames s.each h
    where
      by : (fs : List Frame) → Each P fs → 0 < length fs → P (top_of fs)
      by [] e h = absurd (omega arith)
      by (f ∷ fs) e h = e.0

  pub replaced_stack : (m : Manager) (f : Frame) → Stacked P m → P f → Stacked P (with_top m f)
  replaced_stack m f s b =
      record { low = omega (arith, s.low, below_length m.frames); each = (b, below_each m.frames s.each) }

  -- the stack of a manager that starts
  pub first_stack : (f : Frame) → P f → Stack P (f ∷ [])
  first_stack f b = record { low = omega arith; each = (b, tt) }

-- a property that no register changes
module _ (P : Frame → Type 0) (kept : (f : Frame) (k : ℕ) (v : Value) → P f → P (with_register f k v)) where
  -- pops keep the stack
  pub popped_stack : (m : Manager) (v : Value) → Stacked P m → Stacked P (popped m v)
  unfolding popped
  popped_stack m v s =
      by (top m) (below_of m.frames) (omega (arith, s.low, below_length m.frames)) (below_each P m.frames s.each)
    where
      by : (f : Frame) (gs : List Frame) → length gs ≤ max_frames → Each P gs → Stacked P (popped_to m f gs v)
      by f [] low e = record { low = omega arith; each = tt }
      by f (g ∷ gs) low e = record { low = low; each = (kept g _ _ e.0, e.1) }

  pub settled_stack : (p : Program) (m : Manager) (f : Frame) (gs : List Frame) → Stack P (f ∷ gs) → Stacked P (settled p m f gs)
  unfolding settled
  settled_stack p m f [] s = elim (truth (is_end (next_step p f))) [
    | holds q ↦ rw q (record { low = omega arith; each = tt })
    | fails q ↦ rw q s
  ]
  settled_stack p m f (g ∷ gs) s = elim (truth (is_end (next_step p f))) [
    | holds q ↦ rw q (settled_stack p m (with_register g f.into None) gs (record { low = omega (arith, s.low); each = (kept g _ _ s.each.1.0, s.each.1.1) }))
    | fails q ↦ rw q s
  ]

  pub concluded_stack : (p : Program) (m : Manager) → Stacked P m → Stacked P (concluded p m)
  unfolding concluded
  concluded_stack p m s =
      from m.frames s
    where
      from : (fs : List Frame) → Stack P fs → Stacked P (settled_from p m fs)
      from [] t = s
      from (f ∷ fs) t = settled_stack p m f fs t

  -- an operation keeps the stack
  written_stack : (p : Program) (read : ℕ → ℕ → Value) (m : Manager) (f : Frame) (k : ℕ) (v : Value) → Stacked P m → P f → Stacked P (written p read m f k v).manager
  written_stack p read m f k v s b =
      let t = replaced_stack P m f s b in
      written_way (λ d. Stacked P d.manager) p read m f k v (λ l h c. t) t t

  created_stack : (p : Program) (read : ℕ → ℕ → Value) (m : Manager) (f : Frame) (a : ℕ) → Stacked P m → P f → Stacked P (created p read m f a).manager
  created_stack p read m f a s b =
      created_way (λ d. Stacked P d.manager) p read m f a
      (λ l h u c. replaced_stack P m _ s (kept f a _ b))
      (replaced_stack P m f s b) (replaced_stack P m _ s (kept f a None b))

  called_stack : (m : Manager) (f : Frame) (a : ℕ) (callee : Frame) → Stacked P m → P f → P callee → Stacked P (called m f a callee).manager
  unfolding called
  called_stack m f a callee s b c = elim (truth (ltb (length m.frames) max_frames)) [
    | fails e ↦ rw e (replaced_stack P m (with_register f a None) s (kept f a None b))
    | holds e ↦ rw e (
        let h : length m.frames < max_frames = ltb-true (length m.frames) max_frames e in
        record { low = omega (arith, below_length m.frames); each = (c, (b, below_each P m.frames s.each)) })
  ]

  forked_stack : (m : Manager) (f : Frame) (a u : ℕ) (message : Message) → Stacked P m → P f → Stacked P (forked m f a u message).manager
  unfolding forked
  forked_stack m f a u message s b =
      let t = replaced_stack P m (with_register f a None) s (kept f a None b) in
      elim (truth (ltb m.forks max_forks)) [
        | holds e ↦ rw e t
        | fails e ↦ rw e t
      ]

  sent_stack : (read : ℕ → ℕ → Value) (m : Manager) (f : Frame) (a b c : ℕ) (t : Fate) → Stacked P m → P f → Runs t ((r : Bool) (v : Value) → P (frame_for c (script_seen read c) b a r v)) → Stacked P (sent read m f a b c t).manager
  unfolding sent
  sent_stack read m f a b c fate.Call s d x = called_stack m f a _ s d (x true _)
  sent_stack read m f a b c fate.Discard s d x = called_stack m f a _ s d (x false _)
  sent_stack read m f a b c fate.Block s d x = replaced_stack P m (with_register f a None) s (kept f a None d)
  sent_stack read m f a b c (fate.Fork u) s d x = forked_stack m f a u _ s d

  pub operated_stack : (p : Program) (read : ℕ → ℕ → Value) (m : Manager) (f : Frame) (i : Step) → Stacked P m → (is_end i ≡ false → P f) → Preserves P p read m f i → Stacked P (operated p read m f i).manager
  unfolding operated
  operated_stack p read m f End s b x = s
  operated_stack p read m f (Set a n) s b x = replaced_stack P m _ s (kept f a _ (b refl))
  operated_stack p read m f (Add a c) s b x = replaced_stack P m _ s (kept f a _ (b refl))
  operated_stack p read m f (Jump a c) s b x = elim (truth (is_nil_or0 (register f a))) [
    | holds e ↦ rw e (replaced_stack P m (at_step f c) s x)
    | fails e ↦ rw e (replaced_stack P m f s (b refl))
  ]
  operated_stack p read m f (Read a c) s b x = replaced_stack P m _ s (kept f a _ (b refl))
  operated_stack p read m f (Write a c) s b x = written_stack p read m f c (register f a) s (b refl)
  operated_stack p read m f (Send a n c) s b x = sent_stack read m f a n c _ s (b refl) x
  operated_stack p read m f (Quit a) s b x = popped_stack (with_top m f) _ (replaced_stack P m f s (b refl))
  operated_stack p read m f (Create a) s b x = created_stack p read m f a s (b refl)
  operated_stack p read m f Withdraw s b x = written_stack p read m f existence withdrawn s (b refl)

  -- a script step keeps the stack
  pub stepped_stack : (p : Program) (read : ℕ → ℕ → Value) (m : Manager) → Stacked P (operated p read m (at_step (top m) ((top m).next + 1)) (next_step p (top m))).manager → Stacked P (stepped p read m).manager
  unfolding stepped
  stepped_stack p read m t =
      let done = (operated p read m (at_step (top m) ((top m).next + 1)) (next_step p (top m))).manager in
      elim (truth (is_running done.ending)) [
        | holds e ↦ rw e (concluded_stack p _ t)
        | fails e ↦ rw e t
      ]
