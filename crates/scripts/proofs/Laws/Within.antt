-- A manager's frames are of objects that its level dominates, it takes nothing of any other object, and a message is forked at a level
-- that dominates its object. Assumes nothing.
use Prim.Native.Nat.{ℕ, zero, suc, ◌+◌, ◌<◌}
use mathlib.Core.Path.{◌≡◌, refl, ◌∙◌, ap}
use mathlib.Core.Bool.{Bool, true}
use mathlib.Core.List.{List, [], ◌∷◌}
use native.Mathlib.Omega.{arith}
use lib.Dec.{ltb}
use lib.ListN.{length}
use Rattle.session.specs.Meaning.{made_number}
use Rattle.session.specs.Program.{Program, seen_by}
use Rattle.session.specs.Value.{Value}
use Rattle.std.specs.Prelude.{None}
use Rattle.session.specs.declared.Message.{Message}
use Rattle.session.specs.declared.Step.{Step}
use Rattle.session.specs.declared.Step.TheVariants.{End, Set, Add, Jump, Read, Write, Send, Quit, Create, Withdraw}
use Rattle.lists.proofs.Laws.Lists.{holds, fails, truth}
use Rattle.fates.specs.Filter.{fate_of}
use Rattle.fates.specs.declared.Fate.{Fate}
use Rattle.fates.specs.declared.Fate.TheVariants as fate
use Rattle.fates.proofs.Laws.Fate.{Covers, fate_covers}
use Rattle.scripts.specs.Existence.{existence, script_seen, withdrawn}
use Rattle.scripts.specs.Limits.{max_forks}
use Rattle.scripts.specs.Value.{number_in}
use Rattle.scripts.specs.Frame.{frame_for, with_register, at_step}
use Rattle.scripts.specs.Ending.{is_running}
use Rattle.scripts.specs.Manager.{top, is_end, script_step, next_step, settled, settled_from, concluded, started, written, created, called, forked, sent, operated, stepped}
use Rattle.scripts.specs.Valid.{Each, Stack}
use Rattle.scripts.specs.State.{Frame, Manager}
use Rattle.scripts.specs.Effect.{Effect}
use Rattle.scripts.specs.Effect as effect
use Rattle.scripts.proofs.Laws.Charged.{written_way, created_way}
use Rattle.scripts.proofs.Laws.Effects.{Readable, Legible, Fielded, Sound}
use Rattle.scripts.proofs.Laws.Endings.{concluded_live, running_live}
use Rattle.scripts.proofs.Laws.Reads.{sent_reads, written_reads, created_reads}
use Rattle.scripts.proofs.Laws.Stack.{Stacked, Runs, Preserves, top_each, first_stack, concluded_stack, operated_stack, stepped_stack}

-- level l dominates the object of a frame, and may read its script
abbrev pub Below : Program → ℕ → Frame → Type 0
Below p l f = (p.dom l (p.level f.object) ≡ true) × Readable p l f.script

-- each frame of the stack is of an object whose level l dominates, and a manager that runs has a frame
pub record Within (p : Program) (l : ℕ) (m : Manager) : Type 0 where
  pub stack : Stack (Below p l) m.frames
  pub live : is_running m.ending ≡ true → 0 < length m.frames

-- whatever its registers hold
register-below : (p : Program) (l : ℕ) (f : Frame) (k : ℕ) (v : Value) → Below p l f → Below p l (with_register f k v)
unfolding with_register
register-below p l f zero v b = b
register-below p l f (suc zero) v b = b
register-below p l f (suc (suc zero)) v b = b
register-below p l f (suc (suc (suc k))) v b = b

concluded_within : (p : Program) (l : ℕ) (m : Manager) → Stacked (Below p l) m → Within p l (concluded p m)
concluded_within p l m s =
    record { stack = concluded_stack (Below p l) (register-below p l) p m s; live = concluded_live p m }

-- a level may read what a level that it dominates may read
readable_up : (p : Program) (l j w : ℕ) → Sound p → l < p.levels → j < p.levels → p.dom l j ≡ true → Readable p j w → Readable p l w
readable_up p l j zero so hl hj d r = tt
readable_up p l j (suc w) so hl hj d r =
    (r.0, so.lattice.order.through l j (p.level w) hl hj (so.placed w) d r.1)

-- so it may read the script of an object that it dominates
module _ (p : Program) (so : Sound p) (read : ℕ → ℕ → Value) (g : Legible p read) where
  frame_below : (l o name into : ℕ) (r : Bool) (v : Value) → l < p.levels → p.dom l (p.level o) ≡ true → Below p l (frame_for o (script_seen read o) name into r v)
  frame_below l o name into r v h d = (d, readable_up p l (p.level o) (script_seen read o) so h (so.placed o) d (g o))

  -- a manager starts within a level that dominates its message's object
  pub started_within : (level stamp : ℕ) (message : Message) → level < p.levels → p.dom level (p.level message.object) ≡ true → Within p level (started p read level stamp message)
  unfolding started
  started_within level stamp message h b =
      concluded_within p level _ (first_stack (Below p level) _ (frame_below level message.object message.name 0 true message.parameter h b))

  -- a frame is made only of an object that the manager's level dominates
  runs_below : (l : ℕ) (f : Frame) (a b c : ℕ) (t : Fate) → l < p.levels → Below p l f → Covers p.dom l (p.level f.object) (p.level c) t → Runs t ((r : Bool) (v : Value) → Below p l (frame_for c (script_seen read c) b a r v))
  runs_below l f a b c fate.Call h d x =
      let e = so.lattice.order.through l (p.level f.object) (p.level c) h (so.placed f.object) (so.placed c) d.0 x in
      λ r v. frame_below l c b a r v h e
  runs_below l f a b c fate.Discard h d x = λ r v. frame_below l c b a r v h x
  runs_below l f a b c fate.Block h d x = tt
  runs_below l f a b c (fate.Fork u) h d x = tt

  preserves_below : (l : ℕ) (m : Manager) (f : Frame) (i : Step) → l < p.levels → m.level ≡ l → Below p l f → Preserves (Below p l) p read m f i
  preserves_below l m f End h q b = tt
  preserves_below l m f (Set a n) h q b = tt
  preserves_below l m f (Add a c) h q b = tt
  preserves_below l m f (Jump a c) h q b = b
  preserves_below l m f (Read a c) h q b = tt
  preserves_below l m f (Write a c) h q b = tt
  preserves_below l m f (Send a n c) h q b =
      runs_below l f a n c (fate_of p.levels p.dom m.level (p.level f.object) (p.level c)) h b
      (rw q (fate_covers p.levels p.dom so.lattice l (p.level f.object) (p.level c) h (so.placed c)))
  preserves_below l m f (Quit a) h q b = tt
  preserves_below l m f (Create a) h q b = tt
  preserves_below l m f Withdraw h q b = tt

  -- the stack after the operation of a script step
  done_stack : (l : ℕ) (m : Manager) → l < p.levels → m.level ≡ l → is_running m.ending ≡ true → Within p l m → Stacked (Below p l) (operated p read m (at_step (top m) ((top m).next + 1)) (next_step p (top m))).manager
  done_stack l m h q r w =
      let g = at_step (top m) ((top m).next + 1) in
      let b = top_each (Below p l) m w.stack (w.live r) in
      operated_stack (Below p l) (register-below p l) p read m g (next_step p (top m)) w.stack (λ _. b) (preserves_below l m g (next_step p (top m)) h q b)

  -- a script step keeps a manager within the level
  pub stepped_within : (l : ℕ) (m : Manager) → l < p.levels → m.level ≡ l → is_running m.ending ≡ true → Within p l m → Within p l (stepped p read m).manager
  stepped_within l m h q r w =
      record {
        stack = stepped_stack (Below p l) (register-below p l) p read m (done_stack l m h q r w);
        live = running_live p read m;
      }

-- of an object that level l dominates, l sees the methods
script_seen_lem : (p : Program) (l w name j : ℕ) → Readable p l w → script_step (seen_by l p) w name j ≡ script_step p w name j
unfolding seen_by
script_seen_lem p l zero name j d = refl
script_seen_lem p l (suc w) name j d = rw d.1

next_seen : (p : Program) (l : ℕ) (f : Frame) → Below p l f → next_step (seen_by l p) f ≡ next_step p f
next_seen p l f b = script_seen_lem p l f.script f.name f.next b.1

settled_seen : (p : Program) (l : ℕ) (m : Manager) (f : Frame) (gs : List Frame) → Below p l f → Each (Below p l) gs → settled (seen_by l p) m f gs ≡ settled p m f gs
unfolding settled
settled_seen p l m f [] b e = rw (next_seen p l f b)
settled_seen p l m f (g ∷ gs) b e = rw (next_seen p l f b) (elim (truth (is_end (next_step p f))) [
  | holds q ↦ rw q (settled_seen p l m (with_register g f.into None) gs (register-below p l g f.into None e.0) e.1)
  | fails q ↦ rw q refl
])

from_seen : (p : Program) (l : ℕ) (m : Manager) (fs : List Frame) → Each (Below p l) fs → settled_from (seen_by l p) m fs ≡ settled_from p m fs
from_seen p l m [] e = refl
from_seen p l m (f ∷ fs) e = settled_seen p l m f fs e.0 e.1

concluded_seen : (p : Program) (l : ℕ) (m : Manager) → Stacked (Below p l) m → concluded (seen_by l p) m ≡ concluded p m
unfolding concluded
concluded_seen p l m s = rw (from_seen p l m m.frames s.each)

-- a manager that starts takes nothing of objects that its level does not dominate, where the reads of the dominated objects agree
pub started_seen : (p : Program) (read read' : ℕ → ℕ → Value) (level stamp : ℕ) (message : Message) → Sound p → Legible p read' → level < p.levels → p.dom level (p.level message.object) ≡ true → read message.object existence ≡ read' message.object existence → started (seen_by level p) read level stamp message ≡ started p read' level stamp message
unfolding started
started_seen p read read' level stamp message so g h b e =
    rw e (concluded_seen p level _ (first_stack (Below p level) _ (frame_below p so read' g level message.object message.name 0 true message.parameter h b)))

-- a frame is made only of an object that the manager's level dominates, so what else is read of existence does not matter
runs_seen : (p : Program) (l : ℕ) (f : Frame) (c : ℕ) (t : Fate) {X : Type 0} → Sound p → l < p.levels → Below p l f → Covers p.dom l (p.level f.object) (p.level c) t → (p.dom l (p.level c) ≡ true → X) → Runs t X
runs_seen p l f c fate.Call so h d x e =
    e (so.lattice.order.through l (p.level f.object) (p.level c) h (so.placed f.object) (so.placed c) d.0 x)
runs_seen p l f c fate.Discard so h d x e = e x
runs_seen p l f c fate.Block so h d x e = tt
runs_seen p l f c (fate.Fork u) so h d x e = tt

-- an operation takes of the program only levels
operated_seen : (p : Program) (read read' : ℕ → ℕ → Value) (l : ℕ) (m : Manager) (f : Frame) (i : Step) → Sound p → l < p.levels → m.level ≡ l → Below p l f → ((o k : ℕ) → p.dom l (p.level o) ≡ true → read o k ≡ read' o k) → operated (seen_by l p) read m f i ≡ operated p read' m f i
unfolding operated written created seen_by
operated_seen p read read' l m f End so h q b e = refl
operated_seen p read read' l m f (Set a n) so h q b e = refl
operated_seen p read read' l m f (Add a c) so h q b e = refl
operated_seen p read read' l m f (Jump a c) so h q b e = refl
operated_seen p read read' l m f (Read a c) so h q b e = rw (e f.object c b.0, e f.object existence b.0)
operated_seen p read read' l m f (Write a c) so h q b e = written_reads p read read' m f c _ (e f.object existence b.0)
operated_seen p read read' l m f (Send a n c) so h q b e =
    sent_reads read read' m f a n c (fate_of p.levels p.dom m.level (p.level f.object) (p.level c))
    (runs_seen p l f c (fate_of p.levels p.dom m.level (p.level f.object) (p.level c)) so h b
    (rw q (fate_covers p.levels p.dom so.lattice l (p.level f.object) (p.level c) h (so.placed c)))
    (e c existence))
operated_seen p read read' l m f (Quit a) so h q b e = refl
operated_seen p read read' l m f (Create a) so h q b e =
    created_reads p read read' m f a (e f.object existence b.0)
    (rw q (λ i u. e (made_number l i) existence (rw (so.owned l i h u) (so.lattice.order.itself l h))))
operated_seen p read read' l m f Withdraw so h q b e = written_reads p read read' m f existence withdrawn (e f.object existence b.0)

-- nor does a script step, where the reads of the dominated objects agree
pub stepped_seen : (p : Program) (read read' : ℕ → ℕ → Value) (l : ℕ) (m : Manager) → Sound p → Legible p read' → l < p.levels → m.level ≡ l → is_running m.ending ≡ true → Within p l m → ((o k : ℕ) → p.dom l (p.level o) ≡ true → read o k ≡ read' o k) → stepped (seen_by l p) read m ≡ stepped p read' m
unfolding stepped
stepped_seen p read read' l m so legible h q r w same =
    let f = top m in
    let g = at_step f (f.next + 1) in
    let b = top_each (Below p l) m w.stack (w.live r) in
    let done = operated p read' m g (next_step p f) in
    let t = done_stack p so read' legible l m h q r w in
    rw (next_seen p l f b, operated_seen p read read' l m g (next_step p f) so h q b same) (
    elim (truth (is_running done.manager.ending)) [
      | holds e ↦ rw e (ap (λ n. record { manager = n; effect = done.effect }) (concluded_seen p l _ t))
      | fails e ↦ rw e refl
    ])

-- a message is forked at a level that dominates its object
abbrev pub Reaches : Program → Effect → Type 0
Reaches p effect.Nothing = Unit
Reaches p (effect.Write ws) = Unit
Reaches p (effect.Fork u message) = p.dom u (p.level message.object) ≡ true

written_reaches : (p : Program) (read : ℕ → ℕ → Value) (m : Manager) (f : Frame) (k : ℕ) (v : Value) → Reaches p (written p read m f k v).effect
written_reaches p read m f k v = written_way (λ d. Reaches p d.effect) p read m f k v (λ l t c. tt) tt tt

created_reaches : (p : Program) (read : ℕ → ℕ → Value) (m : Manager) (f : Frame) (a : ℕ) → Reaches p (created p read m f a).effect
created_reaches p read m f a = created_way (λ d. Reaches p d.effect) p read m f a (λ l t u c. tt) tt tt

forked_reaches : (p : Program) (m : Manager) (f : Frame) (a u : ℕ) (message : Message) → p.dom u (p.level message.object) ≡ true → Reaches p (forked m f a u message).effect
unfolding forked
forked_reaches p m f a u message d = elim (truth (ltb m.forks max_forks)) [
  | holds e ↦ rw e d
  | fails e ↦ rw e tt
]

sent_reaches : (p : Program) (read : ℕ → ℕ → Value) (m : Manager) (f : Frame) (a b c : ℕ) (t : Fate) → Covers p.dom m.level (p.level f.object) (p.level c) t → Reaches p (sent read m f a b c t).effect
unfolding sent called
sent_reaches p read m f a b c fate.Call r = tt
sent_reaches p read m f a b c fate.Discard r = tt
sent_reaches p read m f a b c fate.Block r = tt
sent_reaches p read m f a b c (fate.Fork u) r = forked_reaches p m f a u _ r

operated_reaches : (p : Program) (read : ℕ → ℕ → Value) (m : Manager) (f : Frame) (i : Step) → Sound p → m.level < p.levels → Reaches p (operated p read m f i).effect
unfolding operated
operated_reaches p read m f End so h = tt
operated_reaches p read m f (Set a n) so h = tt
operated_reaches p read m f (Add a c) so h = tt
operated_reaches p read m f (Jump a c) so h = tt
operated_reaches p read m f (Read a c) so h = tt
operated_reaches p read m f (Write a c) so h = written_reaches p read m f c _
operated_reaches p read m f (Send a n c) so h =
    sent_reaches p read m f a n c _ (fate_covers p.levels p.dom so.lattice m.level (p.level f.object) (p.level c) h (so.placed c))
operated_reaches p read m f (Quit a) so h = tt
operated_reaches p read m f (Create a) so h = created_reaches p read m f a
operated_reaches p read m f Withdraw so h = written_reaches p read m f existence withdrawn

pub stepped_reaches : (p : Program) (read : ℕ → ℕ → Value) (m : Manager) → Sound p → m.level < p.levels → Reaches p (stepped p read m).effect
unfolding stepped
stepped_reaches p read m so h =
    operated_reaches p read m (at_step (top m) ((top m).next + 1)) (next_step p (top m)) so h

-- a value of a field of an object of level l names a script that l may read, if the field is the object's existence
abbrev pub Lawful : Program → ℕ → ℕ → Value → Type 0
Lawful p l k v = k ≡ existence → Readable p l (number_in v)

-- and so does what a script step writes
abbrev pub Lawfully : Program → ℕ → Effect → Type 0
Lawfully p l effect.Nothing = Unit
Lawfully p l (effect.Write ws) = Each (λ w. Lawful p l w.field w.value) ws
Lawfully p l (effect.Fork u message) = Unit

written_lawful : (p : Program) (l : ℕ) (read : ℕ → ℕ → Value) (m : Manager) (f : Frame) (k : ℕ) (v : Value) → Lawful p l k v → Lawfully p l (written p read m f k v).effect
written_lawful p l read m f k v w = written_way (λ d. Lawfully p l d.effect) p read m f k v (λ _ t c. (w, tt)) tt tt

-- the script of an object that is made is that of the frame's own object, which lies at the level
created_lawful : (p : Program) (l : ℕ) (read : ℕ → ℕ → Value) (m : Manager) (f : Frame) (a : ℕ) → Legible p read → m.level ≡ l → Lawfully p l (created p read m f a).effect
created_lawful p l read m f a g q =
    created_way (λ d. Lawfully p l d.effect) p read m f a
    (λ e t u c.
    let r : Readable p l (script_seen read f.object) = rw (e ∙ q) at (g f.object) in
    ((λ _. r), ((λ z. absurd (omega (arith, z))), ((λ z. absurd (omega (arith, z))), ((λ z. absurd (omega (arith, z))), tt)))))
    tt tt

sent_lawful : (p : Program) (l : ℕ) (read : ℕ → ℕ → Value) (m : Manager) (f : Frame) (a b c : ℕ) (t : Fate) → Lawfully p l (sent read m f a b c t).effect
unfolding sent called forked
sent_lawful p l read m f a b c fate.Call = tt
sent_lawful p l read m f a b c fate.Discard = tt
sent_lawful p l read m f a b c fate.Block = tt
sent_lawful p l read m f a b c (fate.Fork u) = elim (truth (ltb m.forks max_forks)) [
  | holds e ↦ rw e tt
  | fails e ↦ rw e tt
]

operated_lawful : (p : Program) (l : ℕ) (read : ℕ → ℕ → Value) (m : Manager) (f : Frame) (i : Step) → Legible p read → m.level ≡ l → Fielded i → Lawfully p l (operated p read m f i).effect
unfolding operated
operated_lawful p l read m f End g q w = tt
operated_lawful p l read m f (Set a n) g q w = tt
operated_lawful p l read m f (Add a c) g q w = tt
operated_lawful p l read m f (Jump a c) g q w = tt
operated_lawful p l read m f (Read a c) g q w = tt
operated_lawful p l read m f (Write a c) g q w = written_lawful p l read m f c _ (λ e. absurd (omega (arith, w, e)))
operated_lawful p l read m f (Send a n c) g q w = sent_lawful p l read m f a n c _
operated_lawful p l read m f (Quit a) g q w = tt
operated_lawful p l read m f (Create a) g q w = created_lawful p l read m f a g q
operated_lawful p l read m f Withdraw g q w = written_lawful p l read m f existence withdrawn (λ e. tt)

-- a script's WRITEs write fields alone
pub next_fielded : (p : Program) → Sound p → (w name j : ℕ) → Fielded (script_step p w name j)
next_fielded p so zero name j = tt
next_fielded p so (suc w) name j = so.fielded w name j

pub stepped_lawful : (p : Program) (l : ℕ) (read : ℕ → ℕ → Value) (m : Manager) → Sound p → Legible p read → m.level ≡ l → Lawfully p l (stepped p read m).effect
unfolding stepped
stepped_lawful p l read m so g q =
    operated_lawful p l read m (at_step (top m) ((top m).next + 1)) (next_step p (top m)) g q (next_fielded p so (top m).script (top m).name (top m).next)
