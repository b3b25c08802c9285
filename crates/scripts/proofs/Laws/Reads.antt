-- A script step depends on what is read only. Assumes nothing.
use Prim.Native.Nat.{ℕ, ◌+◌, ◌<◌}
use mathlib.Core.Path.{◌≡◌, refl, ap}
use Rattle.session.specs.Limits.{made_objects}
use Rattle.session.specs.Meaning.{made_number}
use Rattle.session.specs.Program.{Program}
use Rattle.session.specs.Value.{Value}
use Rattle.session.specs.declared.Step.{Step}
use Rattle.session.specs.declared.Step.TheVariants.{End, Set, Add, Jump, Read, Write, Send, Quit, Create, Withdraw}
use Rattle.fates.specs.Filter.{fate_of}
use Rattle.fates.specs.declared.Fate.{Fate}
use Rattle.fates.specs.declared.Fate.TheVariants as fate
use Rattle.scripts.specs.Existence.{existence, withdrawn}
use Rattle.scripts.specs.Frame.{at_step}
use Rattle.scripts.specs.Manager.{top, next_step, written, created, sent, operated, counted, stepped}
use Rattle.scripts.specs.State.{Frame, Manager}
use Rattle.scripts.proofs.Laws.Existence.{used_reads}
use Rattle.scripts.proofs.Laws.Stack.{Runs, runs_any}

-- a SEND by what becomes of its message: where a frame is made, what is read of its object's existence decides
pub sent_reads : (read read' : ℕ → ℕ → Value) (m : Manager) (f : Frame) (a b c : ℕ) (t : Fate) → Runs t (read c existence ≡ read' c existence) → sent read m f a b c t ≡ sent read' m f a b c t
unfolding sent
sent_reads read read' m f a b c fate.Call e = rw e refl
sent_reads read read' m f a b c fate.Discard e = rw e refl
sent_reads read read' m f a b c fate.Block e = refl
sent_reads read read' m f a b c (fate.Fork u) e = refl

-- WRITE, WITHDRAW and CREATE: what is read of the existence of the frame's object, and of the level's numbers
pub written_reads : (p : Program) (read read' : ℕ → ℕ → Value) (m : Manager) (f : Frame) (k : ℕ) (v : Value) → read f.object existence ≡ read' f.object existence → written p read m f k v ≡ written p read' m f k v
unfolding written
written_reads p read read' m f k v e = rw e refl

pub created_reads : (p : Program) (read read' : ℕ → ℕ → Value) (m : Manager) (f : Frame) (a : ℕ) → read f.object existence ≡ read' f.object existence → ((i : ℕ) → i < made_objects → read (made_number m.level i) existence ≡ read' (made_number m.level i) existence) → created p read m f a ≡ created p read' m f a
unfolding created
created_reads p read read' m f a e g = rw (e, used_reads read read' m.level g) refl

pub operated_reads : (p : Program) (read read' : ℕ → ℕ → Value) → ((o k : ℕ) → read o k ≡ read' o k) → (m : Manager) (f : Frame) (i : Step) → operated p read m f i ≡ operated p read' m f i
unfolding operated
operated_reads p read read' e m f End = refl
operated_reads p read read' e m f (Set a n) = refl
operated_reads p read read' e m f (Add a b) = refl
operated_reads p read read' e m f (Jump a b) = refl
operated_reads p read read' e m f (Read a b) = rw (e f.object b, e f.object existence) refl
operated_reads p read read' e m f (Write a b) = written_reads p read read' m f b _ (e f.object existence)
operated_reads p read read' e m f (Send a b c) =
    let t = fate_of p.levels p.dom m.level (p.level f.object) (p.level c) in
    sent_reads read read' m f a b c t (runs_any t (e c existence))
operated_reads p read read' e m f (Quit a) = refl
operated_reads p read read' e m f (Create a) =
    created_reads p read read' m f a (e f.object existence) (λ i h. e (made_number m.level i) existence)
operated_reads p read read' e m f Withdraw = written_reads p read read' m f existence withdrawn (e f.object existence)

pub stepped_reads : (p : Program) (read read' : ℕ → ℕ → Value) → ((o k : ℕ) → read o k ≡ read' o k) → (m : Manager) → stepped p read m ≡ stepped p read' m
unfolding stepped
stepped_reads p read read' e m =
    ap (λ d. record { manager = counted p d.manager; effect = d.effect }) (operated_reads p read read' e m (at_step (top m) ((top m).next + 1)) (next_step p (top m)))
