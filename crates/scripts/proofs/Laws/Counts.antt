-- What a script step does to a manager's counts, by its effect. Assumes nothing.
use Prim.Native.Nat.{ℕ, ◌+◌}
use mathlib.Core.Path.{◌≡◌, refl, ◌∙◌, ap}
use mathlib.Core.List.{List, [], ◌∷◌}
use lib.Dec.{ltb}
use lib.ListN.{length}
use Rattle.session.specs.Program.{Program}
use Rattle.session.specs.Value.{Value}
use Rattle.std.specs.Prelude.{None}
use Rattle.session.specs.declared.Message.{Message}
use Rattle.session.specs.declared.Step.{Step}
use Rattle.session.specs.declared.Step.TheVariants.{End, Set, Add, Jump, Read, Write, Send, Quit, Create, Withdraw}
use Rattle.lists.proofs.Laws.Lists.{holds, fails, truth}
use Rattle.fates.specs.declared.Fate.{Fate}
use Rattle.fates.specs.declared.Fate.TheVariants as fate
use Rattle.scripts.specs.Limits.{max_frames, max_forks}
use Rattle.scripts.specs.Existence.{existence, withdrawn}
use Rattle.scripts.specs.Ending.{is_running}
use Rattle.scripts.specs.Frame.{with_register, at_step}
use Rattle.scripts.specs.Manager.{top, below_of, next_step, is_end, popped_to, popped, settled, settled_from, concluded, started, written, created, called, forked, sent, operated, stepped}
use Rattle.scripts.specs.State.{Frame, Manager, Stepped}
use Rattle.scripts.specs.Effect.{Effect}
use Rattle.scripts.specs.Effect as effect
use Rattle.scripts.proofs.Laws.Charged.{written_way, created_way}

-- a manager without its stack and reply
pub record Counts : Type 0 where
  pub level : ℕ
  pub first : ℕ
  pub stamp : ℕ
  pub steps : ℕ
  pub writes : ℕ
  pub forks : ℕ

abbrev pub counts : Manager → Counts
counts m =
    record {
      level = m.level;
      first = m.first;
      stamp = m.stamp;
      steps = m.steps;
      writes = m.writes;
      forks = m.forks;
    }

-- pops change none
pub popped_counts : (m : Manager) (v : Value) → counts (popped m v) ≡ counts m
unfolding popped
popped_counts m v = by (top m) (below_of m.frames)
  where
    by : (f : Frame) (gs : List Frame) → counts (popped_to m f gs v) ≡ counts m
    by f [] = refl
    by f (g ∷ gs) = refl

pub settled_counts : (p : Program) (m : Manager) (f : Frame) (gs : List Frame) → counts (settled p m f gs) ≡ counts m
unfolding settled
settled_counts p m f [] = elim (truth (is_end (next_step p f))) [
  | holds q ↦ rw q refl
  | fails q ↦ rw q refl
]
settled_counts p m f (g ∷ gs) = elim (truth (is_end (next_step p f))) [
  | holds q ↦ rw q (settled_counts p m (with_register g f.into None) gs)
  | fails q ↦ rw q refl
]

pub concluded_counts : (p : Program) (m : Manager) → counts (concluded p m) ≡ counts m
unfolding concluded
concluded_counts p m = by m.frames
  where
    by : (fs : List Frame) → counts (settled_from p m fs) ≡ counts m
    by [] = refl
    by (f ∷ fs) = settled_counts p m f fs

-- a manager starts at its level with its write stamp, and has done nothing
pub started_counts : (p : Program) (read : ℕ → ℕ → Value) (level stamp : ℕ) (message : Message) → counts (started p read level stamp message) ≡ record { level = level; first = stamp; stamp = stamp; steps = 0; writes = 0; forks = 0 }
unfolding started
started_counts p read level stamp message = concluded_counts p _

-- the counts after an operation, by its effect
abbrev pub grown : Counts → Effect → Counts
grown c effect.Nothing = c
grown c (effect.Write ws) =
    record { level = c.level; first = c.first; stamp = c.stamp; steps = c.steps; writes = c.writes + length ws; forks = c.forks }
grown c (effect.Fork u message) =
    record { level = c.level; first = c.first; stamp = c.stamp + 1; steps = c.steps; writes = c.writes; forks = c.forks + 1 }

-- an operation does to the counts what its effect says
abbrev CountsFollow : Manager → Stepped → Type 0
CountsFollow m d = counts d.manager ≡ grown (counts m) d.effect

written_counts : (p : Program) (read : ℕ → ℕ → Value) (m : Manager) (f : Frame) (k : ℕ) (v : Value) → CountsFollow m (written p read m f k v)
written_counts p read m f k v = written_way (CountsFollow m) p read m f k v (λ l t c. refl) refl refl

created_counts : (p : Program) (read : ℕ → ℕ → Value) (m : Manager) (f : Frame) (a : ℕ) → CountsFollow m (created p read m f a)
created_counts p read m f a = created_way (CountsFollow m) p read m f a (λ l t u c. refl) refl refl

called_counts : (m : Manager) (f : Frame) (a : ℕ) (callee : Frame) → CountsFollow m (called m f a callee)
unfolding called
called_counts m f a callee = elim (truth (ltb (length m.frames) max_frames)) [
  | holds e ↦ rw e refl
  | fails e ↦ rw e refl
]

forked_counts : (m : Manager) (f : Frame) (a u : ℕ) (message : Message) → CountsFollow m (forked m f a u message)
unfolding forked
forked_counts m f a u message = elim (truth (ltb m.forks max_forks)) [
  | holds e ↦ rw e refl
  | fails e ↦ rw e refl
]

sent_counts : (read : ℕ → ℕ → Value) (m : Manager) (f : Frame) (a b c : ℕ) (t : Fate) → CountsFollow m (sent read m f a b c t)
unfolding sent
sent_counts read m f a b c fate.Call = called_counts m f a _
sent_counts read m f a b c fate.Discard = called_counts m f a _
sent_counts read m f a b c fate.Block = refl
sent_counts read m f a b c (fate.Fork u) = forked_counts m f a u _

operated_counts : (p : Program) (read : ℕ → ℕ → Value) (m : Manager) (f : Frame) (s : Step) → CountsFollow m (operated p read m f s)
unfolding operated
operated_counts p read m f End = refl
operated_counts p read m f (Set a n) = refl
operated_counts p read m f (Add a b) = refl
operated_counts p read m f (Jump a b) = refl
operated_counts p read m f (Read a b) = refl
operated_counts p read m f (Write a b) = written_counts p read m f b _
operated_counts p read m f (Send a b c) = sent_counts read m f a b c _
operated_counts p read m f (Quit a) = popped_counts _ _
operated_counts p read m f (Create a) = created_counts p read m f a
operated_counts p read m f Withdraw = written_counts p read m f existence withdrawn

-- one script step more
abbrev pub one_more : Counts → Counts
one_more c =
    record { level = c.level; first = c.first; stamp = c.stamp; steps = c.steps + 1; writes = c.writes; forks = c.forks }

-- a script step counts itself and its effect, and changes no other count
pub stepped_counts : (p : Program) (read : ℕ → ℕ → Value) (m : Manager) → counts (stepped p read m).manager ≡ one_more (grown (counts m) (stepped p read m).effect)
unfolding stepped
stepped_counts p read m =
    let f = top m in
    let g = at_step f (f.next + 1) in
    let told : CountsFollow m (operated p read m g (next_step p f)) = operated_counts p read m g (next_step p f) in
    elim (truth (is_running (operated p read m g (next_step p f)).manager.ending)) [
      | holds e ↦ rw e (concluded_counts p _ ∙ ap one_more told)
      | fails e ↦ rw e (ap one_more told)
    ]
