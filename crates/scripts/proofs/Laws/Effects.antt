-- What a script step may do outside its manager. Assumes nothing.
use Prim.Native.Nat.{ℕ, zero, suc, ◌+◌, ◌≤◌, ◌<◌}
use mathlib.Core.Path.{◌≡◌}
use mathlib.Core.Bool.{true}
use borrow.Author.Tests.{ltb-true}
use lib.Dec.{ltb}
use lib.ListN.{length}
use Rattle.dominance.specs.Order.{strictly}
use Rattle.dominance.specs.Join.{JoinSemilattice}
use Rattle.session.specs.Limits.{fields, made_objects}
use Rattle.session.specs.Meaning.{made_number}
use Rattle.session.specs.Program.{Program}
use Rattle.session.specs.Value.{Value}
use Rattle.session.specs.declared.Message.{Message}
use Rattle.session.specs.declared.Step.{Step}
use Rattle.session.specs.declared.Step.TheVariants.{End, Set, Add, Jump, Read, Write, Send, Quit, Create, Withdraw}
use Rattle.lists.proofs.Laws.Lists.{holds, fails, truth}
use Rattle.fates.specs.declared.Fate.{Fate}
use Rattle.fates.specs.declared.Fate.TheVariants as fate
use Rattle.fates.proofs.Laws.Fate.{Rises, fate_rises}
use Rattle.scripts.specs.Existence.{existence, script_seen, used_of, withdrawn}
use Rattle.scripts.specs.Limits.{max_writes, max_forks}
use Rattle.scripts.specs.Frame.{at_step}
use Rattle.scripts.specs.Manager.{top, next_step, written, created, called, forked, sent, operated, stepped}
use Rattle.scripts.specs.Valid.{Each}
use Rattle.scripts.specs.State.{Frame, Manager}
use Rattle.scripts.specs.Effect.{Effect}
use Rattle.scripts.specs.Effect as effect
use Rattle.scripts.proofs.Laws.Charged.{written_way, created_way}

-- level l dominates the object of the session whose methods a script has
abbrev pub Readable : Program → ℕ → ℕ → Type 0
Readable p l zero = Unit
Readable p l (suc w) = (w < p.objects) × (p.dom l (p.level w) ≡ true)

-- what a read sees of an object's existence names a script that the object's level may read
abbrev pub Legible : Program → (ℕ → ℕ → Value) → Type 0
Legible p read = (o : ℕ) → Readable p (p.level o) (script_seen read o)

-- writes are of objects of the manager's level, and none is a seventeenth; a fork goes to a present level strictly above, and is not the
-- sixteenth
abbrev pub Fits : Program → Manager → Effect → Type 0
Fits p m effect.Nothing = Unit
Fits p m (effect.Write ws) = Each (λ w. p.level w.object ≡ m.level) ws × (m.writes + length ws ≤ max_writes)
Fits p m (effect.Fork u message) = (u < p.levels) × ((strictly p.dom u m.level ≡ true) × (m.forks < max_forks))

written_fits : (p : Program) (read : ℕ → ℕ → Value) (m : Manager) (f : Frame) (k : ℕ) (v : Value) → Fits p m (written p read m f k v).effect
written_fits p read m f k v = written_way (λ s. Fits p m s.effect) p read m f k v (λ l t c. ((l, tt), c)) tt tt

forked_fits : (p : Program) (m : Manager) (f : Frame) (a u : ℕ) (message : Message) → u < p.levels → strictly p.dom u m.level ≡ true → Fits p m (forked m f a u message).effect
unfolding forked
forked_fits p m f a u message h s = elim (truth (ltb m.forks max_forks)) [
  | holds e ↦ rw e (h, (s, ltb-true m.forks max_forks e))
  | fails e ↦ rw e tt
]

sent_fits : (p : Program) (read : ℕ → ℕ → Value) (m : Manager) (f : Frame) (a b c : ℕ) (t : Fate) → Rises p.levels p.dom m.level t → Fits p m (sent read m f a b c t).effect
unfolding sent called
sent_fits p read m f a b c fate.Call r = tt
sent_fits p read m f a b c fate.Discard r = tt
sent_fits p read m f a b c fate.Block r = tt
sent_fits p read m f a b c (fate.Fork u) r = forked_fits p m f a u _ r.0 r.1

-- WRITE writes fields alone
abbrev pub Fielded : Step → Type 0
Fielded End = Unit
Fielded (Set a n) = Unit
Fielded (Add a b) = Unit
Fielded (Jump a b) = Unit
Fielded (Read a b) = Unit
Fielded (Write a b) = b < fields
Fielded (Send a b c) = Unit
Fielded (Quit a) = Unit
Fielded (Create a) = Unit
Fielded Withdraw = Unit

-- the levels of a program are a join semilattice, its objects lie at present levels, its WRITEs write fields alone, and a level
-- owns the numbers that it gives
pub record Sound (p : Program) : Type 0 where
  pub lattice : JoinSemilattice p.levels p.dom
  pub placed : (o : ℕ) → p.level o < p.levels
  pub fielded : (o name j : ℕ) → Fielded (p.step o name j)
  pub owned : (l i : ℕ) → l < p.levels → i < made_objects → p.level (made_number l i) ≡ l

created_fits : (p : Program) (read : ℕ → ℕ → Value) (m : Manager) (f : Frame) (a : ℕ) → Sound p → m.level < p.levels → Fits p m (created p read m f a).effect
created_fits p read m f a so h =
    created_way (λ s. Fits p m s.effect) p read m f a
    (λ l t u c. let o = so.owned m.level (used_of read m.level) h u in ((o, (o, (o, (o, tt)))), c))
    tt tt

operated_fits : (p : Program) (read : ℕ → ℕ → Value) (m : Manager) (f : Frame) (s : Step) → Sound p → m.level < p.levels → Fits p m (operated p read m f s).effect
unfolding operated
operated_fits p read m f End so h = tt
operated_fits p read m f (Set a n) so h = tt
operated_fits p read m f (Add a b) so h = tt
operated_fits p read m f (Jump a b) so h = tt
operated_fits p read m f (Read a b) so h = tt
operated_fits p read m f (Write a b) so h = written_fits p read m f b _
operated_fits p read m f (Send a b c) so h =
    sent_fits p read m f a b c _ (fate_rises p.levels p.dom so.lattice m.level (p.level f.object) (p.level c) h (so.placed c))
operated_fits p read m f (Quit a) so h = tt
operated_fits p read m f (Create a) so h = created_fits p read m f a so h
operated_fits p read m f Withdraw so h = written_fits p read m f existence withdrawn

pub stepped_fits : (p : Program) (read : ℕ → ℕ → Value) (m : Manager) → Sound p → m.level < p.levels → Fits p m (stepped p read m).effect
unfolding stepped
stepped_fits p read m so h =
    operated_fits p read m (at_step (top m) ((top m).next + 1)) (next_step p (top m)) so h
