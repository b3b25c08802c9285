-- What a scheduler step does to the managers of its level that have not ended, by its fork. Assumes nothing.
use Prim.Native.Nat.{ℕ, ◌+◌, ◌<◌}
use mathlib.Core.Path.{◌≡◌, refl, sym, ◌∙◌, ap, ap₂}
use mathlib.Core.Bool.{true}
use mathlib.Core.List.{List, [], ◌∷◌, map}
use Rattle.dominance.specs.Order.{strictly}
use Rattle.session.specs.Program.{Program}
use Rattle.session.specs.declared.Message.{Message}
use Rattle.lists.proofs.Laws.Lists.{holds, fails, truth}
use Rattle.scripts.specs.Limits.{max_forks}
use Rattle.scripts.specs.Ending.{is_running}
use Rattle.scripts.specs.Manager.{started, stepped}
use Rattle.scripts.specs.State.{Manager}
use Rattle.scripts.specs.Effect.{Effect}
use Rattle.scripts.specs.Effect as effect
use Rattle.scripts.proofs.Laws.Counts.{counts, grown, one_more, started_counts, stepped_counts}
use Rattle.scripts.proofs.Laws.Effects.{Sound, Fits, stepped_fits}
use Rattle.model.specs.Fork.{Fork, child_of}
use Rattle.model.specs.Level.{Version, Activity, idle, busy, Level, after}
use Rattle.model.specs.Step.{State, read_at, Arrival, none, at, versions_after, arrival_of, begun, advanced, moved}
use Rattle.theorems.proofs.Laws.Invariant.Tree.{Entry, forked_from}
use Rattle.theorems.proofs.Laws.Invariant.Forest.{Rest, whole, tail}
use Rattle.theorems.proofs.Laws.Invariant.Entries.{waiting_entry, running_entry, entries_by, entries_of, forked_entry}
use Rattle.theorems.proofs.Laws.Invariant.WriteStamps.{stamp_by, write_stamp}
use Rattle.theorems.proofs.Laws.Steps.Moves.{AtLevel}

-- the entries of a level before and after a step, and its fork: nothing, a start or an end; or the running manager, whose write stamp is not 0, forks, and may end
pub data Change (p : Program) (l : ℕ) (E G : List Entry) (b : Arrival) : Type 0 where
  internal : b ≡ none → Rest E G → Change p l E G b
  forks : (u : ℕ) (x : Fork) (m : Manager) (message : Message) (W : List Entry) → b ≡ at u (child_of l x m message) → E ≡ running_entry l x m.forks ∷ W → Rest (forked_from (running_entry l x m.forks) ∷ W) G → u < p.levels → strictly p.dom u l ≡ true → m.forks < max_forks → 0 < m.stamp → Change p l E G b

-- a manager that runs on or has ended
after_rest : (l : ℕ) (v : Level) (ws : List Fork) (versions : List Version) (x : Fork) (m : Manager) → Rest (running_entry l x m.forks ∷ map (waiting_entry l) ws) (entries_of l (after v ws versions x m))
unfolding after
after_rest l v ws versions x m = elim (truth (is_running m.ending)) [
  | holds e ↦ rw e (whole refl)
  | fails e ↦ rw e (tail (running_entry l x m.forks) refl)
]

rest_from : (D E G : List Entry) → E ≡ D → Rest D G → Rest E G
rest_from D E G q r = rw q r

begun_change : (p : Program) (st : State) (l : ℕ) (v : Level) → v.activity ≡ idle → (ws : List Fork) → v.waiting ≡ ws → Change p l (entries_of l v) (entries_of l (begun p st l v ws).own) (begun p st l v ws).arrival
unfolding begun
begun_change p st l v q [] e = internal refl (whole refl)
begun_change p st l v q (x ∷ xs) e =
    let m = started p (read_at p st l x) l v.next x.message in
    let none_yet : m.forks ≡ 0 = ap (λ c. c.forks) (started_counts p (read_at p st l x) l v.next x.message) in
    let before : entries_of l v ≡ running_entry l x 0 ∷ map (waiting_entry l) xs = ap₂ (entries_by l) q e in
    internal refl (rest_from (running_entry l x m.forks ∷ map (waiting_entry l) xs) (entries_of l v) _
    (before ∙ sym (ap (λ k. running_entry l x k ∷ map (waiting_entry l) xs) none_yet)) (after_rest l v xs v.versions x m))

-- the running manager x makes a step and no fork
same_forks : (l : ℕ) (v : Level) (x : Fork) (m m' : Manager) (versions : List Version) → v.activity ≡ busy x m → m'.forks ≡ m.forks → Rest (entries_of l v) (entries_of l (after v v.waiting versions x m'))
same_forks l v x m m' versions q same =
    let W = map (waiting_entry l) v.waiting in
    let before : entries_of l v ≡ running_entry l x m.forks ∷ W = ap (λ a. entries_by l a v.waiting) q in
    rest_from (running_entry l x m'.forks ∷ W) (entries_of l v) _
    (before ∙ sym (ap (λ k. running_entry l x k ∷ W) same)) (after_rest l v v.waiting versions x m')

-- the running manager x makes a step with an effect
effect_change : (p : Program) (l : ℕ) (v : Level) (x : Fork) (m m' : Manager) (e : Effect) → v.activity ≡ busy x m → m.level ≡ l → counts m' ≡ one_more (grown (counts m) e) → Fits p m e → 0 < write_stamp v → Change p l (entries_of l v) (entries_of l (after v v.waiting (versions_after m e v.versions) x m')) (arrival_of l x m e)
effect_change p l v x m m' effect.Nothing q h c f z =
    internal refl (same_forks l v x m m' v.versions q (ap (λ c. c.forks) c))
effect_change p l v x m m' (effect.Write ws) q h c f z =
    internal refl (same_forks l v x m m' (versions_after m (effect.Write ws) v.versions) q (ap (λ c. c.forks) c))
effect_change p l v x m m' (effect.Fork u message) q h c f z =
    let W = map (waiting_entry l) v.waiting in
    let more : m'.forks ≡ m.forks + 1 = ap (λ c. c.forks) c in
    let grew : forked_from (running_entry l x m.forks) ∷ W ≡ running_entry l x m'.forks ∷ W =
    ap (λ e. e ∷ W) (sym (ap (running_entry l x) more ∙ forked_entry l x m.forks)) in
    forks u x m message W refl (ap (λ a. entries_by l a v.waiting) q)
    (rest_from (running_entry l x m'.forks ∷ W) _ _ grew (after_rest l v v.waiting v.versions x m'))
    f.0 (rw (sym h) f.1.0) f.1.1 (rw (ap (λ a. stamp_by a v.next) q) at z)

pub moved_change : (p : Program) (st : State) (l : ℕ) (v : Level) (a : Activity) → v.activity ≡ a → Sound p → l < p.levels → AtLevel l a → 0 < write_stamp v → Change p l (entries_of l v) (entries_of l (moved p st l v a).own) (moved p st l v a).arrival
unfolding moved advanced
moved_change p st l v idle q so h t z = begun_change p st l v q v.waiting refl
moved_change p st l v (busy x m) q so h t z =
    let s = stepped p (read_at p st l x) m in
    effect_change p l v x m s.manager s.effect q t (stepped_counts p (read_at p st l x) m) (stepped_fits p (read_at p st l x) m so (rw t h)) z
