-- Each level after a scheduler step: the step's own, the one that gets its fork, another. Assumes nothing.
use Prim.Native.Nat.{ℕ, ◌<◌}
use mathlib.Core.Path.{◌≡◌, refl, sym, ◌∙◌, ap}
use mathlib.Core.Bool.{Bool, true, false, not}
use mathlib.Core.List.{List}
use native.Mathlib.Decide.{ℕ_discrete}
use lib.Dec.{eqb}
use Rattle.dominance.specs.Order.{strictly}
use Rattle.lists.proofs.Laws.Range.{and_left, not_both}
use Rattle.session.specs.Program.{Program}
use Rattle.scripts.proofs.Laws.Effects.{Sound}
use Rattle.lists.specs.Changed.{modify}
use Rattle.model.specs.Fork.{Fork}
use Rattle.model.specs.Level.{Level, arrived}
use Rattle.model.specs.Step.{State, level_at, Arrival, none, at, move_at, delivered, step_at}
use Rattle.lists.specs.Each.{Each}
use Rattle.theorems.proofs.Laws.Invariant.Tree.{Entry, forked_from}
use Rattle.theorems.proofs.Laws.Invariant.Forest.{rest_each}
use Rattle.theorems.proofs.Laws.Invariant.Entries.{waiting_entry, running_entry, entries_of, arrived_joins}
use Rattle.theorems.proofs.Laws.Invariant.Change.{Change, internal, forks}
use Rattle.theorems.proofs.Laws.Steps.Locality.{Above}
use Rattle.theorems.proofs.Laws.Steps.Moves.{move_above}
use Rattle.theorems.proofs.Laws.Invariant.Forks.{entries_in, step_change, marks_at, level_own, level_target, level_other, ForkInvariant}
use Rattle.theorems.proofs.Laws.Invariant.Preserved.{other_level}
use Rattle.theorems.proofs.Laws.Invariant.WriteStamps.{Marks}

-- what level k is after a step at level l
pub data Became (p : Program) (l : ℕ) (st : State) (k : ℕ) (v : Level) : Type 0 where
  own : k ≡ l → v ≡ (move_at p l st).own → Became p l st k v
  got : (c : Fork) → (move_at p l st).arrival ≡ at k c → strictly p.dom k l ≡ true → v ≡ arrived c (level_at st k) → Became p l st k v
  stayed : (k ≡ l → ⊥) → v ≡ level_at st k → Became p l st k v

module _ (p : Program) (so : Sound p) (st : State) (o : ForkInvariant p st) (l : ℕ) (h : l < p.levels) where
  pub became : (k : ℕ) → Became p l st k (level_at (step_at p l st) k)
  unfolding step_at
  became k =
      at_level (move_at p l st).arrival refl (move_above p l st so h (o.placed l h)) (ℕ_discrete l k)
    where
      at_level : (b : Arrival) → (move_at p l st).arrival ≡ b → Above p l b → Dec (l ≡ k) → Became p l st k (level_at (delivered b (modify l (λ _. (move_at p l st).own) st)) k)
      at_level none q a (yes e) = own (sym e) (rw (sym e) (level_own none l (move_at p l st).own st tt (rw o.size h)))
      at_level (at u x) q a (yes e) =
          own (sym e) (rw (sym e) (level_own (at u x) l (move_at p l st).own st (λ t. other_level p u l a.1 (sym t)) (rw o.size h)))
      at_level none q a (no n) = stayed (λ e. n (sym e)) (level_other none l k (move_at p l st).own st n tt)
      at_level (at u x) q a (no n) = elim (ℕ_discrete u k) [
        | yes e ↦
            got x (rw (sym e) q) (rw (sym e) a.1)
            (rw (sym e) (level_target u x l (move_at p l st).own st (other_level p u l a.1) (rw o.size a.0)))
        | no g ↦ stayed (λ e. n (sym e)) (level_other (at u x) l k (move_at p l st).own st n g)
      ]

  -- what a step does to its own level's write stamp, versions, histories and forks
  pub step_marks : Marks l (level_at st l) (move_at p l st).own (move_at p l st).arrival
  step_marks = marks_at p l st so h

-- the same, level by level
module _ (p : Program) (so : Sound p) (st : State) (o : ForkInvariant p st) (l : ℕ) (h : l < p.levels) where
  pub level_stepped : level_at (step_at p l st) l ≡ (move_at p l st).own
  level_stepped = by (became p so st o l h l)
    where
      by : Became p l st l (level_at (step_at p l st) l) → level_at (step_at p l st) l ≡ (move_at p l st).own
      by (own e q) = q
      by (got c e s q) = absurd (other_level p l l s refl)
      by (stayed n q) = absurd (n refl)

  pub level_internal : (move_at p l st).arrival ≡ none → (j : ℕ) → (j ≡ l → ⊥) → level_at (step_at p l st) j ≡ level_at st j
  level_internal e j n = by (became p so st o l h j)
    where
      is_none : Arrival → Bool
      is_none none = true
      is_none (at u x) = false

      by : Became p l st j (level_at (step_at p l st) j) → level_at (step_at p l st) j ≡ level_at st j
      by (own q t) = absurd (n q)
      by (got c q s t) = absurd (not_both (is_none (move_at p l st).arrival) (ap is_none e) (ap is_none q))
      by (stayed m t) = t

  pub level_reached : (u : ℕ) (c : Fork) → (move_at p l st).arrival ≡ at u c → level_at (step_at p l st) u ≡ arrived c (level_at st u)
  unfolding step_at
  level_reached u c q =
      let a : (u < p.levels) × (strictly p.dom u l ≡ true) = above (move_at p l st).arrival q (move_above p l st so h (o.placed l h)) in
      ap (λ b. level_at (delivered b (modify l (λ _. (move_at p l st).own) st)) u) q
      ∙ level_target u c l (move_at p l st).own st (other_level p u l a.1) (rw o.size a.0)
    where
      above : (b : Arrival) → b ≡ at u c → Above p l b → (u < p.levels) × (strictly p.dom u l ≡ true)
      above b e a = rw e at a

  pub level_missed : (u : ℕ) (c : Fork) → (move_at p l st).arrival ≡ at u c → (j : ℕ) → (j ≡ l → ⊥) → (j ≡ u → ⊥) → level_at (step_at p l st) j ≡ level_at st j
  unfolding step_at
  level_missed u c q j n m =
      ap (λ b. level_at (delivered b (modify l (λ _. (move_at p l st).own) st)) j) q
      ∙ level_other (at u c) l j (move_at p l st).own st (λ e. n (sym e)) (λ e. m (sym e))

  -- a level that does not dominate the step's is as it was
  pub level_unmoved : (j : ℕ) → p.dom j l ≡ false → level_at (step_at p l st) j ≡ level_at st j
  level_unmoved j d = by (became p so st o l h j)
    where
      by : Became p l st j (level_at (step_at p l st) j) → level_at (step_at p l st) j ≡ level_at st j
      by (own e q) = absurd (not_both (p.dom j l) (rw e (so.lattice.order.itself l h)) d)
      by (got c e s q) = absurd (not_both (p.dom j l) (and_left (p.dom j l) (not (eqb j l)) s) d)
      by (stayed n q) = q

-- what holds of each manager that has not ended, and still when it has forked, holds after a step, where it holds of a fork that is made
module _ (p : Program) (so : Sound p) (st : State) (o : ForkInvariant p st) (l : ℕ) (h : l < p.levels) (P : Entry → Type 0) (still : (e : Entry) → P e → P (forked_from e)) where
  pub own_each : Each P (entries_in st l) → Each P (entries_of l (move_at p l st).own)
  own_each f = by (step_change p l st so h (o.placed l h) (o.positive l h))
    where
      by : {G : List Entry} {b : Arrival} → Change p l (entries_in st l) G b → Each P G
      by (internal e r) = rest_each P _ _ r f
      by (forks u x m message W e g r hu s t z) =
          rest_each P _ _ r (unfold Each in (still (running_entry l x m.forks) (rw g at f).0, (rw g at f).1))

  pub step_each : ((j : ℕ) → j < p.levels → Each P (entries_in st j)) → ((u : ℕ) (c : Fork) → (move_at p l st).arrival ≡ at u c → P (waiting_entry u c)) → (k : ℕ) → k < p.levels → Each P (entries_in (step_at p l st) k)
  step_each f made k hk = by (level_at (step_at p l st) k) (became p so st o l h k)
    where
      by : (v : Level) → Became p l st k v → Each P (entries_of k v)
      by v (own e q) = rw (q, e) (own_each (f l h))
      by v (got c e s q) = rw q ((arrived_joins k c (level_at st k)).each P (made k c e) (f k hk))
      by v (stayed n q) = rw q (f k hk)
