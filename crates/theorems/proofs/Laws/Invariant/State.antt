-- Write stamps never fall: a level's write stamp is above those of its ended managers, and above all that forks carry for it. Every
-- scheduler step keeps this, allowed or not. Assumes nothing.
use Prim.Native.Nat.{ℕ, zero, suc, ◌-◌, ◌≤◌, ◌<◌}
use mathlib.Core.Path.{◌≡◌, refl, sym, ap}
use mathlib.Core.Bool.{true}
use mathlib.Core.List.{List, [], ◌∷◌}
use native.Mathlib.Omega.{arith}
use lib.ListN.{get_or, set}
use Rattle.session.specs.Program.{Program}
use Rattle.scripts.proofs.Laws.Effects.{Sound}
use Rattle.model.specs.Limits.{max_managers}
use Rattle.lists.specs.Changed.{inserted}
use Rattle.model.specs.Fork.{Fork}
use Rattle.model.specs.History.{History}
use Rattle.model.specs.Level.{Activity, idle, busy, Level, has_manager, started_count, arrived, forks_by, forks_of}
use Rattle.model.specs.Step.{State, level_at, Arrival, at, move_at, step_at}
use Rattle.lists.specs.Each.{Each}
use Rattle.lists.proofs.Laws.Each.{each_map, each_take, each_inserted}
use Rattle.theorems.proofs.Laws.Invariant.Forest.{rest_each}
use Rattle.theorems.proofs.Laws.Invariant.Forks.{ForkInvariant}
use Rattle.theorems.proofs.Laws.Invariant.Preserved.{other_level, step_preserves}
use Rattle.theorems.proofs.Laws.Invariant.Bounded.{AllBounded, step_bounded}
use Rattle.theorems.proofs.Laws.Invariant.WriteStamps.{write_stamp, Closes, kept, closed, Child, Sends}
use Rattle.theorems.proofs.Laws.Invariant.Contained.{AllContained, step_contained}
use Rattle.theorems.proofs.Laws.Invariant.Became.{Became, own, got, stayed, became, step_marks}

-- an arrival leaves the write stamp, and adds its fork
pub arrived_stamp : (x : Fork) (v : Level) → write_stamp (arrived x v) ≡ write_stamp v
unfolding arrived
arrived_stamp x v = refl

pub arrived_forks : (P : Fork → Type 0) (x : Fork) (v : Level) → P x → Each P (forks_of v) → Each P (forks_of (arrived x v))
unfolding arrived
arrived_forks P x v q e = by v.activity e
  where
    waits : Each P v.waiting → Each P (arrived x v).waiting
    waits f =
        unfold arrived in
        each_take P (max_managers - started_count v) (inserted (λ y. y.stamp) x v.waiting) (each_inserted (λ y. y.stamp) P x q v.waiting f)

    by : (a : Activity) → Each P (forks_by a v.waiting) → Each P (forks_by a (arrived x v).waiting)
    by idle f = waits f
    by (busy y m) f = unfold Each in (f.0, waits f.1)

-- one carried stamp replaced
set_below : (b l s j : ℕ) (xs : List ℕ) → get_or xs j 0 < b → (j ≡ l → s < b) → get_or (set xs l s) j 0 < b
set_below b l s j [] h f = h
set_below b zero s zero (x ∷ xs) h f = f refl
set_below b zero s (suc j) (x ∷ xs) h f = h
set_below b (suc l) s zero (x ∷ xs) h f = h
set_below b (suc l) s (suc j) (x ∷ xs) h f = set_below b l s j xs h (λ e. f (ap suc e))

-- the write stamps of ended managers lie below the level's own, and so do those that forks carry for a level
pub record WriteStampInvariant (p : Program) (st : State) : Type 0 where
  pub ended : (l : ℕ) → l < p.levels → Each (λ h. h.last < write_stamp (level_at st l)) (level_at st l).ended
  pub carried : (l j : ℕ) → l < p.levels → j < p.levels → Each (λ x. get_or x.carried j 0 < write_stamp (level_at st j)) (forks_of (level_at st l))

module _ (p : Program) (so : Sound p) (st : State) (o : ForkInvariant p st) (l : ℕ) (hl : l < p.levels) where
  -- no write stamp falls
  pub stamp_rises : (k : ℕ) → write_stamp (level_at st k) ≤ write_stamp (level_at (step_at p l st) k)
  stamp_rises k = by (became p so st o l hl k)
    where
      by : Became p l st k (level_at (step_at p l st) k) → write_stamp (level_at st k) ≤ write_stamp (level_at (step_at p l st) k)
      by (own e q) = rw (ap write_stamp q, e) (step_marks p so st o l hl).grows
      by (got c e s q) = rw (ap write_stamp q, arrived_stamp c (level_at st k)) (omega arith)
      by (stayed n q) = rw (ap write_stamp q) (omega arith)

  stamped_ended : WriteStampInvariant p st → (k : ℕ) → k < p.levels → Each (λ h. h.last < write_stamp (level_at (step_at p l st) k)) (level_at (step_at p l st) k).ended
  stamped_ended i k hk = by (level_at (step_at p l st) k) (became p so st o l hl k) (stamp_rises k)
    where
      rises : (b c : ℕ) → b ≤ c → (hs : List History) → Each (λ h. h.last < b) hs → Each (λ h. h.last < c) hs
      rises b c g hs e = each_map (λ h. h.last < b) (λ h. h.last < c) (λ h t. omega (arith, t, g)) hs e

      closing : (w : Level) → write_stamp (level_at st l) ≤ write_stamp w → Closes (level_at st l) w → Each (λ h. h.last < write_stamp w) w.ended
      closing w g (kept q) = rw q (rises (write_stamp (level_at st l)) (write_stamp w) g (level_at st l).ended (i.ended l hl))
      closing w g (closed x xs h f t b q) =
          rw q (each_inserted (λ h. h.stamp) (λ h. h.last < write_stamp w) h b (level_at st l).ended (rises (write_stamp (level_at st l)) (write_stamp w) g (level_at st l).ended (i.ended l hl)))

      by : (v : Level) → Became p l st k v → write_stamp (level_at st k) ≤ write_stamp v → Each (λ h. h.last < write_stamp v) v.ended
      by v (own e q) g = rw q (closing (move_at p l st).own (step_marks p so st o l hl).grows (step_marks p so st o l hl).closes)
      by v (got c e s q) g = rw q (unfold arrived in i.ended k hk)
      by v (stayed n q) g = rw q (i.ended k hk)

  stamped_carried : WriteStampInvariant p st → (k j : ℕ) → k < p.levels → j < p.levels → Each (λ x. get_or x.carried j 0 < write_stamp (level_at (step_at p l st) j)) (forks_of (level_at (step_at p l st) k))
  stamped_carried i k j hk hj = by (level_at (step_at p l st) k) (became p so st o l hl k)
    where
      bound : ℕ
      bound = write_stamp (level_at (step_at p l st) j)

      rises : (xs : List Fork) → Each (λ x. get_or x.carried j 0 < write_stamp (level_at st j)) xs → Each (λ x. get_or x.carried j 0 < bound) xs
      rises xs e =
          each_map (λ x. get_or x.carried j 0 < write_stamp (level_at st j)) (λ x. get_or x.carried j 0 < bound) (λ x t. omega (arith, t, stamp_rises j)) xs e

      first : (P : Fork → Type 0) (x : Fork) (xs ys : List Fork) → ys ≡ x ∷ xs → Each P ys → P x
      first P x xs ys q e = unfold Each in (rw q at e).0

      own_stamp : j ≡ l → write_stamp (move_at p l st).own ≡ bound
      own_stamp e = is (became p so st o l hl j)
        where
          is : Became p l st j (level_at (step_at p l st) j) → write_stamp (move_at p l st).own ≡ bound
          is (own g q) = sym (ap write_stamp q)
          is (got c g s q) = absurd (other_level p j l s (sym e))
          is (stayed n q) = absurd (n e)

      child : (c : Fork) → Child l (level_at st l) (move_at p l st).own c → get_or c.carried j 0 < bound
      child c d =
          let parent = first (λ x. get_or x.carried j 0 < bound) d.sender d.others (forks_of (level_at st l)) d.first (rises (forks_of (level_at st l)) (i.carried l j hl hj)) in
          rw d.carried (set_below bound l d.past j d.sender.carried parent (λ e. rw (sym (own_stamp e)) d.below))

      sent : (b : Arrival) (c : Fork) → b ≡ at k c → Sends l (level_at st l) (move_at p l st).own b → Child l (level_at st l) (move_at p l st).own c
      sent b c q s = rw q at s

      by : (v : Level) → Became p l st k v → Each (λ x. get_or x.carried j 0 < bound) (forks_of v)
      by v (own e q) = rw q (rest_each (λ x. get_or x.carried j 0 < bound) (forks_of (level_at st l)) (forks_of (move_at p l st).own) (step_marks p so st o l hl).forks (rises (forks_of (level_at st l)) (i.carried l j hl hj)))
      by v (got c e s q) =
          rw q (arrived_forks (λ x. get_or x.carried j 0 < bound) c (level_at st k) (child c (sent (move_at p l st).arrival c e (step_marks p so st o l hl).child)) (rises (forks_of (level_at st k)) (i.carried k j hk hj)))
      by v (stayed n q) = rw q (rises (forks_of (level_at st k)) (i.carried k j hk hj))

-- the invariant of runs: the forest of fork stamps, messages, frames and scripts under their levels, the limits of levels, the order of
-- write stamps
pub record StateInvariant (p : Program) (st : State) : Type 0 where
  pub fork_invariant : ForkInvariant p st
  pub contained : AllContained p st
  pub bounded : AllBounded st
  pub stamped : WriteStampInvariant p st

-- every step of a manager keeps it
pub steady_preserves : (p : Program) → Sound p → (st : State) → StateInvariant p st → (l : ℕ) → l < p.levels → has_manager (level_at st l) ≡ true → StateInvariant p (step_at p l st)
steady_preserves p so st i l h m =
    record {
      fork_invariant = step_preserves p l st so h i.fork_invariant;
      contained = step_contained p so st i.fork_invariant i.contained l h;
      bounded = step_bounded p so st i.fork_invariant i.bounded l h m;
      stamped = record {
        ended = stamped_ended p so st i.fork_invariant l h i.stamped;
        carried = stamped_carried p so st i.fork_invariant l h i.stamped;
      };
    }
