-- All that holds of a state that a run reaches. Assumes nothing.
use Prim.Native.Nat.{ℕ, ◌≤◌, ◌<◌}
use native.Mathlib.Omega.{arith}
use Rattle.session.specs.Program.{Program}
use Rattle.session.specs.declared.Message.{Message}
use Rattle.session.specs.Limits.{max_levels}
use Rattle.scripts.proofs.Laws.Effects.{Sound}
use Rattle.model.specs.Step.{State, level_at, step_at}
use Rattle.model.specs.Schedule.{read_in}
use Rattle.lists.specs.Each.{Each, Pairwise}
use Rattle.theorems.proofs.Laws.Invariant.Forks.{entries_in}
use Rattle.theorems.proofs.Laws.Invariant.Entries.{entries_of}
use Rattle.theorems.proofs.Laws.Invariant.State.{StateInvariant, steady_preserves}
use Rattle.theorems.proofs.Laws.Invariant.Versions.{Dated, step_dated}
use Rattle.theorems.proofs.Laws.Steps.May.{MayStep, may_managed}
use Rattle.theorems.proofs.Laws.Order.Orderly.{OrderInvariant, order_preserves}
use Rattle.theorems.proofs.Laws.Order.ReadIn.{read_in_ordered}
use Rattle.theorems.proofs.Laws.Deep.Root.{each_level, root_steady}
use Rattle.theorems.proofs.Laws.Code.Bounds.{Fits32, step_fits, Paced, step_paced}

pub record Reachable (p : Program) (st : State) : Type 0 where
  pub steady : StateInvariant p st
  pub ordered : OrderInvariant p st
  pub fits : (l : ℕ) → l < p.levels → Each Fits32 (entries_in st l)
  pub paced : (l : ℕ) → l < p.levels → Paced (level_at st l)
  pub dated : (l : ℕ) → l < p.levels → Dated (level_at st l)

-- the session as read in
pub reachable_start : (p : Program) → Sound p → p.levels ≤ max_levels → (root : Message) → Reachable p (read_in p root)
reachable_start p so few root =
    record {
      steady = root_steady p so few root;
      ordered = read_in_ordered p so few root;
      fits = λ l h. each_level p so few root (λ v. Each Fits32 (entries_of l v)) (unfold Each in (omega arith, tt)) (unfold Each in tt) l;
      paced = λ l h. each_level p so few root Paced (omega arith, omega arith) (omega arith, omega arith) l;
      dated = λ l h.
          each_level p so few root Dated (record { falling = unfold Pairwise in tt; low = unfold Each in tt }) (record { falling = unfold Pairwise in tt; low = unfold Each in tt }) l;
    }

-- and the state after an allowed step
pub reachable_step : (p : Program) → Sound p → (st : State) → Reachable p st → (l : ℕ) → MayStep p st l → Reachable p (step_at p l st)
reachable_step p so st r l m =
    let h = m.present in
    record {
      steady = steady_preserves p so st r.steady l h (may_managed m);
      ordered = order_preserves p so st r.steady r.ordered l m;
      fits = step_fits p so st r.steady.fork_invariant r.fits l h;
      paced = step_paced p so st r.steady.fork_invariant r.paced l h;
      dated = step_dated p so st r.steady.fork_invariant r.dated l h;
    }
