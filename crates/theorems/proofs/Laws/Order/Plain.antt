-- The plain order finishes, within the number of steps that the session as read in has left. Assumes nothing.
use Prim.Native.Nat.{ℕ, ◌≤◌, ◌<◌}
use mathlib.Core.Path.{◌≡◌}
use borrow.Author.Tests.{eqb-true}
use lib.Dec.{eqb}
use Rattle.lists.proofs.Laws.Range.{first_passes}
use Rattle.session.specs.Program.{Program}
use Rattle.scripts.proofs.Laws.Effects.{Sound}
use Rattle.model.specs.Step.{State}
use Rattle.model.specs.Schedule.{step_refusal, finished, run_from, lowest, plain_from}
use Rattle.theorems.proofs.Laws.Steps.May.{MayStep, may_step}
use Rattle.theorems.proofs.Laws.Invariant.Bounded.{total}
use Rattle.theorems.proofs.Laws.Invariant.State.{StateInvariant}
use Rattle.theorems.proofs.Laws.Order.Orderly.{OrderInvariant, order_preserves}
use Rattle.theorems.proofs.Laws.Order.Progress.{lowest_found}
use Rattle.theorems.proofs.Laws.Order.Chosen.{chosen_finishes}

-- the lowest level that may step, may
lowest_may : (p : Program) (st : State) → lowest p st < p.levels → MayStep p st (lowest p st)
unfolding lowest
lowest_may p st h =
    may_step p st (lowest p st) (eqb-true (step_refusal p st (lowest p st)) 0 (first_passes p.levels (λ l. eqb (step_refusal p st l) 0) h))

-- the plain order finishes within the steps that are left
pub plain_finishes : (p : Program) → Sound p → (fuel i : ℕ) (st : State) → StateInvariant p st → OrderInvariant p st → total st ≤ fuel → (t : State) × (run_from i p (plain_from fuel p st) st ≡ finished t)
plain_finishes p so =
    chosen_finishes p so lowest (OrderInvariant p) (lowest_found p so) (λ st i o h. lowest_may p st h) (λ st i o h. order_preserves p so st i o (lowest p st) (lowest_may p st h))
