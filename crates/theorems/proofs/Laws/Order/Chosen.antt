-- Lists of steps by a choice of level: where the choice finds a level that may step as long as a manager has not ended, the list finishes.
-- Assumes nothing.
use Prim.Native.Nat.{ℕ, zero, suc, ◌≤◌, ◌<◌}
use mathlib.Core.Path.{◌≡◌, refl, ◌∙◌, ap}
use mathlib.Core.Bool.{true, false}
use mathlib.Core.List.{List, [], ◌∷◌}
use native.Mathlib.Omega.{arith}
use borrow.Author.Tests.{lt-ltb, ltb-true, eq-eqb}
use lib.Dec.{ltb}
use Rattle.session.specs.Program.{Program}
use Rattle.lists.proofs.Laws.Lists.{holds, fails, truth}
use Rattle.scripts.proofs.Laws.Effects.{Sound}
use Rattle.model.specs.Step.{State, step_at}
use Rattle.model.specs.Schedule.{question15, step_refusal, finished, run_under, run_from, chosen_from}
use Rattle.theorems.proofs.Laws.Steps.May.{MayStep, may_managed, step_may}
use Rattle.theorems.proofs.Laws.Invariant.Bounded.{total, step_less}
use Rattle.theorems.proofs.Laws.Invariant.State.{StateInvariant, steady_preserves}
use Rattle.theorems.proofs.Laws.Order.Finish.{none_may}

-- a run at its end, and with an allowed step
pub run_over : (i : ℕ) (p : Program) (ls : List ℕ) (st : State) → question15 p st ≡ true → ls ≡ [] → run_from i p ls st ≡ finished st
unfolding run_under
run_over i p ls st q e = rw (e, q) refl

pub run_next : (i : ℕ) (p : Program) (l : ℕ) (ls : List ℕ) (st : State) → MayStep p st l → run_from i p (l ∷ ls) st ≡ run_from (suc i) p ls (step_at p l st)
unfolding run_under
run_next i p l ls st m = rw (eq-eqb (step_refusal p st l) 0 (step_may p st l m)) refl

-- where the choice gives a present level the list goes on with it
chosen_next : (choice : Program → State → ℕ) (fuel : ℕ) (p : Program) (st : State) → choice p st < p.levels → chosen_from choice (suc fuel) p st ≡ choice p st ∷ chosen_from choice fuel p (step_at p (choice p st) st)
unfolding chosen_from
chosen_next choice fuel p st h = rw (lt-ltb (choice p st) p.levels h) refl

-- a choice, and what holds of the states along its list
module _ (p : Program) (so : Sound p) (choice : Program → State → ℕ) (Along : State → Type 0)
    (found : (st : State) → StateInvariant p st → Along st → question15 p st ≡ false → choice p st < p.levels)
    (may : (st : State) → StateInvariant p st → Along st → choice p st < p.levels → MayStep p st (choice p st))
    (kept : (st : State) → StateInvariant p st → Along st → choice p st < p.levels → Along (step_at p (choice p st) st)) where
  -- where all managers have ended the list is over
  chosen_over : (fuel : ℕ) (st : State) → StateInvariant p st → Along st → question15 p st ≡ true → chosen_from choice fuel p st ≡ []
  unfolding chosen_from
  chosen_over zero st i a q = refl
  chosen_over (suc fuel) st i a q = elim (truth (ltb (choice p st) p.levels)) [
    | holds e ↦ absurd (none_may p st q (choice p st) (may st i a (ltb-true (choice p st) p.levels e)))
    | fails e ↦ rw e refl
  ]

  -- it finishes within the steps that are left
  pub chosen_finishes : (fuel n : ℕ) (st : State) → StateInvariant p st → Along st → total st ≤ fuel → (t : State) × (run_from n p (chosen_from choice fuel p st) st ≡ finished t)
  chosen_finishes zero n st i a h = elim (truth (question15 p st)) [
    | holds q ↦ (st, run_over n p (chosen_from choice zero p st) st q (chosen_over zero st i a q))
    | fails q ↦
        let m = may st i a (found st i a q) in
        absurd (omega (arith, h, step_less p so st i.fork_invariant i.bounded (choice p st) m.present (may_managed m)))
  ]
  chosen_finishes (suc fuel) n st i a h = elim (truth (question15 p st)) [
    | holds q ↦ (st, run_over n p (chosen_from choice (suc fuel) p st) st q (chosen_over (suc fuel) st i a q))
    | fails q ↦
        let l = choice p st in
        let here = found st i a q in
        let m = may st i a here in
        let (w, e) = chosen_finishes fuel (suc n) (step_at p l st) (steady_preserves p so st i l m.present (may_managed m)) (kept st i a here) (omega (arith, h, step_less p so st i.fork_invariant i.bounded l m.present (may_managed m))) in
        (w, ap (λ ls. run_from n p ls st) (chosen_next choice fuel p st here) ∙ run_next n p l (chosen_from choice fuel p (step_at p l st)) st m ∙ e)
  ]
