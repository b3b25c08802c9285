-- Question 14 beside the conservative rule, and the order of the depth-first run: the statements of specs/Rules, proved. Assumes nothing.
use Prim.Native.Nat.{ℕ, suc}
use mathlib.Core.Path.{◌≡◌, refl, ◌∙◌, ap}
use mathlib.Core.Bool.{Bool, true, false}
use mathlib.Core.List.{List, [], ◌∷◌}
use borrow.Author.Tests.{eqb-true}
use lib.Dec.{eqb}
use Rattle.lists.proofs.Laws.Range.{not_both}
use Rattle.session.specs.Questions.{verdict_of, Accepted}
use Rattle.session.specs.Meaning.{root_of}
use Rattle.session.specs.Program.{program_of}
use Rattle.lists.proofs.Laws.Lists.{holds, fails, truth}
use Rattle.session.proofs.Laws.Numbering.{few_levels}
use Rattle.session.proofs.Laws.Verdict.{accepted}
use Rattle.model.specs.Step.{State, step_at}
use Rattle.model.specs.Schedule.{question14, refusal_under, Outcome, finished, refused, run_under, run_from, run_of}
use Rattle.model.specs.Rules.{conservative}
use Rattle.theorems.specs.Rules.{StillAllowed, StillFinishes, DepthFirstOrderFinishes}
use Rattle.theorems.proofs.Laws.Order.Accepted.{sound}
use Rattle.theorems.proofs.Laws.Order.DepthFirst.{depth_first_run}
use Rattle.theorems.proofs.Laws.Code.Reached.{ReachedState, live_start, live_step}
use Rattle.theorems.proofs.Laws.Code.Progress as laws

pub still_allowed : StillAllowed
still_allowed s a ls st r l e = laws.still_allowed s a st (laws.leads_live s a ls st r) l e

abbrev is_finished : Outcome → Bool
is_finished (finished st) = true
is_finished (refused number place) = false

-- from any state that steps lead to
run_before : (s : List ℕ) (a : verdict_of s ≡ Accepted) (i : ℕ) (ls : List ℕ) (st t : State) → ReachedState s st → run_under conservative i (program_of s) ls st ≡ finished t → run_from i (program_of s) ls st ≡ finished t
unfolding run_under
run_before s a i [] st t r e = e
run_before s a i (l ∷ ls) st t r e = elim (truth (eqb (refusal_under conservative (program_of s) st l) 0)) [
  | holds q ↦
      let ok = laws.still_allowed s a st r l (eqb-true (refusal_under conservative (program_of s) st l) 0 q) in
      laws.run_made i (program_of s) l ls st ok
      ∙ run_before s a (suc i) ls (step_at (program_of s) l st) t (live_step s a st r l (unfold program_of in (laws.allowed question14 (program_of s) st l ok).0) ok) (rw q at e)
  | fails q ↦ absurd (not_both false (ap is_finished (rw q at e)) refl)
]

pub still_finishes : StillFinishes
unfolding run_of
still_finishes s a ls t e = run_before s a 0 ls _ t (live_start s a) e

pub depth_first_order_finishes : DepthFirstOrderFinishes
depth_first_order_finishes s a =
    depth_first_run (program_of s) (sound s a) (unfold program_of in few_levels s (accepted s a).three) (root_of s)
