-- Whole lists of scheduler steps: any two that finish from one state end in the same state. Assumes nothing.
use Prim.Native.Nat.{ℕ, suc}
use mathlib.Core.Path.{◌≡◌, refl, sym, ◌∙◌, ap}
use mathlib.Core.Bool.{Bool, true, false}
use mathlib.Core.List.{List, [], ◌∷◌}
use borrow.Author.Tests.{eqb-true, not-true}
use lib.Dec.{eqb}
use Rattle.lists.proofs.Laws.Range.{all_each, not_both}
use Rattle.session.specs.Program.{Program}
use Rattle.lists.proofs.Laws.Lists.{holds, fails, truth}
use Rattle.scripts.proofs.Laws.Effects.{Sound}
use Rattle.model.specs.Level.{has_manager}
use Rattle.model.specs.Step.{State, level_at, step_at}
use Rattle.model.specs.Schedule.{question15, step_refusal, Outcome, finished, refused, run_under, run_from}
use Rattle.theorems.proofs.Laws.Confluence.{ran, Allowed, Over, confluent}
use Rattle.theorems.proofs.Laws.Steps.May.{MayStep, may_managed, may_step}
use Rattle.theorems.proofs.Laws.Invariant.State.{StateInvariant, steady_preserves}
use Rattle.theorems.proofs.Laws.Safe.Safe.{Safe, safe_managed}
use Rattle.theorems.proofs.Laws.Safe.Asked.{may_safe}
use Rattle.theorems.proofs.Laws.Safe.SafeCommute.{safe_commute}

abbrev state_of : Outcome → State
state_of (finished st) = st
state_of (refused number place) = []

abbrev is_finished : Outcome → Bool
is_finished (finished st) = true
is_finished (refused number place) = false

-- a list that finishes: each step is allowed, and it ends in that state, with all managers ended
pub record Finishes (p : Program) (ls : List ℕ) (st t : State) : Type 0 where
  pub allowed : Allowed (step_at p) (MayStep p) ls st
  pub ends : ran (step_at p) ls st ≡ t
  pub over : question15 p t ≡ true

pub finishes : (i : ℕ) (p : Program) (ls : List ℕ) (st t : State) → run_from i p ls st ≡ finished t → Finishes p ls st t
unfolding run_under ran Allowed
finishes i p [] st t e = elim (truth (question15 p st)) [
  | holds q ↦
      let same : st ≡ t = ap state_of (rw q at e) in
      record { allowed = tt; ends = same; over = rw (sym same) q }
  | fails q ↦ absurd (not_both false (ap is_finished (rw q at e)) refl)
]
finishes i p (l ∷ ls) st t e = elim (truth (eqb (step_refusal p st l) 0)) [
  | holds q ↦
      let rest = finishes (suc i) p ls (step_at p l st) t (rw q at e) in
      record { allowed = (may_step p st l (eqb-true (step_refusal p st l) 0 q), rest.allowed); ends = rest.ends; over = rest.over }
  | fails q ↦ absurd (not_both false (ap is_finished (rw q at e)) refl)
]

-- where all managers have ended no step is safe, so none is allowed
pub none_safe : (p : Program) (st : State) → question15 p st ≡ true → Over (Safe p) st
unfolding question15
none_safe p st e l s =
    not_both (has_manager (level_at st l)) (safe_managed s) (not-true (has_manager (level_at st l)) (all_each p.levels _ e l s.present))

pub none_may : (p : Program) (st : State) → question15 p st ≡ true → Over (MayStep p) st
unfolding question15
none_may p st e l m =
    not_both (has_manager (level_at st l)) (may_managed m) (not-true (has_manager (level_at st l)) (all_each p.levels _ e l m.present))

module _ (p : Program) (so : Sound p) where
  -- the steps of an allowed list are safe
  pub allowed_safe : (ls : List ℕ) (st : State) → StateInvariant p st → Allowed (step_at p) (MayStep p) ls st → Allowed (step_at p) (Safe p) ls st
  unfolding Allowed
  allowed_safe [] st i a = tt
  allowed_safe (l ∷ ls) st i a = (
    may_safe p so st i l a.0,
    allowed_safe ls (step_at p l st) (steady_preserves p so st i l a.0.present (may_managed a.0)) a.1,
  )

  -- any two lists that finish from a state with the invariant end in the same state
  pub same_end : (st : State) → StateInvariant p st → (ls ks : List ℕ) (t w : State) → Finishes p ls st t → Finishes p ks st w → t ≡ w
  same_end st i ls ks t w a b =
      sym a.ends
      ∙ confluent State (step_at p) (Safe p) (StateInvariant p) (safe_commute p so) ls ks st i (allowed_safe ls st i a.allowed) (none_safe p (ran (step_at p) ls st) (rw a.ends a.over)) (allowed_safe ks st i b.allowed) (none_safe p (ran (step_at p) ks st) (rw b.ends b.over))
      ∙ b.ends
