-- Scheduler steps, allowed or not: where a level has no manager its step changes nothing, so what every manager's step keeps holds after any
-- list of steps. Assumes nothing.
use Prim.Native.Nat.{ℕ, ◌≤◌, ◌<◌}
use mathlib.Core.Path.{◌≡◌, refl, sym, ◌∙◌, ap}
use mathlib.Core.Bool.{true, false, not, ◌||◌}
use mathlib.Core.List.{List, [], ◌∷◌}
use native.Mathlib.Decide.{dec_lt}
use native.Mathlib.Omega.{arith}
use lib.ListN.{length, get_or-eq_default}
use Rattle.lists.proofs.Laws.Range.{not_both}
use Rattle.session.specs.Program.{Program, seen_by}
use Rattle.lists.proofs.Laws.Lists.{holds, fails, truth, length-tab}
use Rattle.scripts.proofs.Laws.Effects.{Sound}
use Rattle.model.specs.Fork.{Fork}
use Rattle.model.specs.Level.{Activity, idle, busy, Level, new_level, is_busy, is_empty, has_manager}
use Rattle.model.specs.Step.{State, level_at, view_of, none, begun, moved, move_at, applied, delivered, step_at}
use Rattle.theorems.specs.Existence.{stepped_at}
use Rattle.lists.proofs.Laws.Changed.{modify_itself}
use Rattle.theorems.proofs.Laws.Steps.Diamond.{seen_level}
use Rattle.theorems.proofs.Laws.Invariant.State.{StateInvariant, steady_preserves}

-- a level with no manager does nothing
moved_none : (p : Program) (st : State) (l : ℕ) (v : Level) (a : Activity) (ws : List Fork) → v.waiting ≡ ws → (is_busy a || not (is_empty ws)) ≡ false → moved p st l v a ≡ record { own = v; arrival = none }
unfolding moved begun
moved_none p st l v idle [] q e = rw q refl
moved_none p st l v idle (x ∷ xs) q e = absurd (not_both true refl e)
moved_none p st l v (busy x m) ws q e = absurd (not_both true refl e)

-- a level that has a manager is present
absent_new : (l : ℕ) (st : State) → length st ≤ l → level_at st l ≡ new_level
absent_new l st h = get_or-eq_default st new_level h

managed_present : (l : ℕ) (st : State) → has_manager (level_at st l) ≡ true → l < length st
managed_present l st m = elim (dec_lt l (length st)) [
  | yes h ↦ h
  | no h ↦ absurd (not_both (has_manager (level_at st l)) m (ap has_manager (absent_new l st (omega (arith, h)))))
]

module _ (p : Program) (so : Sound p) where
  -- a level as it sees itself, present or not
  seen_itself : (l : ℕ) (st : State) → length st ≡ p.levels → level_at (view_of p l st) l ≡ level_at st l
  seen_itself l st n = elim (dec_lt l p.levels) [
    | yes h ↦ seen_level p l l st h (so.lattice.order.itself l h)
    | no h ↦ absent_new l (view_of p l st) (omega (arith, h, view_length)) ∙ sym (absent_new l st (omega (arith, h, n)))
  ]
    where
      view_length : length (view_of p l st) ≡ p.levels
      view_length = unfold view_of in length-tab p.levels _

  -- the step of a level with no manager changes nothing
  step_none : (l : ℕ) (st : State) → length st ≡ p.levels → has_manager (level_at st l) ≡ false → step_at p l st ≡ st
  unfolding step_at move_at delivered
  step_none l st n e =
      let q = seen_itself l st n in
      ap (λ d. applied l d st) (ap (λ v. moved (seen_by l p) (view_of p l st) l v v.activity) q ∙ moved_none (seen_by l p) (view_of p l st) l (level_at st l) (level_at st l).activity (level_at st l).waiting refl e)
      ∙ modify_itself new_level l st

  -- what holds at first, and still after a step of a present level, holds after any steps, and so does the invariant
  module _ (P : State → Type 0) (keeps : (st : State) → StateInvariant p st → P st → (l : ℕ) → l < p.levels → P (step_at p l st)) where
    any_step : (l : ℕ) (st : State) → StateInvariant p st → P st → StateInvariant p (step_at p l st) × P (step_at p l st)
    any_step l st i q = elim (truth (has_manager (level_at st l))) [
      | holds m ↦
          let h : l < p.levels = omega (arith, managed_present l st m, i.fork_invariant.size) in
          (steady_preserves p so st i l h m, keeps st i q l h)
      | fails m ↦ rw (step_none l st i.fork_invariant.size m) (i, q)
    ]

    pub any_steps : (ls : List ℕ) (st : State) → StateInvariant p st → P st → StateInvariant p (stepped_at p ls st) × P (stepped_at p ls st)
    unfolding stepped_at
    any_steps [] st i q = (i, q)
    any_steps (l ∷ ls) st i q =
        let next = any_step l st i q in
        any_steps ls (step_at p l st) next.0 next.1
