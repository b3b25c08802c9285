-- Steps at two incomparable levels commute. Assumes nothing.
use Prim.Native.Nat.{ℕ, ◌<◌}
use mathlib.Core.Path.{◌≡◌, refl, sym, ◌∙◌, ap}
use mathlib.Core.Bool.{true, false, not, cond}
use lib.Dec.{eqb}
use Rattle.dominance.specs.Order.{PartialOrder}
use Rattle.lists.proofs.Laws.Range.{and_left, not_both}
use Rattle.session.specs.Program.{Program}
use Rattle.lists.proofs.Laws.Lists.{get_d_tab}
use Rattle.model.specs.Level.{new_level}
use Rattle.model.specs.Step.{State, level_at, view_of, Arrival, none, at, move_at, applied, step_at}
use Rattle.theorems.proofs.Laws.Steps.Locality.{Above, Apart, Misses, local, view_applied, applied_comm}

-- what a level sees is what is there, at the levels that it dominates
pub seen_level : (p : Program) (l j : ℕ) (st : State) → j < p.levels → p.dom l j ≡ true → level_at (view_of p l st) j ≡ level_at st j
unfolding view_of
seen_level p l j st h e =
    get_d_tab new_level p.levels (λ j. cond (p.dom l j) (level_at st j) new_level) j h ∙ rw e refl

module _ (p : Program) (po : PartialOrder p.levels p.dom) where
  pub misses : (l k : ℕ) (a : Arrival) → p.dom k l ≡ false → Above p l a → Misses k a
  misses l k none e a = tt
  misses l k (at u x) e a = λ q. not_both (p.dom k l) (rw q at (and_left (p.dom u l) (not (eqb u l)) a.1)) e

  -- a step at a level k that l does not dominate leaves what l sees, and what it does, as it was
  module _ (st : State) (l k : ℕ) (hl : l < p.levels) (hk : k < p.levels) (lk : p.dom l k ≡ false) (ak : Above p k (move_at p k st).arrival) where
    unseen : view_of p l (step_at p k st) ≡ view_of p l st
    unfolding step_at
    unseen = view_applied p po l k (move_at p k st) st hl hk lk ak

    pub move_same : move_at p l (step_at p k st) ≡ move_at p l st
    move_same = local p l (step_at p k st) st unseen

  pub step_is : (l : ℕ) (st : State) → step_at p l st ≡ applied l (move_at p l st) st
  step_is l st = unfold step_at in refl

  -- Diamond: steps at two incomparable levels in either order, the same state
  pub diamond : (st : State) (l k : ℕ) → (l ≡ k → ⊥) → l < p.levels → k < p.levels → p.dom l k ≡ false → p.dom k l ≡ false → Above p l (move_at p l st).arrival → Above p k (move_at p k st).arrival → Apart (move_at p l st).arrival (move_at p k st).arrival → step_at p l (step_at p k st) ≡ step_at p k (step_at p l st)
  diamond st l k n hl hk lk kl al ak d =
      step_is l (step_at p k st)
      ∙ ap (λ m. applied l m (step_at p k st)) (move_same st l k hl hk lk ak)
      ∙ ap (applied l (move_at p l st)) (step_is k st)
      ∙ applied_comm l k (move_at p l st) (move_at p k st) st n (misses l k (move_at p l st).arrival kl al) (misses k l (move_at p k st).arrival lk ak) d
      ∙ sym (ap (applied k (move_at p k st)) (step_is l st))
      ∙ sym (ap (λ m. applied k m (step_at p l st)) (move_same st k l hk hl kl al))
      ∙ sym (step_is k (step_at p l st))
