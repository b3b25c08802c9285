-- What is left of the steps of a manager, and of the questions that its next one asks. Assumes nothing.
use Prim.Native.Nat.{ℕ, ◌+◌, ◌-◌, ◌*◌, ◌≤◌, ◌<◌}
use mathlib.Core.Path.{◌≡◌, refl, sym, ◌∙◌, ap}
use mathlib.Core.Bool.{Bool, true, false, cond}
use mathlib.Core.List.{List, ◌∷◌}
use native.Mathlib.Decide.{ℕ_discrete}
use native.Mathlib.Omega.{arith}
use borrow.Author.Tests.{eq-eqb, ne_eqb}
use lib.Dec.{eqb}
use Rattle.lists.proofs.Laws.Range.{not_both}
use Rattle.session.specs.Limits.{max_numbers}
use Rattle.session.specs.Meaning.{level_of}
use Rattle.session.specs.Program.{program_of}
use Rattle.session.specs.declared.Step.{Step}
use Rattle.session.specs.Value.{Value}
use Rattle.lists.proofs.Laws.Lists.{holds, fails, truth}
use Rattle.scripts.specs.Existence.{existence}
use Rattle.scripts.specs.Limits.{max_script_steps}
use Rattle.scripts.specs.Ending.{is_running}
use Rattle.scripts.specs.State.{Frame}
use Rattle.scripts.specs.Manager.{next_step}
use Rattle.fields.specs.Fields.{known_at, Remembered}
use Rattle.fields.specs.Reads.{unknown, script_found, Small, is_own}
use Rattle.fields.proofs.Laws.Reads.{own_known}
use Rattle.frames.specs.Frames.{frame_of}
use Rattle.operations.specs.Operations.{Pause, none, on, change, pause_on, pause_of}
use Rattle.managers.specs.Manager.{manager_of}
use Rattle.managers.specs.Steps.{WellFormed}
use Rattle.managers.specs.declared.Manager as code
use Rattle.managers.proofs.Laws.Advance.{stack_some}
use Rattle.tallies.specs.Places.{unchanged}
use Rattle.level_state.specs.Representation.{Words}
use Rattle.level_state.proofs.Laws.Pauses.{Reason, of_existence, of_field, pause_reason, same_target, field_told, existence_told, script_same}

-- what a step that waits asks for still: existence, then a field
abbrev pub questions_of : Pause → ℕ
questions_of none = 0
questions_of (on o k) = cond (eqb k existence) 2 1
questions_of change = 0

questions_some : (o k : ℕ) → 0 < questions_of (on o k)
questions_some o k = by (eqb k existence)
  where
    by : (b : Bool) → 0 < cond {A = ℕ} b 2 1
    by true = omega arith
    by false = omega arith

questions_few : (p : Pause) → questions_of p ≤ 2
questions_few none = omega arith
questions_few (on o k) = by (eqb k existence)
  where
    by : (b : Bool) → cond {A = ℕ} b 2 1 ≤ 2
    by true = omega arith
    by false = omega arith
questions_few change = omega arith

-- one step, of which value k of object x is asked for
module _ (s current cache : List ℕ) (u : Bool) (level o : ℕ) (i : Step) (x k : ℕ) (small : Small current) (few : x < max_numbers) (first : pause_on s current cache false u level o i ≡ on x k) where
  -- the object is of another level
  pub pause_apart : level_of s x ≡ level → ⊥
  pause_apart own = by (pause_reason s current cache u level o i x k first).1
    where
      here : is_own s false level x ≡ true
      here = eq-eqb (level_of s x) level own

      by : Reason s current cache u level i x k → ⊥
      by (of_existence is e) = not_both (eqb (script_found current cache true u x) unknown) (rw here at e) (own_known current cache u x small few)
      by (of_field a is e apart shut) = not_both (is_own s false level x) here apart

  -- once it is told it asks for less
  pub told_less : (cache' : List ℕ) {v : Value} → Small cache' → Remembered cache cache' x k v → questions_of (pause_on s current cache' false u level o i) < questions_of (on x k)
  told_less cache' small' kept = by (pause_on s current cache' false u level o i) refl
    where
      by : (p : Pause) → pause_on s current cache' false u level o i ≡ p → questions_of p < questions_of (on x k)
      by none e = questions_some x k
      by change e = questions_some x k
      by (on x' k') e = elim (ℕ_discrete k existence) [
        | yes z ↦
            let seen : known_at cache' x existence ≡ true = rw (sym z) kept.known in
            let same = same_target s current cache cache' u u level o i x k x' k' first e in
            let field = existence_told s current cache cache' u u level o i x k x' k' first e small small' (rw same few) seen in
            rw (eq-eqb k existence z, ne_eqb k' existence field) (omega arith)
        | no z ↦
            let apart : x ≡ x → existence ≡ k → ⊥ = λ _ y. z (sym y) in
            let script = script_same current cache cache' (is_own s false level x) u x (kept.others x existence (omega arith) apart) (kept.field.others x existence (omega arith) apart) in
            absurd (field_told s current cache cache' u u level o i x k x' k' first e z script kept.known)
      ]

first_same : (f g : Frame) (fs gs : List Frame) → f ∷ fs ≡ g ∷ gs → f ≡ g
first_same f g fs gs e = cc

-- managers that stand alike have the same top
top_same : (m r : code.Manager) → manager_of r ≡ manager_of m → 0 < m.core.height → 0 < r.core.height → frame_of r.core.top ≡ frame_of m.core.top
unfolding manager_of
top_same m r stands low low' =
    first_same _ _ _ _ (sym (stack_some r.core.height (frame_of r.core.top) _ low') ∙ ap (λ n. n.frames) stands ∙ stack_some m.core.height (frame_of m.core.top) _ low)

-- and wait for the same
pub pause_same : (s current cache : List ℕ) (u : Bool) (m r : code.Manager) → manager_of r ≡ manager_of m → r.core.level ≡ m.core.level → 0 < m.core.height → 0 < r.core.height → pause_of s current cache false u r.core ≡ pause_of s current cache false u m.core
pause_same s current cache u m r stands level low low' =
    ap (λ (f : Frame). pause_on s current cache false u r.core.level f.object (next_step (program_of s) f)) (top_same m r stands low low')
    ∙ ap (λ j. pause_on s current cache false u j (frame_of m.core.top).object (next_step (program_of s) (frame_of m.core.top))) level

-- each step is counted three times, and what its next one asks for
abbrev pub steps_left : List ℕ → Words → List ℕ → code.Manager → ℕ
steps_left s w cache m =
    cond (is_running m.core.ending) (1 + 3 * (max_script_steps - m.core.steps) + questions_of (pause_of s w.current cache false (unchanged w.tallies) m.core)) 0

-- m runs
module _ (s : List ℕ) (w : Words) (cache : List ℕ) (m : code.Manager) (run : is_running m.core.ending ≡ true) where
  -- it has ended
  pub ended_less : (w' : Words) (cache' : List ℕ) (r : code.Manager) → is_running r.core.ending ≡ false → steps_left s w' cache' r < steps_left s w cache m
  ended_less w' cache' r over = rw (run, over) (omega arith)

  -- it has made a step
  pub later_less : (w' : Words) (cache' : List ℕ) (r : code.Manager) → WellFormed s r → m.core.steps < r.core.steps → steps_left s w' cache' r < steps_left s w cache m
  later_less w' cache' r held more = elim (truth (is_running r.core.ending)) [
    | fails over ↦ ended_less w' cache' r over
    | holds on' ↦
        rw (run, on') (omega (arith, more, held.made, questions_few (pause_of s w'.current cache' false (unchanged w'.tallies) r.core)))
  ]

  -- it has made none, and was told something
  pub asked_less : (w' : Words) (cache' : List ℕ) (r : code.Manager) → is_running r.core.ending ≡ true → r.core.steps ≡ m.core.steps → questions_of (pause_of s w'.current cache' false (unchanged w'.tallies) r.core) < questions_of (pause_of s w.current cache false (unchanged w.tallies) m.core) → steps_left s w' cache' r < steps_left s w cache m
  asked_less w' cache' r on' same less = rw (run, on', same) (omega (arith, less))
