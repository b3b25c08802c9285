-- A manager that runs depth-first, in a state of the level schedulers: what is around it, and that its next step is safe and does what the
-- depth-first run does. Assumes nothing.
use Prim.Native.Nat.{ℕ, ◌+◌, ◌≤◌, ◌<◌}
use mathlib.Core.Path.{◌≡◌, refl, sym, ◌∙◌, ap, ap₂}
use mathlib.Core.Bool.{true, false, not}
use mathlib.Core.List.{List, [], ◌∷◌}
use native.Mathlib.Decide.{ℕ_discrete}
use native.Mathlib.Omega.{arith}
use borrow.Author.Tests.{ne_eqb}
use lib.Dec.{eqb}
use lib.ListN.{length, get_or}
use Rattle.dominance.specs.Order.{strictly}
use Rattle.lists.proofs.Laws.Range.{and_both}
use Rattle.session.specs.Program.{Program, seen_by}
use Rattle.scripts.specs.Existence.{existence, initially}
use Rattle.scripts.specs.Limits.{max_script_steps}
use Rattle.scripts.specs.Ending.{is_running}
use Rattle.scripts.specs.Manager.{stepped}
use Rattle.scripts.specs.State.{Manager, Stepped}
use Rattle.scripts.proofs.Laws.Effects.{Legible, Sound}
use Rattle.scripts.proofs.Laws.Within.{Within, stepped_seen}
use Rattle.model.specs.Fork.{Fork, child_stamp, span}
use Rattle.model.specs.Level.{Version, busy, Level, after, newest, newest_to, forks_of}
use Rattle.model.specs.Step.{State, level_at, view_of, read_at, versions_after, arrival_of, advanced, moved, move_at}
use Rattle.model.specs.DepthFirst.{Tally, Progress, tally_at, field_now}
use Rattle.lists.specs.Each.{Each}
use Rattle.lists.proofs.Laws.Each.{each_map}
use Rattle.model.proofs.Laws.Stamps.{span_positive}
use Rattle.theorems.proofs.Laws.Steps.Diamond.{seen_level}
use Rattle.theorems.proofs.Laws.Steps.Moves.{move_is}
use Rattle.theorems.proofs.Laws.Invariant.Entries.{entries_of}
use Rattle.theorems.proofs.Laws.Invariant.Contained.{AllContained, newest-kept, first_readable}
use Rattle.theorems.proofs.Laws.Invariant.State.{StateInvariant}
use Rattle.theorems.proofs.Laws.Safe.Safe.{Later, ancestor, Safe}
use Rattle.theorems.proofs.Laws.Steps.Reads.{bound_at, seen_field, seen_own, seen_below}
use Rattle.theorems.proofs.Laws.Deep.Quiescent.{quiescent_level, LevelQuiescent, Below, newest_within}

-- the end of the interval of stamps of fork c
abbrev pub end_of : Fork → ℕ
end_of c = c.stamp + span c.depth

-- "Fields are simply current": the newest versions are the depth-first run's fields
abbrev pub FieldsAgree : Program → State → Progress → Type 0
FieldsAgree p st g =
    (o k : ℕ) → newest (initially p o k) o k (level_at st (p.level o)).versions ≡ field_now p g o k

-- so what the depth-first run reads of existence names scripts that the objects' levels may read
pub fields_legible : (p : Program) → Sound p → (st : State) (g : Progress) → AllContained p st → FieldsAgree p st g → Legible p (field_now p g)
fields_legible p so st g i f o =
    rw (sym (f o existence)) (newest-kept p (p.level o) (initially p o existence) o (level_at st (p.level o)).versions (first_readable p so o) (i (p.level o) (so.placed o)).versions)

-- the levels around level u, where the manager of fork c runs and gives stamps from lo on
pub record Around (p : Program) (st : State) (g : Progress) (u : ℕ) (c : Fork) (lo : ℕ) : Type 0 where
  pub below : (j : ℕ) → j < p.levels → strictly p.dom u j ≡ true → Below (get_or c.carried j 0) c.stamp (end_of c) j (level_at st j)
  pub quiescent : (j : ℕ) → j < p.levels → p.dom u j ≡ false → LevelQuiescent lo (tally_at g j) (level_at st j)
  pub carries : (j : ℕ) → j < p.levels → p.dom u j ≡ false → get_or c.carried j 0 ≡ 0
  pub fields : FieldsAgree p st g
  pub width : length c.carried ≡ p.levels
  pub counted : length g.levels ≡ p.levels
  pub steady : StateInvariant p st

-- the manager of fork c at level u is m, and may make k script steps more
pub record Working (p : Program) (st : State) (g : Progress) (u : ℕ) (c : Fork) (m : Manager) (k : ℕ) : Type 0 where
  pub versions : List Version
  pub is : level_at st u ≡ after (quiescent_level (tally_at g u) versions) [] versions c m
  pub written : Each (λ w. w.stamp ≤ m.stamp) versions
  pub early : Each (λ h. h.stamp < c.stamp) (tally_at g u).ended
  pub positive : 0 < m.stamp
  pub level : m.level ≡ u
  pub within : Within p u m
  pub steps : m.steps + k ≡ max_script_steps
  pub live : is_running m.ending ≡ true → m.steps < max_script_steps
  pub room : child_stamp c.stamp c.depth (m.forks + 1) ≤ end_of c
  pub around : Around p st g u c (child_stamp c.stamp c.depth (m.forks + 1))

-- the step of a level whose first fork is c is safe
pub around_safe : (p : Program) (st : State) (g : Progress) (u : ℕ) (c : Fork) (lo : ℕ) (others : List Fork) → u < p.levels → Around p st g u c lo → forks_of (level_at st u) ≡ c ∷ others → Safe p st u
around_safe p st g u c lo others h a q =
    record {
      present = h;
      fork = c;
      others = others;
      first = q;
      below = λ j hj s.
          each_map (λ e. (end_of c ≤ e.next) × (get_or c.carried j 0 ≡ 0 → ⊥)) (Later c j) (λ e r. ancestor r.1 (omega (arith, r.0, span_positive c.depth))) (entries_of j (level_at st j)) (a.below j hj s).later;
    }

-- a level at which the manager of fork c runs alone
abbrev pub working : Tally → List Version → Fork → Manager → Level
working t vs c m = record { waiting = []; activity = busy c m; ended = t.ended; next = t.next; versions = vs }

running_is : (t : Tally) (vs : List Version) (c : Fork) (m : Manager) → is_running m.ending ≡ true → after (quiescent_level t vs) [] vs c m ≡ working t vs c m
unfolding after
running_is t vs c m e = rw e refl

moved_working : (p : Program) (st : State) (l : ℕ) (t : Tally) (vs : List Version) (c : Fork) (m : Manager) (s : Stepped) → stepped p (read_at p st l c) m ≡ s → moved p st l (working t vs c m) (busy c m) ≡ record { own = after (quiescent_level t vs) [] (versions_after m s.effect vs) c s.manager; arrival = arrival_of l c m s.effect }
unfolding moved advanced after
moved_working p st l t vs c m s q =
    ap (λ s. record { own = after (quiescent_level t vs) [] (versions_after m s.effect vs) c s.manager; arrival = arrival_of l c m s.effect }) q

-- what the manager of fork c at level u reads of the objects that u dominates is current
module _ (p : Program) (so : Sound p) (st : State) (g : Progress) (u : ℕ) (c : Fork) (lo : ℕ) (a : Around p st g u c lo) where
  pub reads_current : (o k : ℕ) → p.dom u (p.level o) ≡ true → read_at (seen_by u p) (view_of p u st) u c o k ≡ field_now p g o k
  reads_current o k d = by (seen_level p u (p.level o) st (so.placed o) d) (ℕ_discrete (p.level o) u)
    where
      strict : (p.level o ≡ u → ⊥) → strictly p.dom u (p.level o) ≡ true
      strict n = and_both (p.dom u (p.level o)) (not (eqb u (p.level o))) d (rw (ne_eqb u (p.level o) (λ q. n (sym q))) refl)

      by : level_at (view_of p u st) (p.level o) ≡ level_at st (p.level o) → Dec (p.level o ≡ u) → read_at (seen_by u p) (view_of p u st) u c o k ≡ field_now p g o k
      by q (yes e) =
          seen_own u p (view_of p u st) c o k e
          ∙ ap₂ (λ i v. newest i o k v.versions) (seen_field u p o k d) q
          ∙ a.fields o k
      by q (no n) =
          seen_below u p (view_of p u st) c o k n
          ∙ ap₂ (λ i v. newest_to (bound_at c (p.level o) v) i o k v.versions) (seen_field u p o k d) q
          ∙ newest_within (bound_at c (p.level o) (level_at st (p.level o))) (initially p o k) o k (level_at st (p.level o)).versions ((a.below (p.level o) (so.placed o) (strict n)).readable c.stamp (omega arith))
          ∙ a.fields o k

-- the step of a manager that runs does what the depth-first run does
module _ (p : Program) (so : Sound p) (st : State) (g : Progress) (u : ℕ) (hu : u < p.levels) (c : Fork) (m : Manager) (k : ℕ) (w : Working p st g u c m k) (r : is_running m.ending ≡ true) where
  pub busy_is : level_at st u ≡ working (tally_at g u) w.versions c m
  busy_is = w.is ∙ running_is (tally_at g u) w.versions c m r

  pub working_safe : Safe p st u
  working_safe = around_safe p st g u c _ [] hu w.around (ap forks_of busy_is)

  -- its step, as the depth-first run makes it
  abbrev pub done : Stepped
  done = stepped p (field_now p g) m

  seen_done : stepped (seen_by u p) (read_at (seen_by u p) (view_of p u st) u c) m ≡ done
  seen_done =
      stepped_seen p (read_at (seen_by u p) (view_of p u st) u c) (field_now p g) u m so (fields_legible p so st g w.around.steady.contained w.around.fields) hu w.level r w.within (reads_current p so st g u c _ w.around)

  pub working_move : move_at p u st ≡ record { own = after (quiescent_level (tally_at g u) w.versions) [] (versions_after m done.effect w.versions) c done.manager; arrival = arrival_of u c m done.effect }
  working_move =
      move_is p u st so hu
      ∙ ap (λ v. moved (seen_by u p) (view_of p u st) u v v.activity) busy_is
      ∙ moved_working (seen_by u p) (view_of p u st) u (tally_at g u) w.versions c m done seen_done
