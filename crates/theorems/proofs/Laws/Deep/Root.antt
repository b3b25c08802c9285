-- The depth-first run of the root message is a list of safe steps that ends with all managers ended: so every list of scheduler steps
-- that finishes leaves what the depth-first run leaves. Assumes nothing.
use Prim.Native.Nat.{ℕ, ◌≤◌, ◌<◌}
use mathlib.Core.Path.{◌≡◌, refl, sym, ◌∙◌, ap}
use mathlib.Core.Bool.{true, false}
use mathlib.Core.List.{List, []}
use native.Mathlib.Decide.{ℕ_discrete, dec_lt}
use native.Mathlib.Omega.{arith}
use lib.ListN.{get_or, replicate, length-replicate, get_or-eq_default}
use Rattle.lists.proofs.Laws.Range.{not_both, all-every}
use Rattle.session.specs.Program.{Program}
use Rattle.session.specs.declared.Message.{Message}
use Rattle.lists.proofs.Laws.Lists.{Truth, holds, fails, truth}
use Rattle.session.specs.Limits.{max_levels}
use Rattle.scripts.specs.Existence.{initially}
use Rattle.scripts.proofs.Laws.Effects.{Sound}
use Rattle.lists.specs.Changed.{inserted, last_or}
use Rattle.model.specs.Fork.{Fork, root_fork}
use Rattle.model.specs.Level.{Level, new_level, has_manager, arrived, newest}
use Rattle.model.specs.Step.{State, level_at, step_at}
use Rattle.model.specs.Schedule.{read_in, question15, finished, run_of}
use Rattle.model.specs.DepthFirst.{Tally, Progress, new_tally, tally_at, current, depth_first}
use Rattle.model.specs.Result.{result_of, result_of_depth_first}
use Rattle.theorems.proofs.Laws.Confluence.{ran, confluent}
use Rattle.lists.specs.Each.{Each}
use Rattle.theorems.proofs.Laws.Invariant.Rank.{count_most}
use Rattle.theorems.proofs.Laws.Invariant.Preserved.{other_level}
use Rattle.theorems.proofs.Laws.Order.Finish.{Finishes, finishes, none_safe, allowed_safe}
use Rattle.theorems.proofs.Laws.Order.ReadIn.{repeated, at_root, elsewhere, read_in_steady}
use Rattle.theorems.proofs.Laws.Invariant.State.{StateInvariant}
use Rattle.theorems.proofs.Laws.Safe.Safe.{Safe}
use Rattle.theorems.proofs.Laws.Safe.SafeCommute.{safe_commute}
use Rattle.theorems.proofs.Laws.Deep.Quiescent.{awaiting, Past, LevelQuiescent, quiescent_below}
use Rattle.theorems.proofs.Laws.Deep.Working.{end_of, FieldsAgree}
use Rattle.theorems.proofs.Laws.Deep.Ready.{Ready}
use Rattle.theorems.proofs.Laws.Deep.DeepRun.{Runs, runs_forks}

root_waits : (x : Fork) → arrived x new_level ≡ awaiting x new_tally []
unfolding arrived inserted
root_waits x = refl

module _ (p : Program) (so : Sound p) (few : p.levels ≤ max_levels) (root : Message) where
  abbrev r : ℕ
  r = p.level root.object

  abbrev x : Fork
  x = root_fork p.levels root

  abbrev start : Progress
  start = record { written = []; levels = replicate p.levels new_tally }

  no_tally : (j : ℕ) → tally_at start j ≡ new_tally
  no_tally j = repeated p.levels new_tally j

  pub root_is : level_at (read_in p root) r ≡ awaiting x new_tally []
  root_is = at_root p so few root ∙ root_waits x

  pub other_is : (j : ℕ) → (r ≡ j → ⊥) → level_at (read_in p root) j ≡ new_level
  other_is = elsewhere p so few root

  -- nothing has happened
  none_past : (lo : ℕ) → Past lo new_tally []
  none_past lo = record { early = unfold Each in tt; last = unfold last_or in refl; written = unfold Each in tt }

  -- what holds of a level where the root waits and of a new one holds of each
  pub each_level : (P : Level → Type 0) → P (awaiting x new_tally []) → P new_level → (j : ℕ) → P (level_at (read_in p root) j)
  each_level P a b j = elim (ℕ_discrete r j) [
    | yes e ↦ rw (sym e, root_is) a
    | no n ↦ rw (other_is j n) b
  ]

  pub root_steady : StateInvariant p (read_in p root)
  root_steady = read_in_steady p so few root

  root_fields : FieldsAgree p (read_in p root) start
  unfolding newest current
  root_fields o k = ap (newest (initially p o k) o k) (each_level (λ v. v.versions ≡ []) refl refl (p.level o))

  root_quiescent : (j : ℕ) → (r ≡ j → ⊥) → LevelQuiescent 0 (tally_at start j) (level_at (read_in p root) j)
  root_quiescent j n = rw (no_tally j, other_is j n) (record { versions = []; is = refl; past = none_past 0 })

  root_ready : Ready p (read_in p root) start r x
  root_ready =
      record {
        versions = [];
        is = rw (no_tally r) root_is;
        past = rw (no_tally r) (none_past 0);
        reaches = so.lattice.order.itself r (so.placed root.object);
        around = record {
          below = λ j h s. quiescent_below (get_or x.carried j 0) 0 (end_of x) j (tally_at start j) (level_at (read_in p root) j) (repeated {A = ℕ} p.levels 0 j) (root_quiescent j (λ q. other_level p r j s (sym q)));
          quiescent = λ j h d. root_quiescent j (λ q. not_both (p.dom r j) (rw (sym q) (so.lattice.order.itself r (so.placed root.object))) d);
          carries = λ j h d. repeated {A = ℕ} p.levels 0 j;
          fields = root_fields;
          width = length-replicate p.levels 0;
          counted = length-replicate p.levels new_tally;
          steady = root_steady;
        };
      }

  -- the list of safe steps of the depth-first run
  pub deep_run : Runs p r x (read_in p root) start (depth_first p root)
  unfolding depth_first
  deep_run =
      runs_forks p so p.levels r (so.placed root.object) (count_most p.levels (λ k. p.dom k r)) x (read_in p root) start root_ready

  -- a level where nothing is left to do
  quiescent_done : (v : Level) (lo : ℕ) (t : Tally) → LevelQuiescent lo t v → has_manager v ≡ false
  quiescent_done v lo t q = rw q.is refl

  not_root : (j : ℕ) → p.dom j r ≡ false → r ≡ j → ⊥
  not_root j d q = not_both (p.dom j r) (rw (sym q) (so.lattice.order.itself r (so.placed root.object))) d

  untouched : (j : ℕ) → j < p.levels → p.dom j r ≡ false → level_at deep_run.to j ≡ new_level
  untouched j h d = deep_run.leads.states j h d ∙ other_is j (not_root j d)

  deep_over : question15 p deep_run.to ≡ true
  unfolding question15
  deep_over =
      all-every p.levels _ λ j h. elim (truth (p.dom j r)) [
        | holds d ↦ rw (quiescent_done (level_at deep_run.to j) (end_of x) _ (deep_run.done.quiescent j h d)) refl
        | fails d ↦ rw (ap has_manager (untouched j h d)) refl
      ]

  -- every list of scheduler steps that finishes ends in the state of the depth-first run's
  pub deep_end : (ls : List ℕ) (t : State) → Finishes p ls (read_in p root) t → t ≡ deep_run.to
  deep_end ls t f =
      sym f.ends
      ∙ confluent State (step_at p) (Safe p) (StateInvariant p) (safe_commute p so) ls deep_run.leads.list (read_in p root) root_steady
      (allowed_safe p so ls (read_in p root) root_steady f.allowed) (none_safe p (ran (step_at p) ls (read_in p root)) (rw f.ends f.over))
      deep_run.leads.allowed (none_safe p (ran (step_at p) deep_run.leads.list (read_in p root)) (rw deep_run.leads.ends deep_over))
      ∙ deep_run.leads.ends

  -- the histories of a level, in both runs
  deep_ended : (j : ℕ) → (level_at deep_run.to j).ended ≡ (tally_at (depth_first p root) j).ended
  deep_ended j = elim (dec_lt j p.levels) [
    | no n ↦
        ap (λ v. v.ended) (get_or-eq_default deep_run.to new_level (omega (arith, n, deep_run.done.steady.fork_invariant.size)))
        ∙ sym (ap (λ t. t.ended) (get_or-eq_default (depth_first p root).levels new_tally (omega (arith, n, deep_run.done.counted))))
    | yes h ↦ within h (truth (p.dom j r))
  ]
    where
      within : j < p.levels → Truth (p.dom j r) → (level_at deep_run.to j).ended ≡ (tally_at (depth_first p root) j).ended
      within h (holds d) = ap (λ v. v.ended) (deep_run.done.quiescent j h d).is
      within h (fails d) =
          ap (λ v. v.ended) (untouched j h d) ∙ sym (ap (λ t. t.ended) (deep_run.leads.tallies j h d ∙ no_tally j))

  -- a list of scheduler steps that finishes leaves the records of the depth-first run
  pub same_result : (ls : List ℕ) (t : State) → run_of p root ls ≡ finished t → result_of p t ≡ result_of_depth_first p (depth_first p root)
  unfolding run_of
  same_result ls t e =
      ap (result_of p) (deep_end ls t (finishes 0 p ls (read_in p root) t e))
      ∙ λ i. record { field = λ o k. deep_run.done.fields o k i; ended = λ j. deep_ended j i }
