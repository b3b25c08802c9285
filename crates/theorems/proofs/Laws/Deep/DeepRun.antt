-- The depth-first run of a fork is a list of safe steps of the level schedulers. Assumes nothing.
use Prim.Native.Nat.{ℕ, zero, suc, ◌+◌, ◌≤◌, ◌<◌}
use mathlib.Core.Path.{◌≡◌, refl, sym, ◌∙◌, ap}
use mathlib.Core.Bool.{true, false}
use mathlib.Core.List.{List, []}
use native.Mathlib.Decide.{ℕ_discrete}
use native.Mathlib.Omega.{arith}
use lib.Dec.{ltb}
use lib.ListN.{length}
use Rattle.lists.proofs.Laws.Range.{not_both, refuted}
use Rattle.session.specs.Program.{Program}
use Rattle.lists.proofs.Laws.Lists.{holds, fails, truth}
use Rattle.scripts.specs.Limits.{max_script_steps}
use Rattle.scripts.specs.Ending.{is_running}
use Rattle.scripts.specs.Manager.{stepped}
use Rattle.scripts.specs.State.{Manager}
use Rattle.scripts.specs.Effect.{Effect}
use Rattle.scripts.specs.Effect as effect
use Rattle.scripts.proofs.Laws.Effects.{Sound}
use Rattle.model.specs.Limits.{max_managers}
use Rattle.lists.specs.Changed.{inserted}
use Rattle.model.specs.Fork.{Fork, child_of}
use Rattle.model.specs.History.{history_of}
use Rattle.model.specs.Level.{Version, after}
use Rattle.model.specs.Step.{State, level_at, step_at}
use Rattle.model.specs.DepthFirst.{Tally, Progress, new_tally, tally_at, field_now, close, effected, finish, run_fork}
use Rattle.lists.proofs.Laws.Changed.{modify-length, modify_at, modify_other}
use Rattle.lists.proofs.Laws.Each.{each_map, each_inserted}
use Rattle.theorems.proofs.Laws.Invariant.Rank.{rank, rank_falls, rank_positive}
use Rattle.model.proofs.Laws.Stamps.{span_positive}
use Rattle.theorems.proofs.Laws.Deep.Quiescent.{quiescent_level, LevelQuiescent, quiescent_raised, last_inserted}
use Rattle.theorems.proofs.Laws.Deep.Working.{end_of, Working}
use Rattle.theorems.proofs.Laws.Deep.Ready.{Ready, Leads, Done, leads_both, leads_none, leads_one, ready_safe, ready_working}
use Rattle.theorems.proofs.Laws.Deep.DeepStep.{Advances, nothing_advances, write_advances}
use Rattle.theorems.proofs.Laws.Deep.DeepFork.{target, strict, dropped_advances, child_ready, kept_advances}

-- safe steps to a state in which the manager of fork c and its descendants have ended
pub record Runs (p : Program) (u : ℕ) (c : Fork) (st : State) (g g' : Progress) : Type 0 where
  pub to : State
  pub leads : Leads p u st g to g'
  pub done : Done p u c to g'

-- the counts of a level whose manager has ended
abbrev closed_tally : Fork → Manager → Tally → Tally
closed_tally c m t =
    record { ended = inserted (λ h. h.stamp) (history_of c m) t.ended; next = m.stamp + 1 }

close_own : (u : ℕ) (c : Fork) (m : Manager) (g : Progress) → u < length g.levels → tally_at (close u c m g) u ≡ closed_tally c m (tally_at g u)
unfolding close
close_own u c m g h = modify_at new_tally u (closed_tally c m) g.levels h

close_other : (u : ℕ) (c : Fork) (m : Manager) (g : Progress) (j : ℕ) → (u ≡ j → ⊥) → tally_at (close u c m g) j ≡ tally_at g j
unfolding close
close_other u c m g j n = modify_other new_tally u j (closed_tally c m) g.levels n

close-length : (u : ℕ) (c : Fork) (m : Manager) (g : Progress) → length (close u c m g).levels ≡ length g.levels
unfolding close
close-length u c m g = modify-length u (closed_tally c m) g.levels

close-fields : (p : Program) (u : ℕ) (c : Fork) (m : Manager) (g : Progress) (o k : ℕ) → field_now p (close u c m g) o k ≡ field_now p g o k
unfolding close
close-fields p u c m g o k = refl

ended_is : (t : Tally) (vs : List Version) (c : Fork) (m : Manager) → is_running m.ending ≡ false → after (quiescent_level t vs) [] vs c m ≡ quiescent_level (closed_tally c m t) vs
unfolding after
ended_is t vs c m e = rw e refl

module _ (p : Program) (so : Sound p) (u : ℕ) (hu : u < p.levels) (c : Fork) where
  -- a manager that has ended
  closes : (st : State) (g : Progress) (m : Manager) (k : ℕ) → Working p st g u c m k → is_running m.ending ≡ false → Runs p u c st g (close u c m g)
  closes st g m k w e =
      record {
        to = st;
        leads = leads_none p u st g (close u c m g) (λ j h d. close_other u c m g j (λ q. not_both (p.dom j u) (rw (sym q) (so.lattice.order.itself u hu)) d));
        done = record {
          quiescent = λ j h d. quiescent j h d (ℕ_discrete j u);
          fields = λ o k. w.around.fields o k ∙ sym (close-fields p u c m g o k);
          counted = close-length u c m g ∙ w.around.counted;
          steady = w.around.steady;
        };
      }
    where
      own : LevelQuiescent (end_of c) (closed_tally c m (tally_at g u)) (level_at st u)
      own =
          record {
            versions = w.versions;
            is = w.is ∙ ended_is (tally_at g u) w.versions c m e;
            past = record {
              early = each_inserted (λ h. h.stamp) (λ h. h.stamp < end_of c) (history_of c m) (omega (arith, span_positive c.depth)) (tally_at g u).ended
                  (each_map (λ h. h.stamp < c.stamp) (λ h. h.stamp < end_of c) (λ h l. omega (arith, l)) (tally_at g u).ended w.early);
              last = ap (λ n. n + 1) (last_inserted 0 (history_of c m) (tally_at g u).ended w.early);
              written = each_map (λ v. v.stamp ≤ m.stamp) (λ v. v.stamp < m.stamp + 1) (λ v l. omega (arith, l)) w.versions w.written;
            };
          }

      quiescent : (j : ℕ) → j < p.levels → p.dom j u ≡ true → Dec (j ≡ u) → LevelQuiescent (end_of c) (tally_at (close u c m g) j) (level_at st j)
      quiescent j h d (yes q) = rw (q, close_own u c m g (rw w.around.counted hu)) own
      quiescent j h d (no n) =
          rw (close_other u c m g j (λ q. n (sym q)))
          (quiescent_raised _ (end_of c) (tally_at g j) (level_at st j) w.room (w.around.quiescent j h (refuted (p.dom u j) (λ t. n (so.lattice.order.same j u h hu d t)))))

-- each fork is run by a list of safe steps, with so many levels left
abbrev pub RunsForks : Program → ℕ → Type 0
RunsForks p left =
    (u : ℕ) → u < p.levels → rank p.levels p.dom u ≤ left → (c : Fork) (st : State) (g : Progress) → Ready p st g u c → Runs p u c st g (run_fork left p u c g)

module _ (p : Program) (so : Sound p) (left : ℕ) (ih : RunsForks p left) (u : ℕ) (hu : u < p.levels) (low : rank p.levels p.dom u ≤ suc left) (c : Fork) where
  -- one script step, with the whole run of the fork that it makes
  advances : (st : State) (g : Progress) (m : Manager) (k : ℕ) → Working p st g u c m (suc k) → is_running m.ending ≡ true → (e : Effect) → (stepped p (field_now p g) m).effect ≡ e → Advances p st g (effected (run_fork left p) u c m e g) u c (stepped p (field_now p g) m).manager k
  unfolding effected
  advances st g m k w r effect.Nothing q = nothing_advances p so st g u hu c m k w r q
  advances st g m k w r (effect.Write ws) q = write_advances p so st g u hu c m k w r ws q
  advances st g m k w r (effect.Fork t message) q = elim (truth (ltb (length (tally_at g t).ended) max_managers)) [
    | holds room ↦
        let ht = target p so st g u hu c m k w r t message q in
        let falls = rank_falls p.levels p.dom so.lattice.order t u ht hu (strict p so st g u hu c m k w r t message q) in
        let run = ih t ht (omega (arith, low, falls)) (child_of u c m message) (step_at p u st) g (child_ready p so st g u hu c m k w r t message q room) in
        rw room (kept_advances p so st g u hu c m k w r t message q _ run.to run.leads run.done)
    | fails full ↦ rw full (dropped_advances p so st g u hu c m k w r t message q full)
  ]

  -- a manager's script steps to its end
  finishes : (k : ℕ) (st : State) (g : Progress) (m : Manager) → Working p st g u c m k → Runs p u c st g (finish (run_fork left p) k p u c m g)
  unfolding finish
  finishes zero st g m w = elim (truth (is_running m.ending)) [
    | holds e ↦ absurd (omega (arith, w.steps, w.live e))
    | fails e ↦ closes p so u hu c st g m zero w e
  ]
  finishes (suc k) st g m w = elim (truth (is_running m.ending)) [
    | holds e ↦
        let a = advances st g m k w e (stepped p (field_now p g) m).effect refl in
        let b = finishes k a.to (effected (run_fork left p) u c m (stepped p (field_now p g) m).effect g) (stepped p (field_now p g) m).manager a.working in
        rw e (record { to = b.to; leads = leads_both p u st a.to b.to g _ _ a.leads b.leads; done = b.done })
    | fails e ↦ rw e (closes p so u hu c st g m (suc k) w e)
  ]

-- "A send upward runs the new manager, which sends upward in turn"
pub runs_forks : (p : Program) → Sound p → (left : ℕ) → RunsForks p left
unfolding run_fork
runs_forks p so zero u hu low c st g r =
    absurd (omega (arith, low, rank_positive p.levels p.dom so.lattice.order u hu))
runs_forks p so (suc left) u hu low c st g r =
    let w = ready_working p so st g u hu c r in
    let b = finishes p so left (runs_forks p so left) u hu low c max_script_steps (step_at p u st) g _ w in
    record {
      to = b.to;
      leads = leads_both p u st (step_at p u st) b.to g g _ (leads_one p so u hu st g r.around.steady (ready_safe p so st g u hu c r)) b.leads;
      done = b.done;
    }
