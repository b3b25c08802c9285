-- A level that may step by the conservative rule is run until it has no manager. Assumes nothing.
use Prim.Native.Nat.{ℕ, ◌<◌}
use mathlib.Core.Path.{◌≡◌, refl, sym, ◌∙◌}
use mathlib.Core.Bool.{true, false}
use mathlib.Core.List.{List, [], ◌∷◌, ◌++◌}
use native.Mathlib.Decide.{ℕ_discrete}
use borrow.Author.Tests.{lt-ltb}
use Rattle.session.specs.Parts.{level_count}
use Rattle.session.specs.Program.{program_of}
use Rattle.session.specs.Questions.{verdict_of, Accepted}
use Rattle.std.specs.Prelude.{None}
use Rattle.scripts.specs.State.{Manager}
use Rattle.scripts.specs.declared.Ending.TheVariants.{Finished}
use Rattle.model.specs.Level.{idle, Level, has_manager}
use Rattle.model.specs.Step.{State, level_at, step_at}
use Rattle.model.specs.Schedule.{refusal_under, step_refusal}
use Rattle.model.specs.Rules.{conservative}
use Rattle.theorems.proofs.Laws.Order.Accepted.{sound}
use Rattle.theorems.proofs.Laws.Code.Reached.{ReachedState, present}
use Rattle.theorems.proofs.Laws.Code.Progress.{allowed, refusal_none, unmanaged_idle, activity_stays, quiet_stays, still_allowed, leads_none, leads_more}
use Rattle.level_state.specs.Representation.{Words, LevelRepresents, RunInvariant, placed}
use Rattle.tallies.specs.Places.{managed}
use Rattle.level_state.specs.Ends.{Quiescent, SameRest}
use Rattle.fork_runs.specs.Levels.{LevelReady, LevelRun, LevelDone}
use Rattle.fork_runs.specs.Running.{Draining}
use Rattle.level_state.proofs.Laws.Representation.{represents_idle}
use Rattle.level_state.proofs.Laws.Settle.{placed_own, placed_other}
use Rattle.level_state.proofs.Laws.Step.{invariant_live, invariant_held}
use Rattle.level_state.proofs.Laws.Asked.{represents_managed}

-- a manager, where it does not matter which: none runs
pub any_manager : Manager
any_manager =
    record {
      level = 0;
      first = 0;
      stamp = 0;
      steps = 0;
      writes = 0;
      forks = 0;
      ending = Finished;
      reply = None;
      frames = [];
    }

represents_placed : (n : ℕ) (w : Words) (l : ℕ) (m m' : Manager) (v : Level) → m' ≡ m → LevelRepresents n w l m' v → LevelRepresents n w l m v
represents_placed n w l m m' v e t = rw (sym e) t

module _ (s : List ℕ) (a : verdict_of s ≡ Accepted) (l : ℕ) (h : l < level_count s) where
  pub drain_start : (from : State) (w : Words) (m : Manager) → Quiescent s w from → refusal_under conservative (program_of s) from l ≡ 0 → Draining s from w l m
  drain_start from w m r ok =
      record {
        state = from;
        list = [];
        leads = leads_none (program_of s) from;
        invariant = λ ms. r.invariant (placed l m ms);
        others = λ k hk d. r.idle_all k hk;
        quiet = (allowed conservative (program_of s) from l ok).1.1;
      }

  module _ (from : State) (w : Words) (m : Manager) (g : Draining s from w l m) where
    abbrev st : State
    st = g.state

    pub drain_represents : LevelRepresents (level_count s) w l m (level_at st l)
    drain_represents =
        represents_placed (level_count s) w l m (placed l m (λ _. m) l) (level_at st l) (placed_own l m (λ _. m)) ((g.invariant (λ _. m)).represents.level l h)

    pub drain_has : managed w.tallies l ≡ has_manager (level_at st l)
    drain_has = represents_managed (level_count s) w l m (level_at st l) drain_represents

    pub drain_live : ReachedState s st
    drain_live = invariant_live s a w (placed l m (λ _. m)) st (g.invariant (λ _. m))

    -- there is a manager: the level may step
    module _ (e : managed w.tallies l ≡ true) where
      pub drain_allowed : step_refusal (program_of s) st l ≡ 0
      drain_allowed =
          still_allowed s a st drain_live l
          (refusal_none conservative (program_of s) st l (lt-ltb l (program_of s).levels (present s l h)) (sym drain_has ∙ e) g.quiet)

      twice : (r : Manager) (ms : ℕ → Manager) (k : ℕ) → placed l r ms k ≡ placed l r (placed l m ms) k
      twice r ms k = elim (ℕ_discrete k l) [
        | yes q ↦ rw q (placed_own l r ms ∙ sym (placed_own l r (placed l m ms)))
        | no q ↦ placed_other l r ms k q ∙ sym (placed_other l r (placed l m ms) k q ∙ placed_other l m ms k q)
      ]

      -- a step of the level, whose words say the state after it
      pub drain_on : (w' : Words) (r : Manager) → ((ms : ℕ → Manager) → RunInvariant s w' (placed l r (placed l m ms)) (step_at (program_of s) l st)) → Draining s from w' l r
      drain_on w' r invariant =
          record {
            state = step_at (program_of s) l st;
            list = g.list ++ (l ∷ []);
            leads = leads_more (program_of s) from g.list st l g.leads drain_allowed;
            invariant = λ ms. invariant_held s w' (placed l r (placed l m ms)) (placed l r ms) (step_at (program_of s) l st) (twice r ms) (invariant ms);
            others = λ k hk z. activity_stays (program_of s) (sound s a) st drain_live.reachable.steady.fork_invariant l k (present s l h) z ∙ g.others k hk z;
            quiet = quiet_stays (program_of s) (sound s a) st drain_live.reachable.steady.fork_invariant l l (present s l h) g.quiet (present s l h) (sym drain_has ∙ e);
          }

      pub drain_on_state : (w' : Words) (r : Manager) (invariant : (ms : ℕ → Manager) → RunInvariant s w' (placed l r (placed l m ms)) (step_at (program_of s) l st)) → (drain_on w' r invariant).state ≡ step_at (program_of s) l st
      unfolding drain_on
      drain_on_state w' r invariant = refl

    -- there is none any more
    pub drain_end : managed w.tallies l ≡ false → LevelRun s w l from
    drain_end e =
        record {
          state = st;
          list = g.list;
          leads = g.leads;
          quiescent = record { invariant = invariant; idle_all = idle_all };
          no_manager_lem = none;
        }
      where
        none : has_manager (level_at st l) ≡ false
        none = sym drain_has ∙ e

        quiescent_own : (level_at st l).activity ≡ idle
        quiescent_own = unmanaged_idle (level_at st l) none

        idle_all : (k : ℕ) → k < level_count s → (level_at st k).activity ≡ idle
        idle_all k hk = elim (ℕ_discrete k l) [
          | yes q ↦ rw q quiescent_own
          | no q ↦ g.others k hk q
        ]

        invariant : (ms : ℕ → Manager) → RunInvariant s w ms st
        invariant ms =
            let y = g.invariant ms in
            record {
              represents = record {
                roomy = y.represents.roomy;
                counts_few = y.represents.counts_few;
                levels = y.represents.levels;
                field = y.represents.field;
                level = λ k hk. represents_idle (level_count s) w k (placed l m ms k) (ms k) (level_at st k) (idle_all k hk) (y.represents.level k hk);
              };
              reached = y.reached;
            }

-- the loop of a level: what it leads to from every state that the words represented at its start
pub record LevelLoop (s : List ℕ) (w₀ w : Words) (l : ℕ) (m : Manager) : Type 0 where
  pub drains : (st : State) → Quiescent s w₀ st → refusal_under conservative (program_of s) st l ≡ 0 → Draining s st w l m
  pub rest : SameRest w₀.work w.work

module _ (s : List ℕ) (a : verdict_of s ≡ Accepted) (w₀ : Words) (l : ℕ) (q : LevelReady s w₀ l) where
  ready_present : l < level_count s
  unfolding program_of
  ready_present = (allowed conservative (program_of s) q.0 l q.1.1).0

  pub level_start : (m : Manager) → LevelLoop s w₀ w₀ l m
  level_start m =
      record {
        drains = λ st r ok. drain_start s a l ready_present st w₀ m r ok;
        rest = refl;
      }

  module _ (w : Words) (m : Manager) (i : LevelLoop s w₀ w l m) where
    abbrev g : Draining s q.0 w l m
    g = i.drains q.0 q.1.0 q.1.1

    pub level_done : managed w.tallies l ≡ false → LevelDone s w₀ w l
    level_done e =
        record { ran = λ st x ok. drain_end s a l ready_present st w m (i.drains st x ok) e; rest = i.rest }
