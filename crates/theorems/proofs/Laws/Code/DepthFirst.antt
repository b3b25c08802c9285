-- The depth-first run, step by step, as its code makes it; and that the run of a fork leaves the counts of every level that does not
-- dominate its own. Assumes nothing.
use Prim.Native.Nat.{ℕ, zero, suc, ◌<◌}
use mathlib.Core.Path.{◌≡◌, refl, sym, ◌∙◌, ap}
use mathlib.Core.Bool.{true, false, not}
use lib.Dec.{eqb, ltb}
use lib.ListN.{length}
use Rattle.dominance.specs.Order.{strictly}
use Rattle.lists.proofs.Laws.Range.{and_left, not_both, refuted}
use Rattle.session.specs.Program.{Program}
use Rattle.lists.proofs.Laws.Lists.{holds, fails, truth}
use Rattle.scripts.specs.Limits.{max_script_steps}
use Rattle.scripts.specs.Ending.{is_running}
use Rattle.scripts.specs.Manager.{started, stepped}
use Rattle.scripts.specs.State.{Manager}
use Rattle.scripts.specs.Effect.{Effect}
use Rattle.scripts.specs.Effect as effect
use Rattle.scripts.proofs.Laws.Counts.{counts, started_counts, stepped_counts}
use Rattle.scripts.proofs.Laws.Effects.{Sound, Fits, stepped_fits}
use Rattle.model.specs.Limits.{max_managers}
use Rattle.model.specs.Fork.{Fork, child_of}
use Rattle.model.specs.DepthFirst.{Progress, new_tally, tally_at, field_now, close, RunFork, effected, finish, run_fork}
use Rattle.lists.proofs.Laws.Changed.{modify_other}
use Rattle.theorems.proofs.Laws.Invariant.Preserved.{grown_level, other_level}

-- a manager that runs makes one script step; one that has ended is closed
pub finish_step : (run : RunFork) (k : ℕ) (p : Program) (l : ℕ) (x : Fork) (m : Manager) (g : Progress) → is_running m.ending ≡ true → finish run (suc k) p l x m g ≡ finish run k p l x (stepped p (field_now p g) m).manager (effected run l x m (stepped p (field_now p g) m).effect g)
unfolding finish
finish_step run k p l x m g e = rw e refl

pub finish_over : (run : RunFork) (k : ℕ) (p : Program) (l : ℕ) (x : Fork) (m : Manager) (g : Progress) → is_running m.ending ≡ false → finish run k p l x m g ≡ close l x m g
unfolding finish
finish_over run zero p l x m g e = refl
finish_over run (suc k) p l x m g e = rw e refl

-- a run of forks leaves the counts of the levels that do not dominate the fork's
abbrev pub Leaves : Program → RunFork → Type 0
Leaves p run =
    (l : ℕ) (x : Fork) (g : Progress) → l < p.levels → (j : ℕ) → j < p.levels → p.dom j l ≡ false → tally_at (run l x g) j ≡ tally_at g j

close_leaves : (l : ℕ) (x : Fork) (m : Manager) (g : Progress) (j : ℕ) → (l ≡ j → ⊥) → tally_at (close l x m g) j ≡ tally_at g j
unfolding close
close_leaves l x m g j n = modify_other new_tally l j _ g.levels n

module _ (p : Program) (so : Sound p) (run : RunFork) (r : Leaves p run) (l : ℕ) (h : l < p.levels) (x : Fork) where
  -- a level that does not dominate l does not dominate a level above l
  not_above : (j u : ℕ) → j < p.levels → u < p.levels → p.dom j l ≡ false → strictly p.dom u l ≡ true → p.dom j u ≡ false
  not_above j u hj hu d s =
      refuted (p.dom j u) (λ e. not_both (p.dom j l) (so.lattice.order.through j u l hj hu h e (and_left (p.dom u l) (not (eqb u l)) s)) d)

  -- nor does l itself
  not_own : (u : ℕ) → u < p.levels → strictly p.dom u l ≡ true → p.dom l u ≡ false
  not_own u hu s =
      refuted (p.dom l u) (λ e. other_level p u l s (so.lattice.order.same l u h hu e (and_left (p.dom u l) (not (eqb u l)) s)))

  -- what a step does outside leaves level j, where no level above l is dominated by j
  effected_at : (m : Manager) (e : Effect) (g : Progress) (j : ℕ) → j < p.levels → m.level ≡ l → Fits p m e → ((u : ℕ) → u < p.levels → strictly p.dom u l ≡ true → p.dom j u ≡ false) → tally_at (effected run l x m e g) j ≡ tally_at g j
  unfolding effected
  effected_at m effect.Nothing g j hj q f n = refl
  effected_at m (effect.Write ws) g j hj q f n = refl
  effected_at m (effect.Fork u message) g j hj q f n = elim (truth (ltb (length (tally_at g u).ended) max_managers)) [
    | holds e ↦ rw e (r u (child_of l x m message) g f.0 j hj (n u f.0 (rw (sym q) f.1.0)))
    | fails e ↦ rw e refl
  ]

  -- so a manager's descendants leave the counts of its own level
  pub effected_own : (m : Manager) (g : Progress) → m.level ≡ l → tally_at (effected run l x m (stepped p (field_now p g) m).effect g) l ≡ tally_at g l
  effected_own m g q =
      effected_at m (stepped p (field_now p g) m).effect g l h q (stepped_fits p (field_now p g) m so (rw q h)) not_own

  finish_leaves : (k : ℕ) (m : Manager) (g : Progress) → m.level ≡ l → (j : ℕ) → j < p.levels → p.dom j l ≡ false → tally_at (finish run k p l x m g) j ≡ tally_at g j
  unfolding finish
  finish_leaves zero m g q j hj d = close_leaves l x m g j (λ e. not_both (p.dom j l) (rw (sym e) (so.lattice.order.itself l h)) d)
  finish_leaves (suc k) m g q j hj d = elim (truth (is_running m.ending)) [
    | fails e ↦ rw e (close_leaves l x m g j (λ e. not_both (p.dom j l) (rw (sym e) (so.lattice.order.itself l h)) d))
    | holds e ↦
        let s = stepped p (field_now p g) m in
        let level : s.manager.level ≡ l = ap (λ c. c.level) (stepped_counts p (field_now p g) m) ∙ grown_level (counts m) s.effect ∙ q in
        rw e (finish_leaves k s.manager (effected run l x m s.effect g) level j hj d
        ∙ effected_at m s.effect g j hj q (stepped_fits p (field_now p g) m so (rw q h)) (λ u hu t. not_above j u hj hu d t))
  ]

pub run_fork_leaves : (p : Program) → Sound p → (left : ℕ) → Leaves p (run_fork left p)
unfolding run_fork
run_fork_leaves p so zero l x g h j hj d = refl
run_fork_leaves p so (suc left) l x g h j hj d =
    finish_leaves p so (run_fork left p) (run_fork_leaves p so left) l h x max_script_steps (started p (field_now p g) l (tally_at g l).next x.message) g
    (ap (λ c. c.level) (started_counts p (field_now p g) l (tally_at g l).next x.message)) j hj d
