-- While a manager has not ended some level may step: a lowest one of those that have managers, which the conservative rule allows. What it allows
-- is allowed. Assumes nothing.
use Prim.Native.Nat.{ℕ, zero, suc, ◌≤◌, ◌<◌}
use mathlib.Core.Path.{◌≡◌, refl, sym}
use mathlib.Core.Bool.{Bool, true, false, not, ◌&&◌}
use native.Mathlib.Omega.{arith}
use borrow.Author.Tests.{lt-ltb, ltb-true, eqb-true, eqb-false, eq-eqb, not-true, not-false}
use lib.Dec.{eqb}
use Rattle.lists.specs.Range.{all, implies}
use Rattle.dominance.specs.Order.{strictly, PartialOrder}
use Rattle.lists.proofs.Laws.Range.{and_left, and_right, and_both, not_both, refuted, implies_then, all_each, first_found}
use Rattle.session.specs.Program.{Program}
use Rattle.lists.proofs.Laws.Lists.{holds, fails, truth}
use Rattle.scripts.proofs.Laws.Effects.{Sound}
use Rattle.model.specs.Level.{Level, has_manager}
use Rattle.model.specs.Step.{State, level_at}
use Rattle.model.specs.Schedule.{question12, question13, question15, refusal_under, step_refusal, lowest}
use Rattle.model.specs.Rules.{conservative}
use Rattle.lists.specs.Each.{Each}
use Rattle.theorems.proofs.Laws.Invariant.Rank.{count, count_lt}
use Rattle.theorems.proofs.Laws.Invariant.Tree.{up_to}
use Rattle.theorems.proofs.Laws.Invariant.Entries.{entries_of}
use Rattle.theorems.proofs.Laws.Invariant.State.{StateInvariant}
use Rattle.theorems.proofs.Laws.Steps.May.{MayStep, managed-first, all_yes, step_may}
use Rattle.theorems.proofs.Laws.Safe.Safe.{unmanaged_none}
use Rattle.theorems.proofs.Laws.Order.Orderly.{OrderInvariant, before_ends}

-- a test that does not pass everywhere fails somewhere
somewhere : (n : ℕ) (t : ℕ → Bool) → all n t ≡ false → (i : ℕ) × ((i < n) × (t i ≡ false))
unfolding all
somewhere zero t e = absurd (not_both true refl e)
somewhere (suc n) t e = elim (truth (t n)) [
  | fails q ↦ (n, (omega arith, q))
  | holds q ↦
      let (i, (h, f)) = somewhere n t (elim (truth (all n t)) [ holds r ↦ absurd (not_both (all n t && t n) (and_both (all n t) (t n) r q) e) | fails r ↦ r ]) in
      (i, (omega (arith, h), f))
]

-- a implies b fails only where a holds and b does not
implies_fails_left : (a b : Bool) → implies a b ≡ false → a ≡ true
implies_fails_left true b e = refl
implies_fails_left false b e = absurd (not_both true refl e)

implies_fails_right : (a b : Bool) → implies a b ≡ false → b ≡ false
implies_fails_right true b e = e
implies_fails_right false b e = absurd (not_both true refl e)

module _ (p : Program) (po : PartialOrder p.levels p.dom) (st : State) where
  -- fewer levels lie below a level that lies strictly below
  below_falls : (l j : ℕ) → l < p.levels → j < p.levels → strictly p.dom l j ≡ true → count p.levels (p.dom j) < count p.levels (p.dom l)
  below_falls l j hl hj s =
      let lj = and_left (p.dom l j) (not (eqb l j)) s in
      let apart = eqb-false l j (not-true (eqb l j) (and_right (p.dom l j) (not (eqb l j)) s)) in
      count_lt p.levels (p.dom j) (p.dom l) (λ k h e. po.through l j k hl hj h lj e) l hl
      (refuted (p.dom j l) (λ e. apart (po.same l j hl hj lj e))) (po.itself l hl)

  -- from a level with a manager down to one that the conservative rule lets step, in at most c stages
  pub some_below : (c l : ℕ) → count p.levels (p.dom l) ≤ c → l < p.levels → has_manager (level_at st l) ≡ true → (k : ℕ) × (refusal_under conservative p st k ≡ 0)
  unfolding refusal_under conservative
  some_below zero l b h m = absurd (omega (arith, b, below_some l h))
    where
      below_some : (l : ℕ) → l < p.levels → 0 < count p.levels (p.dom l)
      below_some l h =
          omega (arith, count_lt p.levels (λ k. false) (p.dom l) (λ k g e. absurd (not_both false e refl)) l h refl (po.itself l h))
  some_below (suc c) l b h m = elim (truth (conservative p st l)) [
    | holds q ↦ (l, rw (lt-ltb l p.levels h, m, q) refl)
    | fails q ↦
        let (j, (hj, e)) = somewhere p.levels _ q in
        let s = implies_fails_left (strictly p.dom l j) (not (has_manager (level_at st j))) e in
        some_below c j (omega (arith, b, below_falls l j h hj s)) hj (not-false (has_manager (level_at st j)) (implies_fails_right (strictly p.dom l j) _ e))
  ]

  -- while a manager has not ended the conservative rule lets some level step
  pub progress : question15 p st ≡ false → (k : ℕ) × (refusal_under conservative p st k ≡ 0)
  unfolding question15
  progress q =
      let (j, (hj, e)) = somewhere p.levels _ q in
      some_below (count p.levels (p.dom j)) j (omega arith) hj (not-false (has_manager (level_at st j)) e)

-- where no manager is left at a level, it has no entry
none_left : (s j : ℕ) (v : Level) → has_manager v ≡ false → Each (λ e. s < up_to e) (entries_of j v)
none_left s j v h = rw (unmanaged_none j v h) (unfold Each in tt)

-- the conservative rule, level by level
pub quiet_below : (p : Program) (st : State) (l : ℕ) → conservative p st l ≡ true → (j : ℕ) → j < p.levels → strictly p.dom l j ≡ true → has_manager (level_at st j) ≡ false
unfolding conservative
quiet_below p st l c j h s =
    not-true (has_manager (level_at st j)) (implies_then (strictly p.dom l j) (not (has_manager (level_at st j))) (all_each p.levels _ c j h) s)

module _ (p : Program) (so : Sound p) (st : State) (t : StateInvariant p st) (i : OrderInvariant p st) where
  -- every step that the conservative rule allows is allowed
  pub conservative_may : (l : ℕ) → refusal_under conservative p st l ≡ 0 → MayStep p st l
  unfolding refusal_under
  conservative_may l e =
      let (a, (b, c)) = all_yes (question12 p l) (question13 st l) (conservative p st l) e in
      let (x, (xs, q)) = managed-first (level_at st l) b in
      record {
        present = ltb-true l p.levels a;
        fork = x;
        others = xs;
        first = q;
        free = λ j h d. elim (truth (eqb l j)) [
          | holds g ↦ rw (sym (eqb-true l j g)) (before_ends p so st t i l (ltb-true l p.levels a) x xs q)
          | fails g ↦
              none_left x.stamp j (level_at st j) (quiet_below p st l c j h (and_both (p.dom l j) (not (eqb l j)) d (rw g refl)))
        ];
      }

  -- and the lowest-numbered level that may step is found
  pub lowest_found : question15 p st ≡ false → lowest p st < p.levels
  unfolding lowest
  lowest_found q =
      let (k, e) = progress p so.lattice.order st q in
      let m = conservative_may k e in
      first_found p.levels (λ l. eqb (step_refusal p st l) 0) k m.present (eq-eqb (step_refusal p st k) 0 (step_may p st k m))
