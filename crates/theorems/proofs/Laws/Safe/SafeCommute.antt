-- Safe steps commute, so any two lists of safe steps that finish end in the same state. Assumes nothing.
use Prim.Native.Nat.{ℕ, ◌<◌}
use mathlib.Core.Path.{◌≡◌, refl, sym, ◌∙◌, ap}
use mathlib.Core.Bool.{true, false, not}
use native.Mathlib.Decide.{ℕ_discrete}
use borrow.Author.Tests.{ne_eqb}
use lib.Dec.{eqb}
use Rattle.dominance.specs.Order.{strictly}
use Rattle.lists.proofs.Laws.Range.{and_both, refuted}
use Rattle.session.specs.Program.{Program}
use Rattle.lists.proofs.Laws.Lists.{holds, fails, truth}
use Rattle.scripts.proofs.Laws.Effects.{Sound}
use Rattle.lists.specs.Changed.{modify}
use Rattle.model.specs.Fork.{Fork}
use Rattle.model.specs.Level.{Level, arrived}
use Rattle.model.specs.Step.{State, level_at, Arrival, none, at, Moved, move_at, applied, delivered, step_at}
use Rattle.theorems.proofs.Laws.Confluence.{Commuting}
use Rattle.lists.proofs.Laws.Changed.{modify_comm, modify_twice}
use Rattle.theorems.proofs.Laws.Steps.Locality.{Above, Misses, delivered-modify, applied_comm}
use Rattle.theorems.proofs.Laws.Steps.Diamond.{misses, move_same, step_is, diamond}
use Rattle.theorems.proofs.Laws.Invariant.Forks.{level_target, level_other}
use Rattle.theorems.proofs.Laws.Invariant.Preserved.{other_level}
use Rattle.theorems.proofs.Laws.Order.Commute.{fork_invariant_above, moves_apart}
use Rattle.theorems.proofs.Laws.Invariant.State.{StateInvariant, steady_preserves}
use Rattle.theorems.proofs.Laws.Safe.Safe.{Safe, safe_managed, safe_stays, child_later}
use Rattle.theorems.proofs.Laws.Safe.Delay.{beside, delayed, delayed_beside}

-- level l gets a fork from level k, before or after its own step
beside_comm : (l k : ℕ) (c : Fork) (m : Moved) (w : Level) (st : State) → (l ≡ k → ⊥) → Misses k m.arrival → Misses l m.arrival → applied l (beside c m) (modify l (arrived c) (modify k (λ _. w) st)) ≡ modify l (arrived c) (modify k (λ _. w) (applied l m st))
beside_comm l k c m w st n mk ml =
    ap (delivered m.arrival) (modify_twice l (λ _. arrived c m.own) (arrived c) (modify k (λ _. w) st) ∙ sym (modify_twice l (arrived c) (λ _. m.own) (modify k (λ _. w) st)))
    ∙ delivered-modify m.arrival l (arrived c) (modify l (λ _. m.own) (modify k (λ _. w) st)) ml
    ∙ ap (λ s. modify l (arrived c) (delivered m.arrival s)) (modify_comm l k (λ _. m.own) (λ _. w) st n)
    ∙ ap (modify l (arrived c)) (delivered-modify m.arrival k (λ _. w) (modify l (λ _. m.own) st) mk)

applied_at : (k l : ℕ) (c : Fork) (m : Moved) (st : State) → m.arrival ≡ at l c → applied k m st ≡ modify l (arrived c) (modify k (λ _. m.own) st)
unfolding delivered
applied_at k l c m st q = ap (λ b. delivered b (modify k (λ _. m.own) st)) q

module _ (p : Program) (so : Sound p) (st : State) (i : StateInvariant p st) where
  -- a safe step at level l and a step at a level k strictly below
  above_comm : (l k : ℕ) → Safe p st l → k < p.levels → strictly p.dom l k ≡ true → p.dom k l ≡ false → step_at p l (step_at p k st) ≡ step_at p k (step_at p l st)
  above_comm l k s hk b kl =
      by (move_at p k st).arrival refl
    where
      lk : l ≡ k → ⊥
      lk q = other_level p l k b (sym q)

      al : Above p l (move_at p l st).arrival
      al = fork_invariant_above p so st i.fork_invariant l s.present

      self : (a : Arrival) → Above p l a → Misses l a
      self none a = tt
      self (at u x) a = λ q. other_level p u l a.1 (sym q)

      -- k does the same after l
      back : step_at p k (step_at p l st) ≡ applied k (move_at p k st) (applied l (move_at p l st) st)
      back =
          step_is p so.lattice.order k (step_at p l st)
          ∙ ap (λ m. applied k m (step_at p l st)) (move_same p so.lattice.order st k l hk s.present kl al)
          ∙ ap (applied k (move_at p k st)) (step_is p so.lattice.order l st)

      forth : (m : Moved) → move_at p l (step_at p k st) ≡ m → step_at p l (step_at p k st) ≡ applied l m (applied k (move_at p k st) st)
      forth m q =
          step_is p so.lattice.order l (step_at p k st)
          ∙ ap (λ m. applied l m (step_at p k st)) q
          ∙ ap (applied l m) (step_is p so.lattice.order k st)

      -- where k sends nothing to l
      missed : Misses l (move_at p k st).arrival → step_at p l (step_at p k st) ≡ step_at p k (step_at p l st)
      missed o =
          forth (move_at p l st) (delayed p so st i l k s hk b (ap (λ t. level_at t l) (step_is p so.lattice.order k st) ∙ level_other (move_at p k st).arrival k l (move_at p k st).own st (λ q. lk (sym q)) o))
          ∙ applied_comm l k (move_at p l st) (move_at p k st) st lk (misses p so.lattice.order l k (move_at p l st).arrival kl al) o (moves_apart p so st i.fork_invariant l k s.present hk lk)
          ∙ sym back

      -- where it sends a fork
      sent : (c : Fork) → (move_at p k st).arrival ≡ at l c → step_at p l (step_at p k st) ≡ step_at p k (step_at p l st)
      sent c q =
          forth (beside c (move_at p l st)) (delayed_beside p so st i l k s hk b c gets (child_later p so st i.fork_invariant k hk s.fork (s.below k hk b) l c q).0)
          ∙ ap (applied l (beside c (move_at p l st))) (applied_at k l c (move_at p k st) st q)
          ∙ beside_comm l k c (move_at p l st) (move_at p k st).own st lk (misses p so.lattice.order l k (move_at p l st).arrival kl al) (self (move_at p l st).arrival al)
          ∙ sym (applied_at k l c (move_at p k st) (applied l (move_at p l st) st) q)
          ∙ sym back
        where
          gets : level_at (step_at p k st) l ≡ arrived c (level_at st l)
          gets =
              ap (λ t. level_at t l) (step_is p so.lattice.order k st)
              ∙ ap (λ a. level_at (delivered a (modify k (λ _. (move_at p k st).own) st)) l) q
              ∙ level_target l c k (move_at p k st).own st (λ e. lk (sym e)) (rw i.fork_invariant.size s.present)

      by : (b : Arrival) → (move_at p k st).arrival ≡ b → step_at p l (step_at p k st) ≡ step_at p k (step_at p l st)
      by none q = missed (rw q tt)
      by (at u c) q = elim (ℕ_discrete u l) [
        | yes e ↦ sent c (rw e at q)
        | no n ↦ missed (rw q n)
      ]

  strictly_is : (l k : ℕ) → (l ≡ k → ⊥) → p.dom l k ≡ true → strictly p.dom l k ≡ true
  strictly_is l k n d = and_both (p.dom l k) (not (eqb l k)) d (rw (ne_eqb l k n) refl)

  one_way : (l k : ℕ) → l < p.levels → k < p.levels → (l ≡ k → ⊥) → p.dom l k ≡ true → p.dom k l ≡ false
  one_way l k hl hk n d = refuted (p.dom k l) (λ e. n (so.lattice.order.same l k hl hk d e))

  -- two safe steps in either order, the same state
  pub safe_comm : (l k : ℕ) → (l ≡ k → ⊥) → Safe p st l → Safe p st k → step_at p l (step_at p k st) ≡ step_at p k (step_at p l st)
  safe_comm l k n s t = elim (truth (p.dom l k)) [
    | holds d ↦ above_comm l k s t.present (strictly_is l k n d) (one_way l k s.present t.present n d)
    | fails d ↦ elim (truth (p.dom k l)) [
      | holds e ↦
          sym (above_comm k l t s.present (strictly_is k l (λ q. n (sym q)) e) (one_way k l t.present s.present (λ q. n (sym q)) e))
      | fails e ↦
          diamond p so.lattice.order st l k n s.present t.present d e (fork_invariant_above p so st i.fork_invariant l s.present) (fork_invariant_above p so st i.fork_invariant k t.present)
          (moves_apart p so st i.fork_invariant l k s.present t.present n)
    ]
  ]

-- safe steps commute
pub safe_commute : (p : Program) → Sound p → Commuting State (step_at p) (Safe p) (StateInvariant p)
safe_commute p so =
    record {
      preserves = λ st l i s. steady_preserves p so st i l s.present (safe_managed s);
      stays = λ st l k n i s t. safe_stays p so st i l k n s t.present;
      commute = λ st l k n i s t. safe_comm p so st i l k n s t;
    }
