-- A step that questions 12 to 14 allow is safe, and stays allowed whatever other level steps. So does that of a running manager after its own.
-- Assumes nothing.
use Prim.Native.Nat.{ℕ, ◌<◌}
use mathlib.Core.Path.{◌≡◌, refl, sym, ◌∙◌, ap}
use mathlib.Core.Bool.{true, not}
use mathlib.Core.List.{List, [], ◌∷◌, map}
use native.Mathlib.Omega.{arith}
use lib.Dec.{eqb}
use Rattle.dominance.specs.Order.{strictly}
use Rattle.lists.proofs.Laws.Range.{and_left}
use Rattle.session.specs.Program.{Program}
use Rattle.scripts.proofs.Laws.Effects.{Sound}
use Rattle.model.specs.Fork.{Fork}
use Rattle.model.specs.Level.{Activity, idle, busy, Level, is_busy, forks_by, forks_of}
use Rattle.model.specs.Step.{State, level_at, at, move_at, step_at}
use Rattle.lists.specs.Each.{Each}
use Rattle.lists.proofs.Laws.Each.{each_both}
use Rattle.model.proofs.Laws.Stamps.{span_positive, child_after}
use Rattle.theorems.proofs.Laws.Invariant.Tree.{Entry, up_to, Related, left, right, over, under, strictly_over}
use Rattle.theorems.proofs.Laws.Invariant.Entries.{waiting_entry, running_entry, entries_by, entries_of, arrived_joins}
use Rattle.theorems.proofs.Laws.Invariant.Forks.{entries_in}
use Rattle.theorems.proofs.Laws.Invariant.Preserved.{other_level}
use Rattle.theorems.proofs.Laws.Invariant.Became.{Became, own, got, stayed, became, step_marks, level_stepped, own_each}
use Rattle.theorems.proofs.Laws.Invariant.State.{StateInvariant}
use Rattle.theorems.proofs.Laws.Steps.May.{MayStep}
use Rattle.theorems.proofs.Laws.Safe.Safe.{Later, younger, ancestor, AllBelow, Safe, head_same, child_later, first-stays}

-- the entry of the first fork of a level
pub record FirstEntry (P : Entry → Type 0) (x : Fork) : Type 0 where
  pub entry : Entry
  pub stamp : entry.stamp ≡ x.stamp
  pub depth : entry.depth ≡ x.depth
  pub carried : entry.carried ≡ x.carried
  pub holds : P entry

pub first_entry : (P : Entry → Type 0) (j : ℕ) (v : Level) (x : Fork) (xs : List Fork) → forks_of v ≡ x ∷ xs → Each P (entries_of j v) → FirstEntry P x
first_entry P j v x xs q f = by v.activity v.waiting q f
  where
    waits : (ws : List Fork) → ws ≡ x ∷ xs → Each P (map (waiting_entry j) ws) → FirstEntry P x
    waits ws q f =
        record { entry = waiting_entry j x; stamp = refl; depth = refl; carried = refl; holds = unfold Each in (rw q at f).0 }

    by : (a : Activity) (ws : List Fork) → forks_by a ws ≡ x ∷ xs → Each P (entries_by j a ws) → FirstEntry P x
    by idle ws q f = waits ws q f
    by (busy y m) ws q f =
        let same : y ≡ x = head_same y x ws xs q in
        record {
          entry = running_entry j y m.forks;
          stamp = ap (λ z. z.stamp) same;
          depth = ap (λ z. z.depth) same;
          carried = ap (λ z. z.carried) same;
          holds = unfold Each in f.0;
        }

-- a manager's children have greater stamps
pub entries_next : (j : ℕ) (v : Level) → Each (λ e. e.stamp < e.next) (entries_of j v)
unfolding Each
entries_next j v = by v.activity v.waiting
  where
    waits : (ws : List Fork) → Each (λ e. e.stamp < e.next) (map (waiting_entry j) ws)
    waits [] = tt
    waits (w ∷ ws) = (child_after w.stamp w.depth 0, waits ws)

    by : (a : Activity) (ws : List Fork) → Each (λ e. e.stamp < e.next) (entries_by j a ws)
    by idle ws = waits ws
    by (busy x m) ws = (child_after x.stamp x.depth m.forks, waits ws)

module _ (p : Program) (so : Sound p) (st : State) (i : StateInvariant p st) where
  -- two levels of which each lies strictly below the other
  both_below : (l j : ℕ) → l < p.levels → j < p.levels → strictly p.dom l j ≡ true → strictly p.dom j l ≡ true → ⊥
  both_below l j hl hj s t =
      other_level p l j s (sym (so.lattice.order.same l j hl hj (and_left (p.dom l j) (not (eqb l j)) s) (and_left (p.dom j l) (not (eqb j l)) t)))

  -- what a manager e at level j, below, has still to do comes after x, where x's stamp lies before the end of e's interval
  after_first : (l j : ℕ) → l < p.levels → j < p.levels → strictly p.dom l j ≡ true → (x : Fork) (a : Entry) → a.level ≡ l → a.stamp ≡ x.stamp → a.carried ≡ x.carried → (e : Entry) → e.level ≡ j → e.stamp < e.next → x.stamp < up_to e → Related p.dom a e → Later x j e
  after_first l j hl hj s x a al sa ac e el en f (left h) =
      let gap = span_positive a.depth in
      younger (omega (arith, sa, h, gap)) (omega (arith, sa, h, gap, en))
  after_first l j hl hj s x a al sa ac e el en f (right h) = absurd (omega (arith, sa, h, f))
  after_first l j hl hj s x a al sa ac e el en f (over h) =
      absurd (both_below l j hl hj s (rw (el, al) at h.below))
  after_first l j hl hj s x a al sa ac e el en f (under h) =
      let gap = span_positive a.depth in
      ancestor (rw (el, ac) at h.carries) (omega (arith, sa, h.within, gap))

  -- so all that is to come strictly below a level that may step comes after the manager about to step
  pub may_below : (l : ℕ) (m : MayStep p st l) → AllBelow p st l m.fork
  may_below l m j hj s =
      let lj : l ≡ j → ⊥ = λ q. other_level p l j s (sym q) in
      let grown = i.fork_invariant.grown.forest in
      let hl = m.present in
      let a = first_entry (λ a. (a.level ≡ l) × Each (Related p.dom a) (entries_in st j)) l (level_at st l) m.fork m.others m.first
      (each_both (λ a. a.level ≡ l) (λ a. Each (Related p.dom a) (entries_in st j)) _ (λ a h r. (h, r)) (entries_in st l) (grown.home l hl) (grown.across l j hl hj lj)) in
      each_both (λ e. (e.level ≡ j) × (e.stamp < e.next)) (λ e. (m.fork.stamp < up_to e) × Related p.dom a.entry e) (Later m.fork j)
      (λ e g r. after_first l j hl hj s m.fork a.entry a.holds.0 a.stamp a.carried e g.0 g.1 r.0 r.1) (entries_in st j)
      (each_both (λ e. e.level ≡ j) (λ e. e.stamp < e.next) _ (λ e g r. (g, r)) (entries_in st j) (grown.home j hj) (entries_next j (level_at st j)))
      (each_both (λ e. m.fork.stamp < up_to e) (Related p.dom a.entry) _ (λ e g r. (g, r)) (entries_in st j) (m.free j hj (and_left (p.dom l j) (not (eqb l j)) s)) a.holds.1)

  -- a step that questions 12 to 14 allow is safe
  pub may_safe : (l : ℕ) → MayStep p st l → Safe p st l
  may_safe l m =
      record { present = m.present; fork = m.fork; others = m.others; first = m.first; below = may_below l m }

  -- what the step of a level leaves of the intervals there
  own_free : (s k : ℕ) → k < p.levels → Each (λ e. s < up_to e) (entries_in st k) → Each (λ e. s < up_to e) (entries_of k (move_at p k st).own)
  own_free s k hk = own_each p so st i.fork_invariant k hk (λ e. s < up_to e) (λ e h. h)

  -- it stays allowed, whatever other level steps
  pub may_stays : (l k : ℕ) → (l ≡ k → ⊥) → MayStep p st l → k < p.levels → MayStep p (step_at p k st) l
  may_stays l k n m hk =
      let (ys, q) = first-stays p so st i l k n m.fork m.others m.first (may_below l m) hk in
      record {
        present = m.present;
        fork = m.fork;
        others = ys;
        first = q;
        free = λ j hj d. by j hj d (level_at (step_at p k st) j) (became p so st i.fork_invariant k hk j);
      }
    where
      by : (j : ℕ) → j < p.levels → p.dom l j ≡ true → (v : Level) → Became p k st j v → Each (λ e. m.fork.stamp < up_to e) (entries_of j v)
      by j hj d v (own e q) = rw (q, e) (own_free m.fork.stamp k hk (m.free k hk (rw e at d)))
      by j hj d v (got c e s q) =
          rw q ((arrived_joins j c (level_at st j)).each (λ e. m.fork.stamp < up_to e) (later c e) (m.free j hj d))
        where
          below : strictly p.dom l k ≡ true
          below = strictly_over p.levels p.dom so.lattice.order l j k m.present hj hk d s

          later : (c : Fork) → (move_at p k st).arrival ≡ at j c → m.fork.stamp < up_to (waiting_entry j c)
          later c e = omega (arith, (child_later p so st i.fork_invariant k hk m.fork (may_below l m k hk below) j c e).0)
      by j hj d v (stayed g q) = rw q (m.free j hj d)

  -- and that of a manager that runs on is allowed again
  pub may_goes_on : (l : ℕ) → MayStep p st l → is_busy (level_at (step_at p l st) l).activity ≡ true → MayStep p (step_at p l st) l
  may_goes_on l m b =
      let same = level_stepped p so st i.fork_invariant l m.present in
      record {
        present = m.present;
        fork = m.fork;
        others = m.others;
        first = ap forks_of same ∙ (step_marks p so st i.fork_invariant l m.present).going (rw same at b) ∙ m.first;
        free = λ j hj d. by j hj d (level_at (step_at p l st) j) (became p so st i.fork_invariant l m.present j);
      }
    where
      by : (j : ℕ) → j < p.levels → p.dom l j ≡ true → (v : Level) → Became p l st j v → Each (λ e. m.fork.stamp < up_to e) (entries_of j v)
      by j hj d v (own e q) = rw (q, e) (own_free m.fork.stamp l m.present (m.free l m.present (rw e at d)))
      by j hj d v (got c e s q) =
          absurd (other_level p j l s (so.lattice.order.same l j m.present hj d (and_left (p.dom j l) (not (eqb j l)) s)))
      by j hj d v (stayed g q) = rw q (m.free j hj d)
