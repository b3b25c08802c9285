-- The invariant of runs of allowed steps: the forks that wait at a level rise, and a level that runs a manager may go on. Every allowed step keeps
-- it. So the first manager of a level that has not ended tells of all the others there. Assumes nothing.
use Prim.Native.Nat.{ℕ, ◌+◌, ◌-◌, ◌≤◌, ◌<◌}
use mathlib.Core.Path.{◌≡◌, refl, sym, ◌∙◌, ap}
use mathlib.Core.Bool.{true}
use mathlib.Core.List.{List, [], ◌∷◌, map}
use native.Mathlib.Decide.{ℕ_discrete}
use native.Mathlib.Omega.{arith}
use Rattle.session.specs.Program.{Program}
use Rattle.scripts.proofs.Laws.Effects.{Sound}
use Rattle.model.specs.Limits.{max_managers}
use Rattle.lists.specs.Changed.{inserted}
use Rattle.model.specs.Fork.{Fork, span}
use Rattle.model.specs.Level.{Activity, idle, busy, Level, is_busy, started_count, forks_by, forks_of, arrived}
use Rattle.model.specs.Step.{State, level_at, step_at}
use Rattle.lists.specs.Each.{Each, Pairwise}
use Rattle.lists.proofs.Laws.Each.{each_map, pairwise_take, rising_inserted}
use Rattle.model.proofs.Laws.Stamps.{span_positive}
use Rattle.theorems.proofs.Laws.Invariant.Tree.{Entry, up_to, Related, left, right, over, under}
use Rattle.theorems.proofs.Laws.Invariant.Forest.{Rest, whole, tail}
use Rattle.theorems.proofs.Laws.Invariant.Entries.{waiting_entry, running_entry, entries_by, entries_of}
use Rattle.theorems.proofs.Laws.Invariant.Forks.{entries_in}
use Rattle.theorems.proofs.Laws.Invariant.Became.{Became, own, got, stayed, became, step_marks}
use Rattle.theorems.proofs.Laws.Invariant.State.{StateInvariant}
use Rattle.theorems.proofs.Laws.Invariant.Preserved.{other_level}
use Rattle.theorems.proofs.Laws.Steps.May.{MayStep, forks_entries, Before}
use Rattle.theorems.proofs.Laws.Safe.Safe.{head_same}
use Rattle.theorems.proofs.Laws.Safe.Asked.{may_stays, may_goes_on}

-- forks by rising stamp
abbrev pub Rises : List Fork → Type 0
Rises xs = Pairwise (λ x y. x.stamp ≤ y.stamp) xs

pub record OrderInvariant (p : Program) (st : State) : Type 0 where
  pub rising : (l : ℕ) → l < p.levels → Rises (level_at st l).waiting
  pub running : (l : ℕ) → l < p.levels → is_busy (level_at st l).activity ≡ true → MayStep p st l

arrived_rises : (x : Fork) (v : Level) → Rises v.waiting → Rises (arrived x v).waiting
unfolding arrived
arrived_rises x v r =
    pairwise_take (λ x y. x.stamp ≤ y.stamp) (max_managers - started_count v) (inserted (λ y. y.stamp) x v.waiting) (rising_inserted (λ y. y.stamp) x v.waiting r)

rest_rises : (xs ys : List Fork) → Rest xs ys → Rises xs → Rises ys
unfolding Pairwise
rest_rises xs ys (whole q) r = rw q r
rest_rises xs ys (tail x q) r = (rw q at r).1

pub tail_same : (x y : Fork) (xs ys : List Fork) → x ∷ xs ≡ y ∷ ys → xs ≡ ys
tail_same x y xs ys q = ap tailing q
  where
    tailing : List Fork → List Fork
    tailing [] = []
    tailing (z ∷ zs) = zs

-- every allowed step keeps the invariant
pub order_preserves : (p : Program) → Sound p → (st : State) → StateInvariant p st → OrderInvariant p st → (l : ℕ) → MayStep p st l → OrderInvariant p (step_at p l st)
order_preserves p so st t i l m =
    record {
      rising = λ k hk. rises k hk (level_at (step_at p l st) k) (became p so st t.fork_invariant l m.present k);
      running = λ k hk. runs k hk (ℕ_discrete k l);
    }
  where
    rises : (k : ℕ) → k < p.levels → (v : Level) → Became p l st k v → Rises v.waiting
    rises k hk v (own e q) =
        rw (ap (λ v. v.waiting) q) (rest_rises _ _ (step_marks p so st t.fork_invariant l m.present).queue (i.rising l m.present))
    rises k hk v (got c e s q) = rw (ap (λ v. v.waiting) q) (arrived_rises c (level_at st k) (i.rising k hk))
    rises k hk v (stayed n q) = rw (ap (λ v. v.waiting) q) (i.rising k hk)

    -- what runs at another level ran there before
    ran : (k : ℕ) → (k ≡ l → ⊥) → (v : Level) → Became p l st k v → is_busy v.activity ≡ true → is_busy (level_at st k).activity ≡ true
    ran k n v (own e q) b = absurd (n e)
    ran k n v (got c e s q) b = unfold arrived in rw (ap (λ v. v.activity) q) at b
    ran k n v (stayed g q) b = rw (ap (λ v. v.activity) q) at b

    runs : (k : ℕ) → k < p.levels → Dec (k ≡ l) → is_busy (level_at (step_at p l st) k).activity ≡ true → MayStep p (step_at p l st) k
    runs k hk (yes e) b = rw e (may_goes_on p so st t l m (rw e at b))
    runs k hk (no n) b =
        may_stays p so st t k l n (i.running k hk (ran k n (level_at (step_at p l st) k) (became p so st t.fork_invariant l m.present k) b)) m.present

-- the managers of one level own disjoint intervals, and those behind the first lie after its own
module _ (p : Program) (so : Sound p) (st : State) (t : StateInvariant p st) (i : OrderInvariant p st) (j : ℕ) (h : j < p.levels) where
  same_level : (a b : Entry) → a.level ≡ j → b.level ≡ j → a.stamp < up_to b → Related p.dom a b → up_to a ≤ b.stamp
  same_level a b al bl f (left g) = g
  same_level a b al bl f (right g) = absurd (omega (arith, f, g))
  same_level a b al bl f (over g) = absurd (other_level p b.level a.level g.below (al ∙ sym bl))
  same_level a b al bl f (under g) = absurd (other_level p a.level b.level g.below (bl ∙ sym al))

  -- none of them ends before the first begins
  pub before_ends : (x : Fork) (xs : List Fork) → forks_of (level_at st j) ≡ x ∷ xs → Each (λ e. x.stamp < up_to e) (entries_in st j)
  unfolding Each Pairwise
  before_ends x xs q = by (level_at st j).activity refl
    where
      waits : (ws : List Fork) → ws ≡ x ∷ xs → Rises ws → Each (λ y. x.stamp < y.stamp + span y.depth) ws
      waits ws e r =
          rw e (
            omega (arith, span_positive x.depth),
            each_map (λ y. x.stamp ≤ y.stamp) (λ y. x.stamp < y.stamp + span y.depth) (λ y g. omega (arith, g, span_positive y.depth)) xs (rw e at r).0,
          )

      by : (a : Activity) → (level_at st j).activity ≡ a → Each (λ e. x.stamp < up_to e) (entries_in st j)
      by idle e =
          forks_entries (Before x.stamp) j (level_at st j) (rw (ap (λ a. forks_by a (level_at st j).waiting) e) (waits (level_at st j).waiting (sym (ap (λ a. forks_by a (level_at st j).waiting) e) ∙ q) (i.rising j h)))
      by (busy y m) e =
          let k = i.running j h (ap is_busy e) in
          let same : k.fork ≡ x = head_same k.fork x k.others xs (sym k.first ∙ q) in
          rw (ap (λ y. y.stamp) same) at (k.free j h (so.lattice.order.itself j h))

  -- those behind the first lie after its interval
  pub behind : (x : Fork) (xs : List Fork) → forks_of (level_at st j) ≡ x ∷ xs → Each (λ z. x.stamp + span x.depth ≤ z.stamp) xs
  unfolding Each Pairwise
  behind x xs q = later (level_at st j) (t.fork_invariant.grown.forest.home j h) (t.fork_invariant.grown.forest.same j h) (before_ends x xs q) q
    where
      -- of a list of entries and its first
      each : (a : Entry) (es : List Entry) → a.level ≡ j → a.stamp ≡ x.stamp → a.depth ≡ x.depth → Each (λ e. e.level ≡ j) es → Each (Related p.dom a) es → Each (λ e. x.stamp < up_to e) es → Each (λ e. x.stamp + span x.depth ≤ e.stamp) es
      each a [] al sa ad f g k = tt
      each a (e ∷ es) al sa ad f g k = (
        rw (sa, ad) at (same_level a e al f.0 (rw sa k.0) g.0),
        each a es al sa ad f.1 g.1 k.1,
      )

      waiting : (ws : List Fork) → Each (λ e. x.stamp + span x.depth ≤ e.stamp) (map (waiting_entry j) ws) → Each (λ z. x.stamp + span x.depth ≤ z.stamp) ws
      waiting [] f = tt
      waiting (w ∷ ws) f = (f.0, waiting ws f.1)

      later : (v : Level) → Each (λ e. e.level ≡ j) (entries_of j v) → Pairwise (Related p.dom) (entries_of j v) → Each (λ e. x.stamp < up_to e) (entries_of j v) → forks_of v ≡ x ∷ xs → Each (λ z. x.stamp + span x.depth ≤ z.stamp) xs
      later v = by v.activity v.waiting
        where
          by : (b : Activity) (ws : List Fork) → Each (λ e. e.level ≡ j) (entries_by j b ws) → Pairwise (Related p.dom) (entries_by j b ws) → Each (λ e. x.stamp < up_to e) (entries_by j b ws) → forks_by b ws ≡ x ∷ xs → Each (λ z. x.stamp + span x.depth ≤ z.stamp) xs
          by idle ws f g k e = waiting xs (each (waiting_entry j x) (map (waiting_entry j) xs) refl refl refl (rw e at f).1 (rw e at g).0 (rw e at k).1)
          by (busy y m) ws f g k e =
              let same : y ≡ x = head_same y x ws xs e in
              let rest : ws ≡ xs = tail_same y x ws xs e in
              rw (sym rest) (waiting ws (each (running_entry j y m.forks) (map (waiting_entry j) ws) refl (ap (λ z. z.stamp) same) (ap (λ z. z.depth) same) f.1 g.0 k.1))
