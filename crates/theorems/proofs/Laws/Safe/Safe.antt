-- Safe steps: whatever is still to come at the levels strictly below comes after the manager that steps. Safe steps stay safe. Assumes
-- nothing.
use Prim.Native.Nat.{ℕ, zero, suc, ◌+◌, ◌-◌, ◌≤◌, ◌<◌}
use mathlib.Core.Path.{◌≡◌, refl, sym, ◌∙◌, ap}
use mathlib.Core.Bool.{Bool, true, false, not, cond, ◌||◌}
use mathlib.Core.List.{List, [], ◌∷◌, map}
use native.Mathlib.Omega.{arith}
use lib.ListN.{length, get_or, take}
use Rattle.dominance.specs.Order.{strictly}
use Rattle.lists.proofs.Laws.Range.{not_both}
use Rattle.session.specs.Program.{Program}
use Rattle.scripts.proofs.Laws.Effects.{Sound}
use Rattle.model.specs.Limits.{max_managers}
use Rattle.lists.specs.Changed.{inserted}
use Rattle.model.specs.Fork.{Fork, child_of}
use Rattle.model.specs.Level.{Activity, idle, busy, Level, is_busy, is_empty, has_manager, arrived, forks_by, forks_of}
use Rattle.model.specs.Step.{State, level_at, Arrival, none, at, move_at, step_at}
use Rattle.lists.specs.Each.{Each}
use Rattle.lists.proofs.Laws.Changed.{inserted_past}
use Rattle.model.proofs.Laws.Stamps.{child_after}
use Rattle.theorems.proofs.Laws.Invariant.Tree.{Entry, strictly_through, forked_from, child_in}
use Rattle.theorems.proofs.Laws.Invariant.Forest.{rest_each}
use Rattle.theorems.proofs.Laws.Steps.May.{first-managed}
use Rattle.theorems.proofs.Laws.Invariant.Entries.{running_entry, waiting_entry, entries_by, entries_of, child_entry, arrived_joins}
use Rattle.theorems.proofs.Laws.Invariant.Change.{Change, internal, forks}
use Rattle.theorems.proofs.Laws.Invariant.Forks.{entries_in, step_change, ForkInvariant}
use Rattle.theorems.proofs.Laws.Invariant.Preserved.{first_of}
use Rattle.theorems.proofs.Laws.Invariant.Measure.{Bounded}
use Rattle.theorems.proofs.Laws.Invariant.Became.{Became, own, got, stayed, became}
use Rattle.theorems.proofs.Laws.Invariant.State.{StateInvariant}

-- what manager e at level j has still to do comes after the manager of fork x: its next child does, and it is younger itself, or an
-- ancestor of x ran at its level
pub data Later (x : Fork) (j : ℕ) (e : Entry) : Type 0 where
  younger : x.stamp < e.stamp → x.stamp < e.next → Later x j e
  ancestor : (get_or x.carried j 0 ≡ 0 → ⊥) → x.stamp < e.next → Later x j e

pub later_next : {x : Fork} {j : ℕ} {e : Entry} → Later x j e → x.stamp < e.next
later_next (younger h n) = n
later_next (ancestor h n) = n

-- all that is to come at level j comes after x
abbrev pub AllLater : Fork → ℕ → Level → Type 0
AllLater x j v = Each (Later x j) (entries_of j v)

-- all that is to come strictly below level l comes after x
abbrev pub AllBelow : Program → State → ℕ → Fork → Type 0
AllBelow p st l x = (j : ℕ) → j < p.levels → strictly p.dom l j ≡ true → AllLater x j (level_at st j)

-- a step at level l is safe: the level has a manager, and all that is to come strictly below comes after it
pub record Safe (p : Program) (st : State) (l : ℕ) : Type 0 where
  pub present : l < p.levels
  pub fork : Fork
  pub others : List Fork
  pub first : forks_of (level_at st l) ≡ fork ∷ others
  pub below : AllBelow p st l fork

pub safe_managed : {p : Program} {st : State} {l : ℕ} → Safe p st l → has_manager (level_at st l) ≡ true
safe_managed {st = st} {l = l} s = first-managed (level_at st l) s.fork s.others s.first

-- where no manager is, nothing is to come
pub unmanaged_none : (j : ℕ) (v : Level) → has_manager v ≡ false → entries_of j v ≡ []
unmanaged_none j v h = by v.activity v.waiting h
  where
    by : (a : Activity) (ws : List Fork) → (is_busy a || not (is_empty ws)) ≡ false → entries_by j a ws ≡ []
    by idle [] e = refl
    by idle (x ∷ xs) e = absurd (not_both true refl e)
    by (busy x m) ws e = absurd (not_both true refl e)

pub head_same : (x y : Fork) (xs ys : List Fork) → x ∷ xs ≡ y ∷ ys → x ≡ y
head_same x y xs ys q = ap (λ l. heading x l) q
  where
    heading : Fork → List Fork → Fork
    heading d [] = d
    heading d (z ∷ zs) = z

-- the first entry of a level is its first fork's
pub first_entry : (P : Entry → Type 0) (j : ℕ) (v : Level) (y : Fork) (ys : List Fork) → forks_of v ≡ y ∷ ys → Each P (entries_of j v) → (e : Entry) × ((e.stamp ≡ y.stamp) × P e)
first_entry P j v y ys q f = by v.activity v.waiting q f
  where
    waits : (ws : List Fork) → ws ≡ y ∷ ys → Each P (map (waiting_entry j) ws) → (e : Entry) × ((e.stamp ≡ y.stamp) × P e)
    waits ws q f = (waiting_entry j y, (refl, unfold Each in (rw q at f).0))

    by : (a : Activity) (ws : List Fork) → forks_by a ws ≡ y ∷ ys → Each P (entries_by j a ws) → (e : Entry) × ((e.stamp ≡ y.stamp) × P e)
    by idle ws q f = waits ws q f
    by (busy x m) ws q f = (running_entry j x m.forks, (ap (λ z. z.stamp) (head_same x y ws ys q), unfold Each in f.0))

pub at_fork : (u w : ℕ) (x y : Fork) → at u x ≡ at w y → x ≡ y
at_fork u w x y q = ap (λ b. fork_in x b) q
  where
    fork_in : Fork → Arrival → Fork
    fork_in d none = d
    fork_in d (at u x) = x

pub at_none : (b : Arrival) (u : ℕ) (x : Fork) → b ≡ at u x → b ≡ none → ⊥
at_none b u x q e = not_both (is_none b) (ap is_none e) (ap is_none q)
  where
    is_none : Arrival → Bool
    is_none none = true
    is_none (at u x) = false

-- a step at level k
module _ (p : Program) (so : Sound p) (st : State) (o : ForkInvariant p st) (k : ℕ) (hk : k < p.levels) where
  change : Change p k (entries_in st k) (entries_of k (move_at p k st).own) (move_at p k st).arrival
  change = step_change p k st so hk (o.placed k hk) (o.positive k hk)

  -- its fork comes after x, where all that is to come at k does
  pub child_later : (x : Fork) → AllLater x k (level_at st k) → (u : ℕ) (c : Fork) → (move_at p k st).arrival ≡ at u c → (x.stamp < c.stamp) × Later x u (waiting_entry u c)
  child_later x a u c q = by change
    where
      after : (e : Entry) (w : ℕ) → waiting_entry u c ≡ child_in u w e → Later x k e → (x.stamp < c.stamp) × Later x u (waiting_entry u c)
      after e w g t =
          let here : c.stamp ≡ e.next = ap (λ e. e.stamp) g in
          let more = child_after c.stamp c.depth 0 in
          (omega (arith, here, later_next t), younger (omega (arith, here, later_next t)) (omega (arith, here, later_next t, more)))

      by : {G : List Entry} → Change p k (entries_in st k) G (move_at p k st).arrival → (x.stamp < c.stamp) × Later x u (waiting_entry u c)
      by (internal e r) = absurd (at_none (move_at p k st).arrival u c q e)
      by (forks w y m message W e g r hu s f z) =
          let same : c ≡ child_of k y m message = at_fork u w c (child_of k y m message) (sym q ∙ e) in
          after (running_entry k y m.forks) m.stamp (ap (waiting_entry u) same ∙ child_entry k u y m message)
          (first_of (Later x k) (running_entry k y m.forks) W (entries_in st k) g a)

  -- what is to come at its own level comes after x still
  own_later : (x : Fork) → AllLater x k (level_at st k) → AllLater x k (move_at p k st).own
  own_later x a = by change
    where
      forked : (e : Entry) → Later x k e → Later x k (forked_from e)
      forked e (younger h n) = younger h (omega (arith, n))
      forked e (ancestor h n) = ancestor h (omega (arith, n))

      by : {G : List Entry} {b : Arrival} → Change p k (entries_in st k) G b → Each (Later x k) G
      by (internal e r) = rest_each (Later x k) _ _ r a
      by (forks w y m message W e g r hu s f z) =
          rest_each (Later x k) _ _ r (unfold Each in (forked (running_entry k y m.forks) (rw g at a).0, (rw g at a).1))

  -- and at every level j, where it does so at k if k lies below j
  pub later_kept : (x : Fork) (j : ℕ) → AllLater x j (level_at st j) → (strictly p.dom j k ≡ true → AllLater x k (level_at st k)) → AllLater x j (level_at (step_at p k st) j)
  later_kept x j a b = by (level_at (step_at p k st) j) (became p so st o k hk j)
    where
      by : (v : Level) → Became p k st j v → AllLater x j v
      by v (own e q) = rw (q, e) (own_later x (rw e at a))
      by v (got c e s q) = rw q ((arrived_joins j c (level_at st j)).each (Later x j) (child_later x (b s) j c e).1 a)
      by v (stayed n q) = rw q a

-- the first fork of a level stays first when one with a greater stamp arrives
pub taken_past : (r : ℕ) (x c : Fork) (xs : List Fork) → 0 < r → x.stamp < c.stamp → take r (inserted (λ y. y.stamp) c (x ∷ xs)) ≡ x ∷ take (r - 1) (inserted (λ y. y.stamp) c xs)
taken_past zero x c xs h l = absurd (omega arith)
taken_past (suc r) x c xs h l =
    let one : suc r - 1 ≡ r = omega arith in
    rw one (ap (take (suc r)) (inserted_past (λ y. y.stamp) c x xs (omega arith)))

arrived-first : (x c : Fork) (xs : List Fork) (v : Level) → Bounded v → forks_of v ≡ x ∷ xs → x.stamp < c.stamp → (ys : List Fork) × (forks_of (arrived c v) ≡ x ∷ ys)
unfolding arrived
arrived-first x c xs v t q h = by v.activity v.waiting q t.room
  where
    by : (a : Activity) (ws : List Fork) → forks_by a ws ≡ x ∷ xs → length v.ended + cond (is_busy a) 1 0 + length ws ≤ max_managers → (ys : List Fork) × (forks_by a (take (max_managers - (length v.ended + cond (is_busy a) 1 0)) (inserted (λ y. y.stamp) c ws)) ≡ x ∷ ys)
    by idle ws q r =
        let some : length ws ≡ suc (length xs) = ap length q in
        let room = max_managers - (length v.ended + 0) in
        (take (room - 1) (inserted (λ y. y.stamp) c xs), ap (λ l. take room (inserted (λ y. y.stamp) c l)) q ∙ taken_past room x c xs (omega (arith, r, some)) h)
    by (busy y m) ws q r =
        let rest : List Fork = take (max_managers - (length v.ended + 1)) (inserted (λ y. y.stamp) c ws) in
        (rest, ap (λ z. z ∷ rest) (head_same y x ws xs q))

-- the first fork of a level stays first, whatever other level steps, where all that is to come strictly below comes after it
pub first-stays : (p : Program) → Sound p → (st : State) → StateInvariant p st → (l k : ℕ) → (l ≡ k → ⊥) → (x : Fork) (xs : List Fork) → forks_of (level_at st l) ≡ x ∷ xs → AllBelow p st l x → k < p.levels → (ys : List Fork) × (forks_of (level_at (step_at p k st) l) ≡ x ∷ ys)
first-stays p so st i l k n x xs f b hk = front (level_at (step_at p k st) l) (became p so st i.fork_invariant k hk l)
  where
    front : (v : Level) → Became p k st l v → (ys : List Fork) × (forks_of v ≡ x ∷ ys)
    front v (own e q) = absurd (n e)
    front v (got c e s q) =
        let (ys, g) = arrived-first x c xs (level_at st l) (i.bounded l) f (child_later p so st i.fork_invariant k hk x (b k hk s) l c e).0 in
        (ys, ap forks_of q ∙ g)
    front v (stayed m q) = (xs, ap forks_of q ∙ f)

-- Safe steps stay safe, whatever other level steps
pub safe_stays : (p : Program) → Sound p → (st : State) → StateInvariant p st → (l k : ℕ) → (l ≡ k → ⊥) → Safe p st l → k < p.levels → Safe p (step_at p k st) l
safe_stays p so st i l k n s hk =
    let (ys, q) = first-stays p so st i l k n s.fork s.others s.first s.below hk in
    record {
      present = s.present;
      fork = s.fork;
      others = ys;
      first = q;
      below = λ j hj b. later_kept p so st i.fork_invariant k hk s.fork j (s.below j hj b) (λ c. s.below k hk (strictly_through p.levels p.dom so.lattice.order l j k s.present hj hk b c));
    }
