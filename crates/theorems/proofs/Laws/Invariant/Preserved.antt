-- Every scheduler step keeps the invariant, and the session as read in has it. Assumes nothing.
use Prim.Native.Nat.{ℕ, ◌+◌, ◌≤◌, ◌<◌}
use mathlib.Core.Path.{◌≡◌, refl, sym, ◌∙◌, ap}
use mathlib.Core.Bool.{true, not, cond}
use mathlib.Core.List.{List, [], ◌∷◌}
use native.Mathlib.Decide.{ℕ_discrete}
use native.Mathlib.Omega.{arith}
use borrow.Author.Tests.{eq-eqb, ne_eqb, eqb-false, not-true}
use lib.Dec.{eqb}
use lib.ListN.{length}
use Rattle.dominance.specs.Order.{strictly}
use Rattle.lists.proofs.Laws.Range.{and_right}
use Rattle.session.specs.Program.{Program, seen_by}
use Rattle.lists.proofs.Laws.Lists.{holds, fails, truth}
use Rattle.scripts.specs.Ending.{is_running}
use Rattle.scripts.specs.Manager.{started, stepped}
use Rattle.scripts.specs.State.{Manager}
use Rattle.scripts.specs.Effect.{Effect}
use Rattle.scripts.specs.Effect as effect
use Rattle.scripts.proofs.Laws.Counts.{Counts, counts, grown, one_more, started_counts, stepped_counts}
use Rattle.scripts.proofs.Laws.Effects.{Sound}
use Rattle.scripts.specs.Limits.{max_forks}
use Rattle.lists.specs.Changed.{modify}
use Rattle.model.specs.Fork.{Fork, child_of}
use Rattle.model.specs.Level.{Version, Activity, idle, busy, Level, arrived, after}
use Rattle.model.specs.Step.{State, level_at, view_of, read_at, Arrival, none, at, Moved, begun, advanced, moved, move_at, applied, delivered, step_at}
use Rattle.model.specs.Limits.{stamp_digits}
use Rattle.theorems.proofs.Laws.Steps.Moves.{AtLevel}
use Rattle.theorems.proofs.Laws.Steps.Diamond.{seen_level}
use Rattle.lists.proofs.Laws.Changed.{modify-length}
use Rattle.lists.specs.Each.{Each}
use Rattle.theorems.proofs.Laws.Invariant.Rank.{rank, rank_positive}
use Rattle.model.proofs.Laws.Stamps.{child_after, child_within}
use Rattle.theorems.proofs.Laws.Invariant.Tree.{Entry, forked_from, child_in, Fertile}
use Rattle.theorems.proofs.Laws.Invariant.Forest.{Joins, Rest, whole}
use Rattle.theorems.proofs.Laws.Steps.Locality.{Misses}
use Rattle.theorems.proofs.Laws.Invariant.Entries.{entries_of, running_entry, waiting_entry, child_entry, arrived_joins}
use Rattle.theorems.proofs.Laws.Invariant.WriteStamps.{write_stamp}
use Rattle.theorems.proofs.Laws.Invariant.Change.{Change, internal, forks}
use Rattle.theorems.proofs.Laws.Invariant.Forks.{entries_in, step_change, marks_at, level_own, level_target, level_other, delivered-length, grown_rest, grown_fork, ForkInvariant}

-- a manager that runs on after a step is still one of its level
after_at_lem : (l : ℕ) (v : Level) (ws : List Fork) (versions : List Version) (x : Fork) (m : Manager) → m.level ≡ l → AtLevel l (after v ws versions x m).activity
unfolding after
after_at_lem l v ws versions x m q = elim (truth (is_running m.ending)) [
  | holds e ↦ rw e q
  | fails e ↦ rw e tt
]

pub grown_level : (c : Counts) (e : Effect) → (one_more (grown c e)).level ≡ c.level
grown_level c effect.Nothing = refl
grown_level c (effect.Write ws) = refl
grown_level c (effect.Fork u message) = refl

begun_at : (p : Program) (st : State) (l : ℕ) (v : Level) (ws : List Fork) → AtLevel l v.activity → AtLevel l (begun p st l v ws).own.activity
unfolding begun
begun_at p st l v [] t = t
begun_at p st l v (x ∷ xs) t =
    after_at_lem l v xs v.versions x (started p (read_at p st l x) l v.next x.message) (ap (λ c. c.level) (started_counts p (read_at p st l x) l v.next x.message))

moved_at : (p : Program) (st : State) (l : ℕ) (v : Level) (a : Activity) → AtLevel l v.activity → AtLevel l a → AtLevel l (moved p st l v a).own.activity
unfolding moved advanced
moved_at p st l v idle t q = begun_at p st l v v.waiting t
moved_at p st l v (busy x m) t q =
    let s = stepped p (read_at p st l x) m in
    after_at_lem l v v.waiting _ x s.manager
    (ap (λ c. c.level) (stepped_counts p (read_at p st l x) m) ∙ grown_level (counts m) s.effect ∙ q)

pub move_at_lem : (p : Program) (l : ℕ) (st : State) → Sound p → l < p.levels → AtLevel l (level_at st l).activity → AtLevel l (move_at p l st).own.activity
unfolding move_at
move_at_lem p l st so h t =
    let view = view_of p l st in
    let same = seen_level p l l st h (so.lattice.order.itself l h) in
    let there : AtLevel l (level_at view l).activity = rw (ap (λ w. w.activity) same) t in
    moved_at (seen_by l p) view l (level_at view l) (level_at view l).activity there there

-- what holds of each element holds of the first
pub first_of : {A : Type 0} (P : A → Type 0) (a : A) (W E : List A) → E ≡ a ∷ W → Each P E → P a
unfolding Each
first_of P a W E e g = (rw e at g).0

-- a running manager that may still fork has room for its child
pub fertile : (p : Program) → Sound p → (st : State) → ForkInvariant p st → (l : ℕ) → l < p.levels → (x : Fork) (k : ℕ) (W : List Entry) → entries_in st l ≡ running_entry l x k ∷ W → k < max_forks → Fertile (running_entry l x k)
fertile p so st o l h x k W e f =
    let d = first_of (λ a. a.depth + rank p.levels p.dom l ≤ stamp_digits + 1) (running_entry l x k) W (entries_in st l) e (o.grown.shallow l h) in
    let wide = first_of (λ a. length a.carried ≡ p.levels) (running_entry l x k) W (entries_in st l) e (o.grown.wide l h) in
    let shallow : x.depth ≤ stamp_digits = omega (arith, d, rank_positive p.levels p.dom so.lattice.order l h) in
    record {
      after = child_after x.stamp x.depth k;
      room = child_within x.stamp x.depth k shallow f;
      wide = rw wide h;
    }

-- a level strictly above is another
pub other_level : (p : Program) (u l : ℕ) → strictly p.dom u l ≡ true → l ≡ u → ⊥
other_level p u l s q = eqb-false u l (not-true (eqb u l) (and_right (p.dom u l) (not (eqb u l)) s)) (sym q)

arrived_at : (u : ℕ) (x : Fork) (v : Level) → AtLevel u v.activity → AtLevel u (arrived x v).activity
arrived_at u x v t = unfold arrived in t

-- the step that done describes, at level l, in a state with the invariant
module _ (p : Program) (so : Sound p) (l : ℕ) (h : l < p.levels) (st : State) (o : ForkInvariant p st) (done : Moved) (own_at : AtLevel l done.own.activity) (own-positive : 0 < write_stamp done.own) where
  here : l < length st
  here = rw o.size h

  pub internal_preserves : (b : Arrival) → b ≡ none → Rest (entries_in st l) (entries_of l done.own) → ForkInvariant p (delivered b (modify l (λ _. done.own) st))
  internal_preserves b q r =
      record {
        size = delivered-length b _ ∙ modify-length l (λ _. done.own) st ∙ o.size;
        placed = λ k hk. placed k hk (ℕ_discrete l k);
        grown = grown_rest p (entries_in st) _ o.grown (λ k. rest k (ℕ_discrete l k));
        positive = λ k hk. positive k hk (ℕ_discrete l k);
      }
    where
      misses : (k : ℕ) → Misses k b
      misses k = rw q tt

      placed : (k : ℕ) → k < p.levels → Dec (l ≡ k) → AtLevel k (level_at (delivered b (modify l (λ _. done.own) st)) k).activity
      placed k hk (yes e) = rw (sym e) (rw (ap (λ v. v.activity) (level_own b l done.own st (misses l) here)) own_at)
      placed k hk (no n) = rw (ap (λ v. v.activity) (level_other b l k done.own st n (misses k))) (o.placed k hk)

      positive : (k : ℕ) → k < p.levels → Dec (l ≡ k) → 0 < write_stamp (level_at (delivered b (modify l (λ _. done.own) st)) k)
      positive k hk (yes e) = rw (sym e) (rw (ap write_stamp (level_own b l done.own st (misses l) here)) own-positive)
      positive k hk (no n) = rw (ap write_stamp (level_other b l k done.own st n (misses k))) (o.positive k hk)

      rest : (k : ℕ) → Dec (l ≡ k) → Rest (entries_in st k) (entries_in (delivered b (modify l (λ _. done.own) st)) k)
      rest k (yes e) = rw (sym e) (rw (ap (entries_of l) (level_own b l done.own st (misses l) here)) r)
      rest k (no n) = whole (ap (entries_of k) (level_other b l k done.own st n (misses k)))

  pub fork_preserves : (u : ℕ) (c : Fork) (a : Entry) (W : List Entry) (w : ℕ) → 0 < w → waiting_entry u c ≡ child_in u w a → entries_in st l ≡ a ∷ W → Rest (forked_from a ∷ W) (entries_of l done.own) → u < p.levels → strictly p.dom u l ≡ true → Fertile a → ForkInvariant p (delivered (at u c) (modify l (λ _. done.own) st))
  fork_preserves u c a W w z q e r hu s f =
      record {
        size = delivered-length (at u c) _ ∙ modify-length l (λ _. done.own) st ∙ o.size;
        placed = λ k hk. placed k hk (ℕ_discrete l k) (ℕ_discrete u k);
        grown = grown_rest p between _
            (grown_fork p (entries_in st) between so o.grown l u h hu lu a W e s f w z between_l (rw between_u joins) (λ k n g. between_other k n ∙ others k n g))
            (λ k. rest k (ℕ_discrete k l));
        positive = λ k hk. positive k hk (ℕ_discrete l k) (ℕ_discrete u k);
      }
    where
      lu : l ≡ u → ⊥
      lu = other_level p u l s

      next : State
      next = delivered (at u c) (modify l (λ _. done.own) st)

      -- the state between the fork and the sender's end
      between : ℕ → List Entry
      between k = cond (eqb k l) (forked_from a ∷ W) (entries_in next k)

      own : level_at next l ≡ done.own
      own = level_own (at u c) l done.own st (λ t. lu (sym t)) here

      target : level_at next u ≡ arrived c (level_at st u)
      target = level_target u c l done.own st lu (rw o.size hu)

      between_l : between l ≡ forked_from a ∷ W
      between_l = rw (eq-eqb l l refl) refl

      between_other : (k : ℕ) → (k ≡ l → ⊥) → between k ≡ entries_in next k
      between_other k n = rw (ne_eqb k l n) refl

      between_u : between u ≡ entries_in next u
      between_u = between_other u (λ t. lu (sym t))

      joins : Joins (child_in u w a) (entries_in st u) (entries_in next u)
      joins = rw (ap (entries_of u) target, sym q) (arrived_joins u c (level_at st u))

      others : (k : ℕ) → (k ≡ l → ⊥) → (k ≡ u → ⊥) → entries_in next k ≡ entries_in st k
      others k n g = ap (entries_of k) (level_other (at u c) l k done.own st (λ t. n (sym t)) (λ t. g (sym t)))

      rest : (k : ℕ) → Dec (k ≡ l) → Rest (between k) (entries_in next k)
      rest k (yes t) = rw (t, between_l, ap (entries_of l) own) r
      rest k (no n) = whole (sym (between_other k n))

      placed : (k : ℕ) → k < p.levels → Dec (l ≡ k) → Dec (u ≡ k) → AtLevel k (level_at next k).activity
      placed k hk (yes t) d = rw (sym t) (rw (ap (λ v. v.activity) own) own_at)
      placed k hk (no n) (yes t) = rw (sym t) (rw (ap (λ v. v.activity) target) (arrived_at u c (level_at st u) (o.placed u hu)))
      placed k hk (no n) (no g) = rw (ap (λ v. v.activity) (level_other (at u c) l k done.own st n g)) (o.placed k hk)

      positive : (k : ℕ) → k < p.levels → Dec (l ≡ k) → Dec (u ≡ k) → 0 < write_stamp (level_at next k)
      positive k hk (yes t) d = rw (sym t) (rw (ap write_stamp own) own-positive)
      positive k hk (no n) (yes t) = rw (sym t) (rw (ap write_stamp target) (unfold arrived in o.positive u hu))
      positive k hk (no n) (no g) = rw (ap write_stamp (level_other (at u c) l k done.own st n g)) (o.positive k hk)

-- every scheduler step keeps the invariant
pub step_preserves : (p : Program) (l : ℕ) (st : State) → Sound p → l < p.levels → ForkInvariant p st → ForkInvariant p (step_at p l st)
unfolding step_at
step_preserves p l st so h o =
    preserves (move_at p l st) (move_at_lem p l st so h (o.placed l h)) (omega (arith, o.positive l h, (marks_at p l st so h).grows)) (step_change p l st so h (o.placed l h) (o.positive l h))
  where
    arriving : (b c : Arrival) (s : State) → b ≡ c → ForkInvariant p (delivered c s) → ForkInvariant p (delivered b s)
    arriving b c s q r = rw q r

    preserves : (done : Moved) → AtLevel l done.own.activity → 0 < write_stamp done.own → Change p l (entries_in st l) (entries_of l done.own) done.arrival → ForkInvariant p (applied l done st)
    preserves done t y (internal q r) = internal_preserves p so l h st o done t y done.arrival q r
    preserves done t y (forks u x m message W q e r hu s f z) =
        arriving done.arrival (at u (child_of l x m message)) (modify l (λ _. done.own) st) q
        (fork_preserves p so l h st o done t y u (child_of l x m message) (running_entry l x m.forks) W m.stamp z (child_entry l u x m message) e r hu s (fertile p so st o l h x m.forks W e f))
