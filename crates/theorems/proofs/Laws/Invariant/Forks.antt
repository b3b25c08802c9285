-- The invariant of every state that a run reaches: managers run at their levels, the stamps form a forest, no chain of forks is too long.
-- Every scheduler step keeps it, allowed or not. Assumes nothing.
use Prim.Native.Nat.{ℕ, ◌+◌, ◌≤◌, ◌<◌}
use mathlib.Core.Path.{◌≡◌, refl, sym, ◌∙◌, ap}
use mathlib.Core.Bool.{true}
use mathlib.Core.List.{List, ◌∷◌}
use native.Mathlib.Decide.{ℕ_discrete}
use native.Mathlib.Omega.{arith}
use lib.ListN.{length, length-set}
use Rattle.dominance.specs.Order.{strictly}
use Rattle.session.specs.Program.{Program, seen_by}
use Rattle.scripts.proofs.Laws.Effects.{Sound}
use Rattle.lists.specs.Changed.{modify}
use Rattle.model.specs.Fork.{Fork}
use Rattle.model.specs.Level.{Level, new_level, arrived}
use Rattle.model.specs.Step.{State, level_at, view_of, Arrival, none, at, move_at, delivered}
use Rattle.model.specs.Limits.{stamp_digits}
use Rattle.lists.proofs.Laws.Changed.{modify-length, modify_at, modify_other}
use Rattle.lists.specs.Each.{Each}
use Rattle.theorems.proofs.Laws.Invariant.Rank.{rank, rank_falls}
use Rattle.theorems.proofs.Laws.Invariant.Tree.{Entry, forked_from, child_in, Fertile}
use Rattle.theorems.proofs.Laws.Invariant.Forest.{Forest, Joins, Rest, rest_each, forest_rest, forest_fork}
use Rattle.theorems.proofs.Laws.Invariant.Entries.{entries_of}
use Rattle.theorems.proofs.Laws.Invariant.WriteStamps.{write_stamp, Marks, moved_marks}
use Rattle.theorems.proofs.Laws.Invariant.Change.{Change, internal, forks, moved_change}
use Rattle.theorems.proofs.Laws.Steps.Moves.{AtLevel, seen_sound}
use Rattle.theorems.proofs.Laws.Steps.Diamond.{seen_level}
use Rattle.theorems.proofs.Laws.Steps.Locality.{Misses}

-- the entries of a state, by level
abbrev pub entries_in : State → ℕ → List Entry
entries_in st l = entries_of l (level_at st l)

-- what l sees has the same levels
seen_change : (p : Program) (l : ℕ) (E G : List Entry) (b : Arrival) → Change (seen_by l p) l E G b → Change p l E G b
unfolding seen_by
seen_change p l E G b (internal q r) = internal q r
seen_change p l E G b (forks u x m message W q e r h s f z) = forks u x m message W q e r h s f z

-- a step's change of its own level
pub step_change : (p : Program) (l : ℕ) (st : State) → Sound p → l < p.levels → AtLevel l (level_at st l).activity → 0 < write_stamp (level_at st l) → Change p l (entries_in st l) (entries_of l (move_at p l st).own) (move_at p l st).arrival
unfolding move_at
step_change p l st so h t z =
    let view = view_of p l st in
    let v = level_at view l in
    let same : v ≡ level_at st l = seen_level p l l st h (so.lattice.order.itself l h) in
    rw (ap (entries_of l) same) at
    (seen_change p l (entries_of l v) _ _ (moved_change (seen_by l p) view l v v.activity refl (seen_sound l p so) (here l p h) (rw (ap (λ w. w.activity) same) t) (rw (ap write_stamp same) z)))
  where
    here : (l : ℕ) (p : Program) → l < p.levels → l < (seen_by l p).levels
    here l p h = unfold seen_by in h

-- what a step does to its own level's write stamp, versions, histories and forks
pub marks_at : (p : Program) (l : ℕ) (st : State) → Sound p → l < p.levels → Marks l (level_at st l) (move_at p l st).own (move_at p l st).arrival
unfolding move_at
marks_at p l st so h =
    let view = view_of p l st in
    let same : level_at view l ≡ level_at st l = seen_level p l l st h (so.lattice.order.itself l h) in
    by (level_at view l) (level_at st l) same (moved_marks (seen_by l p) view l (level_at view l) (level_at view l).activity refl)
  where
    by : (v w : Level) → v ≡ w → {z : Level} {b : Arrival} → Marks l v z b → Marks l w z b
    by v w q f = rw (sym q) f

-- the levels after a step: its own, the one that gets its fork, another
pub level_own : (b : Arrival) (l : ℕ) (w : Level) (st : State) → Misses l b → l < length st → level_at (delivered b (modify l (λ _. w) st)) l ≡ w
unfolding delivered
level_own none l w st m h = modify_at new_level l (λ _. w) st h
level_own (at u x) l w st m h = modify_other new_level u l (arrived x) (modify l (λ _. w) st) m ∙ modify_at new_level l (λ _. w) st h

pub level_target : (u : ℕ) (x : Fork) (l : ℕ) (w : Level) (st : State) → (l ≡ u → ⊥) → u < length st → level_at (delivered (at u x) (modify l (λ _. w) st)) u ≡ arrived x (level_at st u)
unfolding delivered
level_target u x l w st n h =
    modify_at new_level u (arrived x) (modify l (λ _. w) st) (rw (modify-length l (λ _. w) st) h)
    ∙ ap (arrived x) (modify_other new_level l u (λ _. w) st n)

pub level_other : (b : Arrival) (l k : ℕ) (w : Level) (st : State) → (l ≡ k → ⊥) → Misses k b → level_at (delivered b (modify l (λ _. w) st)) k ≡ level_at st k
unfolding delivered
level_other none l k w st n m = modify_other new_level l k (λ _. w) st n
level_other (at u x) l k w st n m =
    modify_other new_level u k (arrived x) (modify l (λ _. w) st) m ∙ modify_other new_level l k (λ _. w) st n

pub delivered-length : (b : Arrival) (st : State) → length (delivered b st) ≡ length st
unfolding delivered
delivered-length none st = refl
delivered-length (at u x) st = modify-length u (arrived x) st

-- the forest, the length of chains, and a write stamp carried for each level
pub record Grown (p : Program) (F : ℕ → List Entry) : Type 0 where
  pub forest : Forest p.levels p.dom F
  pub shallow : (l : ℕ) → l < p.levels → Each (λ a. a.depth + rank p.levels p.dom l ≤ stamp_digits + 1) (F l)
  pub wide : (l : ℕ) → l < p.levels → Each (λ a. length a.carried ≡ p.levels) (F l)

pub grown_rest : (p : Program) (F G : ℕ → List Entry) → Grown p F → ((k : ℕ) → Rest (F k) (G k)) → Grown p G
grown_rest p F G g r =
    record {
      forest = forest_rest p.levels p.dom F G g.forest r;
      shallow = λ l h. rest_each (λ a. a.depth + rank p.levels p.dom l ≤ stamp_digits + 1) (F l) (G l) (r l) (g.shallow l h);
      wide = λ l h. rest_each (λ a. length a.carried ≡ p.levels) (F l) (G l) (r l) (g.wide l h);
    }

-- the first manager of level l forks at level u
pub grown_fork : (p : Program) (F G : ℕ → List Entry) → Sound p → Grown p F → (l u : ℕ) → l < p.levels → u < p.levels → (l ≡ u → ⊥) → (a : Entry) (W : List Entry) → F l ≡ a ∷ W → strictly p.dom u l ≡ true → Fertile a → (w : ℕ) → 0 < w → G l ≡ forked_from a ∷ W → Joins (child_in u w a) (F u) (G u) → ((k : ℕ) → (k ≡ l → ⊥) → (k ≡ u → ⊥) → G k ≡ F k) → Grown p G
grown_fork p F G so g l u hl hu lu a W e s f w z tl tu o =
    record {
      forest = forest_fork p.levels p.dom so.lattice.order F G g.forest l u hl hu lu a W e s f w z tl tu o;
      shallow = λ k hk. deep k hk (ℕ_discrete k l) (ℕ_discrete k u);
      wide = λ k hk. long k hk (ℕ_discrete k l) (ℕ_discrete k u);
    }
  where
    at_l : Each (λ a. a.depth + rank p.levels p.dom l ≤ stamp_digits + 1) (a ∷ W)
    at_l = rw e at (g.shallow l hl)

    child : a.depth + 1 + rank p.levels p.dom u ≤ stamp_digits + 1
    child = unfold Each in omega (arith, at_l.0, rank_falls p.levels p.dom so.lattice.order u l hu hl s)

    deep : (k : ℕ) → k < p.levels → Dec (k ≡ l) → Dec (k ≡ u) → Each (λ a. a.depth + rank p.levels p.dom k ≤ stamp_digits + 1) (G k)
    deep k hk (yes q) d = rw (q, tl) (unfold Each in (at_l.0, at_l.1))
    deep k hk (no n) (yes q) = rw q (tu.each (λ a. a.depth + rank p.levels p.dom u ≤ stamp_digits + 1) child (g.shallow u hu))
    deep k hk (no n) (no q) = rw (o k n q) (g.shallow k hk)

    wide_l : Each (λ a. length a.carried ≡ p.levels) (a ∷ W)
    wide_l = rw e at (g.wide l hl)

    long : (k : ℕ) → k < p.levels → Dec (k ≡ l) → Dec (k ≡ u) → Each (λ a. length a.carried ≡ p.levels) (G k)
    long k hk (yes q) d = rw (q, tl) (unfold Each in (wide_l.0, wide_l.1))
    long k hk (no n) (yes q) =
        rw q (tu.each (λ a. length a.carried ≡ p.levels) (length-set a.carried a.level w ∙ unfold Each in wide_l.0) (g.wide u hu))
    long k hk (no n) (no q) = rw (o k n q) (g.wide k hk)

-- the invariant of a state: with them, a write stamp that is not 0
pub record ForkInvariant (p : Program) (st : State) : Type 0 where
  pub size : length st ≡ p.levels
  pub placed : (l : ℕ) → l < p.levels → AtLevel l (level_at st l).activity
  pub grown : Grown p (entries_in st)
  pub positive : (l : ℕ) → l < p.levels → 0 < write_stamp (level_at st l)
