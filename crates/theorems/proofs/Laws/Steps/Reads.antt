-- What a manager reads, by the level of the object: of its own level the newest version, of one below the newest up to a bound. What the
-- level sees is enough for it. Assumes nothing.
use Prim.Native.Nat.{ℕ}
use mathlib.Core.Path.{◌≡◌, refl, sym, ◌∙◌, ap₂}
use mathlib.Core.Bool.{true, cond}
use native.Mathlib.Decide.{ℕ_discrete}
use borrow.Author.Tests.{eq-eqb, ne_eqb}
use lib.Dec.{eqb}
use lib.ListN.{get_or}
use Rattle.session.specs.Program.{Program, seen_by}
use Rattle.scripts.specs.Existence.{initially}
use Rattle.scripts.proofs.Laws.Effects.{Sound}
use Rattle.model.specs.Fork.{Fork}
use Rattle.model.specs.History.{end_before}
use Rattle.model.specs.Level.{Level, newest, newest_to}
use Rattle.model.specs.Step.{State, level_at, view_of, read_at}
use Rattle.theorems.proofs.Laws.Steps.Diamond.{seen_level}

-- the write stamp up to which the manager of fork x reads at level j, which is v
abbrev pub bound_at : Fork → ℕ → Level → ℕ
bound_at x j v = cond (eqb (get_or x.carried j 0) 0) (end_before x.stamp v.ended) (get_or x.carried j 0)

-- a read at the manager's own level, and one below
pub read_own : (p : Program) (st : State) (l : ℕ) (x : Fork) (o k : ℕ) → p.level o ≡ l → read_at p st l x o k ≡ newest (initially p o k) o k (level_at st (p.level o)).versions
unfolding read_at
read_own p st l x o k e = rw (eq-eqb (p.level o) l e) refl

pub read_below : (p : Program) (st : State) (l : ℕ) (x : Fork) (o k : ℕ) → (p.level o ≡ l → ⊥) → read_at p st l x o k ≡ newest_to (bound_at x (p.level o) (level_at st (p.level o))) (initially p o k) o k (level_at st (p.level o)).versions
unfolding read_at
read_below p st l x o k n = rw (ne_eqb (p.level o) l n) refl

-- a read through what level l sees, of an object that it dominates
pub seen_field : (l : ℕ) (p : Program) (o k : ℕ) → p.dom l (p.level o) ≡ true → initially (seen_by l p) o k ≡ initially p o k
unfolding initially seen_by
seen_field l p o k d = rw d refl

pub seen_own : (l : ℕ) (p : Program) (st : State) (c : Fork) (o k : ℕ) → p.level o ≡ l → read_at (seen_by l p) st l c o k ≡ newest (initially (seen_by l p) o k) o k (level_at st (p.level o)).versions
unfolding seen_by
seen_own l p st c o k e = read_own (seen_by l p) st l c o k e

pub seen_below : (l : ℕ) (p : Program) (st : State) (c : Fork) (o k : ℕ) → (p.level o ≡ l → ⊥) → read_at (seen_by l p) st l c o k ≡ newest_to (bound_at c (p.level o) (level_at st (p.level o))) (initially (seen_by l p) o k) o k (level_at st (p.level o)).versions
unfolding seen_by
seen_below l p st c o k n = read_below (seen_by l p) st l c o k n

-- what a manager reads of the objects that its level dominates, from what the level sees and from all of the state
pub reads_direct : (p : Program) → Sound p → (st : State) (l : ℕ) (x : Fork) (o k : ℕ) → p.dom l (p.level o) ≡ true → read_at (seen_by l p) (view_of p l st) l x o k ≡ read_at p st l x o k
reads_direct p so st l x o k d = by (seen_level p l (p.level o) st (so.placed o) d) (ℕ_discrete (p.level o) l)
  where
    by : level_at (view_of p l st) (p.level o) ≡ level_at st (p.level o) → Dec (p.level o ≡ l) → read_at (seen_by l p) (view_of p l st) l x o k ≡ read_at p st l x o k
    by q (yes e) =
        seen_own l p (view_of p l st) x o k e
        ∙ ap₂ (λ i v. newest i o k v.versions) (seen_field l p o k d) q
        ∙ sym (read_own p st l x o k e)
    by q (no n) =
        seen_below l p (view_of p l st) x o k n
        ∙ ap₂ (λ i v. newest_to (bound_at x (p.level o) v) i o k v.versions) (seen_field l p o k d) q
        ∙ sym (read_below p st l x o k n)
