-- What a manager reads: it depends on the versions of its own level, and of each level below on those up to a bound. What comes later
-- there does not change it. Assumes nothing.
use Prim.Native.Nat.{ℕ, ◌≤◌, ◌<◌}
use mathlib.Core.Path.{◌≡◌, refl, sym, ◌∙◌, ap, fun_ext}
use mathlib.Core.Bool.{Bool, true, false, cond, ◌&&◌}
use mathlib.Core.List.{List, [], ◌∷◌, ◌++◌, map}
use native.Mathlib.Decide.{ℕ_discrete}
use native.Mathlib.Omega.{arith}
use borrow.Author.Tests.{eqb-true, le-ltb, lt-leb}
use lib.Dec.{eqb, leb, ltb}
use lib.ListN.{get_or}
use Rattle.lists.specs.Lists.{select}
use Rattle.session.specs.Program.{Program}
use Rattle.session.specs.Value.{Value}
use Rattle.lists.proofs.Laws.Lists.{Truth, holds, fails, truth, select_no}
use Rattle.lists.specs.Changed.{inserted, last_or}
use Rattle.model.specs.Fork.{Fork}
use Rattle.model.specs.History.{History, end_before}
use Rattle.model.specs.Level.{Version, Level, is_of, newest, newest_to}
use Rattle.model.specs.Step.{State, level_at, Arrival, read_at}
use Rattle.lists.specs.Each.{Each}
use Rattle.lists.proofs.Laws.Each.{each_map}
use Rattle.theorems.proofs.Laws.Steps.Reads.{bound_at, read_own, read_below}
use Rattle.theorems.proofs.Laws.Invariant.Tree.{Entry}
use Rattle.theorems.proofs.Laws.Invariant.WriteStamps.{write_stamp, Closes, kept, closed, Marks}
use Rattle.theorems.proofs.Laws.Safe.Safe.{Later, younger, ancestor, AllLater, first_entry}
use Rattle.scripts.specs.Existence.{initially}

-- level j, as v and as w, reads the same to the manager of fork x at level l
pub record LooksSame (l j : ℕ) (x : Fork) (v w : Level) : Type 0 where
  pub own : j ≡ l → v.versions ≡ w.versions
  pub bound : (j ≡ l → ⊥) → bound_at x j v ≡ bound_at x j w
  pub below : (j ≡ l → ⊥) → (i : Value) (o k : ℕ) → newest_to (bound_at x j v) i o k v.versions ≡ newest_to (bound_at x j v) i o k w.versions

pub looks_same : (l j : ℕ) (x : Fork) (v w : Level) → v.versions ≡ w.versions → v.ended ≡ w.ended → LooksSame l j x v w
looks_same l j x v w q e =
    record {
      own = λ _. q;
      bound = λ _. ap (λ hs. cond (eqb (get_or x.carried j 0) 0) (end_before x.stamp hs) (get_or x.carried j 0)) e;
      below = λ _ i o k. ap (newest_to (bound_at x j v) i o k) q;
    }

-- two states that look the same read the same
pub read_same : (p : Program) (st st' : State) (l : ℕ) (x : Fork) → ((o : ℕ) → LooksSame l (p.level o) x (level_at st (p.level o)) (level_at st' (p.level o))) → read_at p st l x ≡ read_at p st' l x
read_same p st st' l x s = fun_ext λ o. fun_ext λ k. at o k (ℕ_discrete (p.level o) l)
  where
    at : (o k : ℕ) → Dec (p.level o ≡ l) → read_at p st l x o k ≡ read_at p st' l x o k
    at o k (yes e) = read_own p st l x o k e ∙ ap (newest (initially p o k) o k) ((s o).own e) ∙ sym (read_own p st' l x o k e)
    at o k (no n) =
        read_below p st l x o k n
        ∙ (s o).below n (initially p o k) o k
        ∙ ap (λ b. newest_to b (initially p o k) o k (level_at st' (p.level o)).versions) ((s o).bound n)
        ∙ sym (read_below p st' l x o k n)

-- a history that is not smaller is not looked at
passed_over : (x : ℕ) (h : History) → x ≤ h.stamp → (hs : List History) → select (λ h. ltb h.stamp x) (inserted (λ h. h.stamp) h hs) ≡ select (λ h. ltb h.stamp x) hs
unfolding inserted select
passed_over x h l [] = select_no (λ h. ltb h.stamp x) h [] (le-ltb h.stamp x l)
passed_over x h l (g ∷ gs) = elim (truth (ltb h.stamp g.stamp)) [
  | holds e ↦ rw e (select_no (λ h. ltb h.stamp x) h (g ∷ gs) (le-ltb h.stamp x l))
  | fails e ↦ rw e (ap (λ t. cond (ltb g.stamp x) (g ∷ t) t) (passed_over x h l gs))
]

end_inserted : (x : ℕ) (h : History) → x ≤ h.stamp → (hs : List History) → end_before x (inserted (λ h. h.stamp) h hs) ≡ end_before x hs
unfolding end_before
end_inserted x h l hs = ap (λ g. last_or 0 (map (λ h. h.last) g)) (passed_over x h l hs)

-- versions above the bound are not found
newest_added : (b : ℕ) (i : Value) (o k : ℕ) (ws vs : List Version) → Each (λ r. b < r.stamp) ws → newest_to b i o k (ws ++ vs) ≡ newest_to b i o k vs
unfolding newest_to Each
newest_added b i o k [] vs e = refl
newest_added b i o k (w ∷ ws) vs e = rw (missed (is_of o k w) (leb w.stamp b) (lt-leb w.stamp b e.0)) (newest_added b i o k ws vs e.1)
  where
    missed : (a c : Bool) → c ≡ false → (a && c) ≡ false
    missed true c q = q
    missed false c q = refl

-- the last of some write stamps that all lie below b
pub last_below : (b d x : ℕ) (hs : List History) → d < b → Each (λ h. h.last < b) hs → last_or d (map (λ h. h.last) (select (λ h. ltb h.stamp x) hs)) < b
unfolding last_or select Each
last_below b d x [] h e = h
last_below b d x (g ∷ gs) h e = elim (truth (ltb g.stamp x)) [
  | holds q ↦ rw q (last_below b g.last x gs e.0 e.1)
  | fails q ↦ rw q (last_below b d x gs h e.1)
]

-- so a manager's bound lies below the level's write stamp
pub bound_below : (b : ℕ) (x : Fork) (j : ℕ) (v : Level) → Each (λ h. h.last < b) v.ended → get_or x.carried j 0 < b → bound_at x j v < b
unfolding end_before
bound_below b x j v e h = elim (truth (eqb (get_or x.carried j 0) 0)) [
  | holds q ↦ rw q (last_below b 0 x.stamp v.ended (omega (arith, h)) e)
  | fails q ↦ rw q h
]

-- a level whose manager steps, where all that is to come there comes after x
pub marks_look : (l k : ℕ) (x : Fork) (v w : Level) (b : Arrival) → Marks k v w b → bound_at x k v < write_stamp v → AllLater x k v → (k ≡ l → ⊥) → LooksSame l k x v w
marks_look l k x v w b m h a n =
    record {
      own = λ e. absurd (n e);
      bound = λ _. same (truth (eqb (get_or x.carried k 0) 0)) m.closes;
      below = λ _ i o f.
          sym (ap (newest_to (bound_at x k v) i o f) m.versions ∙ newest_added (bound_at x k v) i o f m.fresh v.versions (each_map (λ r. r.stamp ≡ write_stamp v) (λ r. bound_at x k v < r.stamp) (λ r g. omega (arith, g, h)) m.fresh m.current));
    }
  where
    not_smaller : get_or x.carried k 0 ≡ 0 → (s : ℕ) → (e : Entry) × ((e.stamp ≡ s) × Later x k e) → x.stamp ≤ s
    not_smaller z s (e, (q, younger g t)) = omega (arith, q, g)
    not_smaller z s (e, (q, ancestor g t)) = absurd (g z)

    same : Truth (eqb (get_or x.carried k 0) 0) → Closes v w → bound_at x k v ≡ bound_at x k w
    same (fails q) c = rw q refl
    same (holds q) (kept e) = rw q (ap (end_before x.stamp) (sym e))
    same (holds q) (closed y ys g f t u e) =
        let old : x.stamp ≤ g.stamp =
        rw t (not_smaller (eqb-true (get_or x.carried k 0) 0 q) y.stamp (first_entry (Later x k) k v y ys f a)) in
        rw q (sym (ap (end_before x.stamp) e ∙ end_inserted x.stamp g old v.ended))
