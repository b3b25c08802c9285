-- The levels around a manager that runs depth-first: at those that it does not dominate nothing waits or runs, and at those strictly
-- below all that is to come comes after it, with all versions within what it may read. Assumes nothing.
use Prim.Native.Nat.{ℕ, zero, suc, ◌+◌, ◌-◌, ◌≤◌, ◌<◌}
use mathlib.Core.Path.{◌≡◌, refl, ap}
use mathlib.Core.Bool.{Bool, true, false, cond, ◌&&◌}
use mathlib.Core.List.{List, [], ◌∷◌, map}
use native.Mathlib.Omega.{arith}
use borrow.Author.Tests.{le-leb, lt-ltb, ltb-true, ltb-false}
use lib.Dec.{eqb, leb, ltb}
use lib.ListN.{length, take}
use Rattle.lists.specs.Lists.{select}
use Rattle.session.specs.Value.{Value}
use Rattle.model.specs.Limits.{max_managers}
use Rattle.lists.specs.Changed.{inserted, last_or}
use Rattle.model.specs.Fork.{Fork}
use Rattle.model.specs.History.{History, end_before}
use Rattle.model.specs.Level.{Version, idle, Level, is_of, arrived, newest, newest_to}
use Rattle.model.specs.DepthFirst.{Tally}
use Rattle.lists.specs.Each.{Each}
use Rattle.lists.proofs.Laws.Each.{each_map}
use Rattle.lists.proofs.Laws.Changed.{inserted_past}
use Rattle.theorems.proofs.Laws.Invariant.Entries.{entries_of}

-- a level at which nothing waits or runs, with its counts and versions; and one at which fork c waits
abbrev pub quiescent_level : Tally → List Version → Level
quiescent_level t vs =
    record { waiting = []; activity = idle; ended = t.ended; next = t.next; versions = vs }

abbrev pub awaiting : Fork → Tally → List Version → Level
awaiting c t vs =
    record { waiting = c ∷ []; activity = idle; ended = t.ended; next = t.next; versions = vs }

-- the counts and versions of a level where the managers that ended have stamps below lo: the last of them ended one below the next write
-- stamp, and no version lies above it
pub record Past (lo : ℕ) (t : Tally) (vs : List Version) : Type 0 where
  pub early : Each (λ h. h.stamp < lo) t.ended
  pub last : last_or 0 (map (λ h. h.last) t.ended) + 1 ≡ t.next
  pub written : Each (λ w. w.stamp < t.next) vs

-- nothing waits or runs at a level, and what has ended there is past
pub record LevelQuiescent (lo : ℕ) (t : Tally) (v : Level) : Type 0 where
  pub versions : List Version
  pub is : v ≡ quiescent_level t versions
  pub past : Past lo t versions

pub past_raised : (lo hi : ℕ) (t : Tally) (vs : List Version) → lo ≤ hi → Past lo t vs → Past hi t vs
past_raised lo hi t vs h r =
    record {
      early = each_map (λ g. g.stamp < lo) (λ g. g.stamp < hi) (λ g e. omega (arith, e)) t.ended r.early;
      last = r.last;
      written = r.written;
    }

pub quiescent_raised : (lo hi : ℕ) (t : Tally) (v : Level) → lo ≤ hi → LevelQuiescent lo t v → LevelQuiescent hi t v
quiescent_raised lo hi t v h r =
    record { versions = r.versions; is = r.is; past = past_raised lo hi t r.versions h r.past }

-- a level j below a manager with stamps from lo to hi that carries s for it
pub record Below (s lo hi j : ℕ) (v : Level) : Type 0 where
  pub later : Each (λ e. (hi ≤ e.next) × (s ≡ 0 → ⊥)) (entries_of j v)
  pub readable : (y : ℕ) → lo ≤ y → Each (λ w. w.stamp ≤ cond (eqb s 0) (end_before y v.ended) s) v.versions

pub below_narrowed : (s lo lo' hi hi' j : ℕ) (v : Level) → lo ≤ lo' → hi' ≤ hi → Below s lo hi j v → Below s lo' hi' j v
below_narrowed s lo lo' hi hi' j v h g b =
    record {
      later = each_map (λ e. (hi ≤ e.next) × (s ≡ 0 → ⊥)) (λ e. (hi' ≤ e.next) × (s ≡ 0 → ⊥)) (λ e r. (omega (arith, r.0), r.1)) (entries_of j v) b.later;
      readable = λ y l. b.readable y (omega (arith, l));
    }

-- all histories with smaller stamps: the last of all is found
all_before : (lo y : ℕ) (hs : List History) → lo ≤ y → Each (λ h. h.stamp < lo) hs → select (λ h. ltb h.stamp y) hs ≡ hs
unfolding select Each
all_before lo y [] l e = refl
all_before lo y (h ∷ hs) l e =
    rw (lt-ltb h.stamp y (omega (arith, e.0))) (ap (λ t. h ∷ t) (all_before lo y hs l e.1))

-- a resting level for which no write stamp is carried
pub quiescent_below : (s lo hi j : ℕ) (t : Tally) (v : Level) → s ≡ 0 → LevelQuiescent lo t v → Below s lo hi j v
unfolding end_before
quiescent_below s lo hi j t v z r =
    rw (r.is, z) (record {
      later = unfold Each in tt;
      readable = λ y l.
          rw (all_before lo y t.ended l r.past.early)
          (each_map (λ w. w.stamp < t.next) (λ w. w.stamp ≤ last_or 0 (map (λ h. h.last) t.ended)) (λ w e. omega (arith, e, r.past.last)) r.versions r.past.written);
    })

-- where all versions lie within the bound, the newest is found
pub newest_within : (b : ℕ) (i : Value) (o k : ℕ) (vs : List Version) → Each (λ w. w.stamp ≤ b) vs → newest_to b i o k vs ≡ newest i o k vs
unfolding newest_to newest Each
newest_within b i o k [] e = refl
newest_within b i o k (w ∷ ws) e =
    rw (both (is_of o k w) (leb w.stamp b) (le-leb w.stamp b e.0), newest_within b i o k ws e.1) refl
  where
    both : (a c : Bool) → c ≡ true → (a && c) ≡ a
    both true c q = q
    both false c q = refl

-- the history with the greatest stamp comes last
pub last_inserted : (d : ℕ) (h : History) (hs : List History) → Each (λ g. g.stamp < h.stamp) hs → last_or d (map (λ h. h.last) (inserted (λ h. h.stamp) h hs)) ≡ h.last
unfolding inserted last_or Each
last_inserted d h [] e = refl
last_inserted d h (g ∷ gs) e =
    rw (inserted_past (λ h. h.stamp) h g gs (omega (arith, e.0))) (last_inserted g.last h gs e.1)

-- a fork arrives at a resting level: it waits alone, or is dropped
pub arrived-kept : (c : Fork) (t : Tally) (vs : List Version) → ltb (length t.ended) max_managers ≡ true → arrived c (quiescent_level t vs) ≡ awaiting c t vs
unfolding arrived inserted
arrived-kept c t vs e =
    let some : length t.ended < max_managers = ltb-true (length t.ended) max_managers e in
    ap (λ ws. record { waiting = ws; activity = idle; ended = t.ended; next = t.next; versions = vs }) (taken (max_managers - (length t.ended + 0)) (omega (arith, some)))
  where
    taken : (r : ℕ) → 0 < r → take r (c ∷ []) ≡ c ∷ []
    taken zero h = absurd (omega arith)
    taken (suc zero) h = refl
    taken (suc (suc r)) h = refl

pub arrived_dropped : (c : Fork) (t : Tally) (vs : List Version) → ltb (length t.ended) max_managers ≡ false → arrived c (quiescent_level t vs) ≡ quiescent_level t vs
unfolding arrived inserted
arrived_dropped c t vs e =
    let many : max_managers ≤ length t.ended = ltb-false (length t.ended) max_managers e in
    let none : max_managers - (length t.ended + 0) ≡ 0 = omega (arith, many) in
    ap (λ r. record { waiting = take r (c ∷ []); activity = idle; ended = t.ended; next = t.next; versions = vs }) none
