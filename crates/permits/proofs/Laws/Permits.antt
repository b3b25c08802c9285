-- Laws of questions 12 to 15 as they are put of what is counted. Assumes nothing.
use Prim.Native.Nat.{ℕ, ◌+◌, ◌≤◌, ◌<◌}
use mathlib.Core.Path.{◌≡◌, refl, sym, ◌∙◌, ap}
use mathlib.Core.Bool.{Bool, true, false, not, ◌&&◌, or-true}
use mathlib.Core.List.{List}
use native.Mathlib.Omega.{arith}
use borrow.Author.Tests.{lt-ltb, le-ltb}
use lib.Dec.{eqb}
use lib.ListN.{length, get_or}
use Rattle.lists.specs.Range.{all, implies}
use Rattle.dominance.specs.Order.{strictly}
use Rattle.dominance.specs.Table.{dominates}
use Rattle.model.specs.Limits.{stamp_digits}
use Rattle.model.specs.Schedule.{holds_back}
use Rattle.queues.specs.Queue.{fork_at, There}
use Rattle.queues.proofs.Laws.Queue.{depth_any}
use Rattle.tallies.specs.Places.{waiting_place, busy_in, managed}
use Rattle.permits.specs.Permits.{first_at, free_of, permit_of, Askable}
use Rattle.permits.specs.declared.Permit.TheVariants.{Given, Absent, Idle, Blocked}

-- at level j nothing stands against the conservative rule for level l
abbrev pub passes : List ℕ → List ℕ → ℕ → ℕ → Bool
passes masks tallies l j = implies (strictly (dominates masks) l j) (not (managed tallies j))

-- as the code tests it
passes_by : (same has over : Bool) → not (not same && has && over) ≡ implies (over && not same) (not has)
passes_by true has true = refl
passes_by true has false = refl
passes_by false true true = refl
passes_by false true false = refl
passes_by false false true = refl
passes_by false false false = refl

pub passes_all : (masks tallies : List ℕ) (l n : ℕ) → all n (λ j. not (not (eqb l j) && managed tallies j && dominates masks l j)) ≡ all n (passes masks tallies l)
passes_all masks tallies l n = ap (all n) (λ i j. passes_by (eqb l j) (managed tallies j) (dominates masks l j) i)

-- there are words for the first manager of a level that has one, and it is not too deep
module _ (masks tallies queue : List ℕ) (q : Askable masks tallies queue) (j : ℕ) (h : j < length masks) (e : managed tallies j ≡ true) where
  pub first_there : There queue j (get_or tallies j 0)
  first_there = record { room = q.room; level = omega (arith, h, q.countable.few); placed = q.placed j h e }

  pub first_shallow : (n : ℕ) → (fork_at n queue j (get_or tallies j 0)).depth ≤ stamp_digits + 1
  first_shallow n = rw (depth_any n (length masks) queue j (get_or tallies j 0)) (q.shallow j h e)

-- the first manager of level j does not hold back that of level l
abbrev pub spares : List ℕ → List ℕ → List ℕ → ℕ → ℕ → Bool
spares masks tallies queue l j =
    implies (dominates masks l j && managed tallies j) (not (holds_back (first_at masks tallies queue j) (first_at masks tallies queue l).stamp))

-- as the code tests it, of that stamp
spares_by : (has over held : Bool) → not (has && (over && held)) ≡ implies (over && has) (not held)
spares_by true true held = refl
spares_by true false held = refl
spares_by false true held = refl
spares_by false false held = refl

pub spares_all : (masks tallies queue : List ℕ) (l n stamp : ℕ) → (first_at masks tallies queue l).stamp ≡ stamp
    → all n (λ j. not (managed tallies j && (dominates masks l j && holds_back (first_at masks tallies queue j) stamp))) ≡ all n (spares masks tallies queue l)
spares_all masks tallies queue l n stamp e =
    ap (λ s. all n (λ j. not (managed tallies j && (dominates masks l j && holds_back (first_at masks tallies queue j) s)))) (sym e)
    ∙ ap (all n) (λ i j. spares_by (managed tallies j) (dominates masks l j) (holds_back (first_at masks tallies queue j) (first_at masks tallies queue l).stamp) i)

-- where no manager runs, a level has one if some wait
module _ (tallies : List ℕ) (l : ℕ) (n : busy_in tallies l ≡ false) where
  pub none_waits : get_or tallies (waiting_place l) 0 ≡ 0 → managed tallies l ≡ false
  none_waits z = rw (n, z)

  pub some_wait : (get_or tallies (waiting_place l) 0 ≡ 0 → ⊥) → managed tallies l ≡ true
  some_wait f = rw n (lt-ltb 0 (get_or tallies (waiting_place l) 0) (omega (arith, f)))

module _ (masks tallies queue : List ℕ) (l : ℕ) where
  -- what questions 12 to 14 say, by cases
  pub permit_absent : length masks ≤ l → permit_of masks tallies queue l ≡ Absent
  permit_absent h = rw (le-ltb l (length masks) h)

  module _ (h : l < length masks) where
    pub permit_busy : busy_in tallies l ≡ true → permit_of masks tallies queue l ≡ Given
    permit_busy e = rw (lt-ltb l (length masks) h, e)

    pub permit_idle : managed tallies l ≡ false → permit_of masks tallies queue l ≡ Idle
    permit_idle e = rw (lt-ltb l (length masks) h, e)

    pub permit_blocked : managed tallies l ≡ true → busy_in tallies l ≡ false → free_of masks tallies queue l ≡ false → permit_of masks tallies queue l ≡ Blocked
    permit_blocked e n f = rw (lt-ltb l (length masks) h, e, n, f)

    pub permit_given : managed tallies l ≡ true → free_of masks tallies queue l ≡ true → permit_of masks tallies queue l ≡ Given
    permit_given e f = rw (lt-ltb l (length masks) h, e, f, or-true)
