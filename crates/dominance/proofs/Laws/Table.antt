-- Laws of level tables: what the verdict says of the masks and of dominance. Assumes nothing.
use Prim.Native.Nat.{ℕ, ◌≤◌, ◌<◌, ◌/◌, ◌^◌}
use mathlib.Core.Path.{◌≡◌, refl, sym, ◌∙◌}
use mathlib.Core.Bool.{Bool, true, false, cond, ◌&&◌}
use mathlib.Core.List.{List}
use native.Mathlib.Nat.{div-eq_of_lt, div-lt_iff_lt-mul, one-mul, le_trans}
use native.Mathlib.Decide.{dec_lt}
use native.Mathlib.Omega.{arith}
use borrow.Author.Tests.{ltb-true, lt-ltb, le-ltb, ne_eqb}
use lib.Dec.{eqb, ltb}
use lib.Pow.{pow_pos, pow_mono}
use lib.ListN.{length, get_or, get_or-eq_default}
use Rattle.dominance.specs.Order.{reflexive, antisymmetric, transitive, is_order, PartialOrder}
use Rattle.dominance.specs.Join.{JoinSemilattice}
use Rattle.dominance.specs.Meet.{is_lowest, has_lowest, Lattice}
use Rattle.dominance.specs.Table.{bit, dominates, names_present, is_ordered, is_joined, is_met, Verdict, Passed, verdict_of}
use Rattle.dominance.specs.declared.Fault.TheVariants.{NotOrdered, NoJoin, NoMeet}
use Rattle.std.specs.Prelude.{Ok, Err}
use Rattle.lists.proofs.Laws.Range.{and_left, and_right, not_both, all_each}
use Rattle.dominance.proofs.Laws.Order.{order}
use Rattle.dominance.proofs.Laws.Join.{semilattice}
use Rattle.dominance.proofs.Laws.Meet.{meets_by_lowest, lowest_found, lowest_none, met_none, lattice}

-- no bit is set from the mask's width on
pub bit_beyond : (mask k : ℕ) → mask < 2 ^ k → bit mask k ≡ false
bit_beyond mask k h = rw (div-eq_of_lt h)

-- a mask names only levels below n exactly when its bits from n on make 0
pub names-below : (mask n : ℕ) → eqb (mask / 2 ^ n) 0 ≡ ltb mask (2 ^ n)
names-below mask n = go (dec_lt mask (2 ^ n))
  where
    quotient_zero : mask / 2 ^ n ≡ 0 → mask < 2 ^ n
    quotient_zero e = rw one-mul at ((div-lt_iff_lt-mul {x = mask} {y = 1} (pow_pos n)).0 (rw e (omega arith)))

    go : Dec (mask < 2 ^ n) → eqb (mask / 2 ^ n) 0 ≡ ltb mask (2 ^ n)
    go (yes h) = rw (div-eq_of_lt h) (sym (lt-ltb mask (2 ^ n) h))
    go (no g) =
        ne_eqb (mask / 2 ^ n) 0 (λ e. g (quotient_zero e))
        ∙ sym (le-ltb mask (2 ^ n) (omega arith))

-- a level that is not in the table dominates none
pub absent : (masks : List ℕ) (i k : ℕ) → length masks ≤ i → dominates masks i k ≡ false
unfolding dominates
absent masks i k h = rw (get_or-eq_default masks 0 h) (bit_beyond 0 k (pow_pos k))

-- question 4, in the three parts in which it is asked
pub ordered_parts : (masks : List ℕ) →
    is_ordered masks
    ≡ (names_present masks && reflexive (length masks) (dominates masks)
    && antisymmetric (length masks) (dominates masks) && transitive (length masks) (dominates masks))
unfolding is_ordered is_order
ordered_parts masks = go (names_present masks) (reflexive _ _) (antisymmetric _ _) (transitive _ _)
  where
    go : (a b c d : Bool) → (a && (b && c && d)) ≡ (a && b && c && d)
    go true b c d = refl
    go false b c d = refl

module _ (masks : List ℕ) (o : is_ordered masks ≡ true) where
  pub is_order_lem : is_order (length masks) (dominates masks) ≡ true
  unfolding is_ordered
  is_order_lem = and_right (names_present masks) (is_order (length masks) (dominates masks)) o

  -- a table that passes question 4 is a partial order
  pub partial_order : PartialOrder (length masks) (dominates masks)
  partial_order = order (length masks) (dominates masks) is_order_lem

  -- only levels of the table dominate, and only such are dominated
  pub upper_present : (i k : ℕ) → dominates masks i k ≡ true → i < length masks
  upper_present i k e = go (dec_lt i (length masks))
    where
      go : Dec (i < length masks) → i < length masks
      go (yes h) = h
      go (no g) = absurd (not_both (dominates masks i k) e (absent masks i k (omega arith)))

  pub lower_present : (i k : ℕ) → dominates masks i k ≡ true → k < length masks
  unfolding is_ordered names_present dominates
  lower_present i k e = go (dec_lt k (length masks))
    where
      small : get_or masks i 0 < 2 ^ length masks
      small =
          ltb-true (get_or masks i 0) (2 ^ length masks)
          (all_each (length masks) _ (and_left (names_present masks) (is_order (length masks) (dominates masks)) o) i (upper_present i k e))

      go : Dec (k < length masks) → k < length masks
      go (yes h) = h
      go (no g) =
          let le : length masks ≤ k = omega arith in
          absurd (not_both (bit (get_or masks i 0) k) e (bit_beyond (get_or masks i 0) k (le_trans small (pow_mono le))))

-- question 17 of a table that passed 4 and 5: a level that all dominate answers yes; where there is none, it is yes of no levels alone
module _ (masks : List ℕ) (o : is_ordered masks ≡ true) (j : is_joined masks ≡ true) where
  by_lowest : 0 < length masks → is_met masks ≡ has_lowest (length masks) (dominates masks)
  by_lowest h = meets_by_lowest (length masks) (dominates masks) (semilattice (length masks) (dominates masks) (is_order_lem masks o) j) h

  pub lowest_met : (l : ℕ) → l < length masks → is_lowest (length masks) (dominates masks) l ≡ true → is_met masks ≡ true
  lowest_met l h e = by_lowest (omega arith) ∙ lowest_found (length masks) (dominates masks) l h e

  pub none_met : ((l : ℕ) → l < length masks → is_lowest (length masks) (dominates masks) l ≡ false) → is_met masks ≡ eqb (length masks) 0
  none_met f = go (dec_lt 0 (length masks))
    where
      go : Dec (0 < length masks) → is_met masks ≡ eqb (length masks) 0
      go (yes h) = by_lowest h ∙ lowest_none (length masks) (dominates masks) f ∙ sym (ne_eqb (length masks) 0 (omega arith))
      go (no h) = let z : length masks ≡ 0 = omega arith in rw z (met_none (dominates masks))

-- the verdict, from the questions and back
pub not_ordered : (masks : List ℕ) → is_ordered masks ≡ false → verdict_of masks ≡ Err NotOrdered
unfolding verdict_of
not_ordered masks o = rw o

pub no_join : (masks : List ℕ) → is_ordered masks ≡ true → is_joined masks ≡ false → verdict_of masks ≡ Err NoJoin
unfolding verdict_of
no_join masks o j = rw (o, j)

pub no_meet : (masks : List ℕ) → is_ordered masks ≡ true → is_joined masks ≡ true → is_met masks ≡ false → verdict_of masks ≡ Err NoMeet
unfolding verdict_of
no_meet masks o j m = rw (o, j, m)

pub all_pass : (masks : List ℕ) → is_ordered masks ≡ true → is_joined masks ≡ true → is_met masks ≡ true → verdict_of masks ≡ Passed
unfolding verdict_of
all_pass masks o j m = rw (o, j, m)

-- what each verdict tells of the questions
abbrev pub Told : Verdict → Bool → Bool → Bool → Type 0
Told (Ok u) o j m = (o ≡ true) × (j ≡ true) × (m ≡ true)
Told (Err NotOrdered) o j m = o ≡ false
Told (Err NoJoin) o j m = (o ≡ true) × (j ≡ false)
Told (Err NoMeet) o j m = (o ≡ true) × (j ≡ true) × (m ≡ false)

told_by : (o j m : Bool) → Told (cond o (cond j (cond m Passed (Err NoMeet)) (Err NoJoin)) (Err NotOrdered)) o j m
told_by true true true = (refl, refl, refl)
told_by true true false = (refl, refl, refl)
told_by true false m = (refl, refl)
told_by false j m = refl

pub told : (masks : List ℕ) (v : Verdict) → verdict_of masks ≡ v → Told v (is_ordered masks) (is_joined masks) (is_met masks)
unfolding verdict_of
told masks v e = rw e at (told_by (is_ordered masks) (is_joined masks) (is_met masks))

module _ (masks : List ℕ) where
  pub passed_ordered : verdict_of masks ≡ Passed → is_ordered masks ≡ true
  passed_ordered e = (told masks Passed e).0

  pub passed-joined : verdict_of masks ≡ Passed → is_joined masks ≡ true
  passed-joined e = (told masks Passed e).1

  pub passed_met : verdict_of masks ≡ Passed → is_met masks ≡ true
  passed_met e = (told masks Passed e).2

-- the levels of a table that passed are a join semilattice, and a lattice
pub passed : (masks : List ℕ) → verdict_of masks ≡ Passed → JoinSemilattice (length masks) (dominates masks)
passed masks e =
    semilattice (length masks) (dominates masks) (is_order_lem masks (passed_ordered masks e)) (passed-joined masks e)

pub passed_lattice : (masks : List ℕ) → verdict_of masks ≡ Passed → Lattice (length masks) (dominates masks)
passed_lattice masks e =
    lattice (length masks) (dominates masks) (is_order_lem masks (passed_ordered masks e)) (passed-joined masks e) (passed_met masks e)
