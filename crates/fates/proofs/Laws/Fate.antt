-- Where a message is forked, and that what runs it dominates its object. Assumes nothing.
use Prim.Native.Nat.{ℕ, ◌<◌}
use mathlib.Core.Path.{◌≡◌, refl, sym}
use mathlib.Core.Bool.{Bool, true, false, cond}
use borrow.Author.Tests.{eqb-true, eqb-false, eq-eqb, ne_eqb}
use lib.Dec.{eqb}
use Rattle.dominance.specs.Order.{Dominance, strictly, PartialOrder}
use Rattle.dominance.specs.Join.{JoinSemilattice, join}
use Rattle.lists.proofs.Laws.Range.{not_both}
use Rattle.dominance.proofs.Laws.Join.{join_right, join_same, join_strict}
use Rattle.fates.specs.Filter.{fate_of}
use Rattle.fates.specs.declared.Fate.{Fate}
use Rattle.fates.specs.declared.Fate.TheVariants.{Call, Discard, Block, Fork}

-- a fork goes to a present level strictly above the manager's
abbrev pub Rises : ℕ → Dominance → ℕ → Fate → Type 0
Rises n dom m Call = Unit
Rises n dom m Discard = Unit
Rises n dom m Block = Unit
Rises n dom m (Fork u) = (u < n) × (strictly dom u m ≡ true)

-- what runs a message dominates its object: the sender, the manager, the level that it is forked at
abbrev pub Covers : Dominance → ℕ → ℕ → ℕ → Fate → Type 0
Covers dom m l1 l2 Call = dom l1 l2 ≡ true
Covers dom m l1 l2 Discard = dom m l2 ≡ true
Covers dom m l1 l2 Block = Unit
Covers dom m l1 l2 (Fork u) = dom u l2 ≡ true

module _ (n : ℕ) (dom : Dominance) (sl : JoinSemilattice n dom) where
  rises : (m l2 : ℕ) → m < n → l2 < n → (a b c : Bool) → eqb (join n dom m l2) m ≡ c → Rises n dom m (cond a Call (cond b (cond c Discard (Fork (join n dom m l2))) Block))
  rises m l2 hm h2 true b c e = tt
  rises m l2 hm h2 false false c e = tt
  rises m l2 hm h2 false true true e = tt
  rises m l2 hm h2 false true false e =
      ((sl.least m l2 hm h2).present, join_strict n dom sl m l2 hm h2 (eqb-false (join n dom m l2) m e))

  pub fate_rises : (m l1 l2 : ℕ) → m < n → l2 < n → Rises n dom m (fate_of n dom m l1 l2)
  unfolding fate_of
  fate_rises m l1 l2 hm h2 = rises m l2 hm h2 (dom l1 l2) (dom l2 l1) (eqb (join n dom m l2) m) refl

  covers : (m l1 l2 : ℕ) → m < n → l2 < n → (a b c : Bool) → dom l1 l2 ≡ a → eqb (join n dom m l2) m ≡ c → Covers dom m l1 l2 (cond a Call (cond b (cond c Discard (Fork (join n dom m l2))) Block))
  covers m l1 l2 hm h2 true b c d e = d
  covers m l1 l2 hm h2 false false c d e = tt
  covers m l1 l2 hm h2 false true true d e = (join_same n dom sl m l2 hm h2).0 (eqb-true (join n dom m l2) m e)
  covers m l1 l2 hm h2 false true false d e = (sl.least m l2 hm h2).above_right

  pub fate_covers : (m l1 l2 : ℕ) → m < n → l2 < n → Covers dom m l1 l2 (fate_of n dom m l1 l2)
  unfolding fate_of
  fate_covers m l1 l2 hm h2 =
      covers m l1 l2 hm h2 (dom l1 l2) (dom l2 l1) (eqb (join n dom m l2) m) refl refl

-- what becomes of a message, case by case
module _ (n : ℕ) (dom : Dominance) (m l1 l2 : ℕ) where
  pub fate_called : dom l1 l2 ≡ true → Call ≡ fate_of n dom m l1 l2
  unfolding fate_of
  fate_called d = rw d refl

  module _ (d : dom l1 l2 ≡ false) where
    pub fate_blocked : dom l2 l1 ≡ false → Block ≡ fate_of n dom m l1 l2
    unfolding fate_of
    fate_blocked e = rw (d, e) refl

    module _ (e : dom l2 l1 ≡ true) (u : ℕ) (is : u ≡ join n dom m l2) where
      pub fate_discarded : u ≡ m → Discard ≡ fate_of n dom m l1 l2
      unfolding fate_of
      fate_discarded own = rw (d, e, sym is, eq-eqb u m own) refl

      pub fate_forked : (u ≡ m → ⊥) → Fork u ≡ fate_of n dom m l1 l2
      unfolding fate_of
      fate_forked apart = rw (d, e, sym is, ne_eqb u m apart) refl

-- a message upward from the manager's own level is forked at the receiver's
pub fate_own : (n : ℕ) (dom : Dominance) → PartialOrder n dom → (m l2 : ℕ) → l2 < n → dom m l2 ≡ false → dom l2 m ≡ true → fate_of n dom m m l2 ≡ Fork l2
unfolding fate_of
fate_own n dom po m l2 h d u =
    rw (d, u, join_right n dom po m l2 h u, ne_eqb l2 m (λ e. not_both (dom m l2) (rw e (rw e at u)) d))
