-- Laws of the meet, for any number of levels and any dominance test. Assumes nothing.
use Prim.Native.Nat.{ℕ, zero, suc, ◌-◌, ◌≤◌, ◌<◌}
use mathlib.Core.Path.{◌≡◌, refl}
use mathlib.Core.Bool.{Bool, true, false, false≢true}
use native.Mathlib.Decide.{dec_lt}
use native.Mathlib.Omega.{arith}
use borrow.Author.Tests.{ltb-true, lt-ltb, le-ltb}
use Rattle.lists.specs.Range.{all, first}
use Rattle.dominance.specs.Order.{Dominance, is_order, PartialOrder}
use Rattle.dominance.specs.Join.{join, has_joins, JoinSemilattice}
use Rattle.dominance.specs.Meet.{reversed, meet, has_meets, GreatestLower, is_lowest, has_lowest, Lattice}
use Rattle.lists.proofs.Laws.Range.{refuted, not_both, all_each, all-every, first_passes, first_found, first_none}
use Rattle.dominance.proofs.Laws.Join.{joined, all-joined, join_least, join-below, semilattice}

-- the reversed test is a partial order where the test is
pub reversed_order : (n : ℕ) (dom : Dominance) → PartialOrder n dom → PartialOrder n (reversed dom)
reversed_order n dom po =
    record {
      itself = po.itself;
      same = λ i j hi hj p q. po.same i j hi hj q p;
      through = λ i j k hi hj hk p q. po.through k j i hk hj hi q p;
    }

-- the search for a lowest level, and no levels
pub lowest_found : (n : ℕ) (dom : Dominance) (l : ℕ) → l < n → is_lowest n dom l ≡ true → has_lowest n dom ≡ true
unfolding has_lowest
lowest_found n dom l h e = lt-ltb (first n (is_lowest n dom)) n (first_found n (is_lowest n dom) l h e)

pub lowest_none : (n : ℕ) (dom : Dominance) → ((l : ℕ) → l < n → is_lowest n dom l ≡ false) → has_lowest n dom ≡ false
unfolding has_lowest
lowest_none n dom f = rw (first_none n (is_lowest n dom) f) (le-ltb n n (omega arith))

pub met_none : (dom : Dominance) → has_meets 0 dom ≡ true
unfolding has_joins all
met_none dom = refl

-- two tests both pass, or not
data Lower (p q : Bool) : Type 0 where
  both : p ≡ true → q ≡ true → Lower p q
  not_both_of : (p ≡ true → q ≡ true → ⊥) → Lower p q

dec_lower : (p q : Bool) → Lower p q
dec_lower true true = both refl refl
dec_lower true false = not_both_of (λ e f. false≢true f)
dec_lower false q = not_both_of (λ e f. false≢true e)

-- a lower bound of a and b that dominates all those below k
record Under (n : ℕ) (dom : Dominance) (a b k : ℕ) : Type 0 where
  level : ℕ
  present : level < n
  left : dom a level ≡ true
  right : dom b level ≡ true
  over : (v : ℕ) → v < k → dom a v ≡ true → dom b v ≡ true → dom level v ≡ true

-- a level that all below k dominate
record Low (n : ℕ) (dom : Dominance) (k : ℕ) : Type 0 where
  level : ℕ
  present : level < n
  under : (i : ℕ) → i < k → dom i level ≡ true

module _ (n : ℕ) (dom : Dominance) (sl : JoinSemilattice n dom) where
  -- with a lowest level every pair has lower bounds, and the join of these is one too
  module _ (l : ℕ) (hl : l < n) (low : is_lowest n dom l ≡ true) (a b : ℕ) (ha : a < n) (hb : b < n) where
    none_over : Under n dom a b 0
    unfolding is_lowest
    none_over =
        record {
          level = l;
          present = hl;
          left = all_each n (λ i. dom i l) low a ha;
          right = all_each n (λ i. dom i l) low b hb;
          over = λ v h. absurd (omega arith);
        }

    one_over : (k : ℕ) → k < n → Under n dom a b k → Under n dom a b (suc k)
    one_over k hk u = go (dec_lower (dom a k) (dom b k))
      where
        level_joined : ℕ
        level_joined = join n dom u.level k

        below : (c : ℕ) → c < n → dom c u.level ≡ true → dom c k ≡ true → dom c level_joined ≡ true
        below c hc p q = (join-below n dom sl u.level k u.present hk c hc).1 (p, q)

        over : (v : ℕ) → v < suc k → dom a v ≡ true → dom b v ≡ true → dom level_joined v ≡ true
        over v h p q = elim (dec_lt v k) [
          | yes g ↦
              sl.order.through level_joined u.level v (sl.least u.level k u.present hk).present u.present (omega arith)
              (sl.least u.level k u.present hk).above_left (u.over v g p q)
          | no g ↦ let z : v ≡ k = omega arith in rw z (sl.least u.level k u.present hk).above_right
        ]

        go : Lower (dom a k) (dom b k) → Under n dom a b (suc k)
        go (both p q) =
            record {
              level = level_joined;
              present = (sl.least u.level k u.present hk).present;
              left = below a ha u.left p;
              right = below b hb u.right q;
              over = over;
            }
        go (not_both_of f) =
            record {
              level = u.level;
              present = u.present;
              left = u.left;
              right = u.right;
              over = λ v h p q. elim (dec_lt v k) [
                | yes g ↦ u.over v g p q
                | no g ↦ let z : v ≡ k = omega arith in absurd (f (rw z at p) (rw z at q))
              ];
            }

    all_over : (k : ℕ) → k ≤ n → Under n dom a b k
    all_over zero h = none_over
    all_over (suc k) h = one_over k (omega arith) (all_over k (omega arith))

    greatest : (u : ℕ) × GreatestLower n dom a b u
    greatest =
        let u = all_over n (omega arith) in (
          u.level,
          record { present = u.present; above_left = u.left; above_right = u.right; least = u.over },
        )

  -- the meet of all levels is dominated by all
  module _ (m : has_meets n dom ≡ true) where
    lower : (l k : ℕ) → l < n → k < n → GreatestLower n dom l k (meet n dom l k)
    lower l k hl hk = join_least n (reversed dom) l k (joined n (reversed dom) m l k hl hk)

    low_to : (k : ℕ) → k < n → Low n dom (suc k)
    low_to zero h =
        record {
          level = zero;
          present = h;
          under = λ i g. let z : i ≡ zero = omega arith in rw z (sl.order.itself zero h);
        }
    low_to (suc k) h =
        let w = low_to k (omega arith) in
        let u = lower w.level (suc k) w.present h in
        record {
          level = meet n dom w.level (suc k);
          present = u.present;
          under = λ i g. elim (dec_lt i (suc k)) [
            | yes l ↦ sl.order.through i w.level _ (omega arith) w.present u.present (w.under i l) u.above_left
            | no l ↦ let z : i ≡ suc k = omega arith in rw z u.above_right
          ];
        }

  lowest_meets : has_lowest n dom ≡ true → has_meets n dom ≡ true
  unfolding has_lowest
  lowest_meets e =
      let h = ltb-true (first n (is_lowest n dom)) n e in
      all-joined n (reversed dom) (greatest (first n (is_lowest n dom)) h (first_passes n (is_lowest n dom) h))

  meets_lowest : (k : ℕ) → suc k ≡ n → has_meets n dom ≡ true → has_lowest n dom ≡ true
  unfolding is_lowest
  meets_lowest k z m =
      let w = low_to m k (omega arith) in
      lowest_found n dom w.level w.present (all-every n (λ i. dom i w.level) (λ i h. w.under i (omega arith)))

  -- where there is a level, question 17 says yes exactly where some level is dominated by all
  pub meets_by_lowest : 0 < n → has_meets n dom ≡ has_lowest n dom
  meets_by_lowest h = go (has_lowest n dom) refl
    where
      go : (b : Bool) → has_lowest n dom ≡ b → has_meets n dom ≡ b
      go true e = lowest_meets e
      go false e = refuted (has_meets n dom) (λ m. not_both (has_lowest n dom) (meets_lowest (n - 1) (omega arith) m) e)

-- what passes 4, 5 and 17 is a lattice
pub lattice : (n : ℕ) (dom : Dominance) → is_order n dom ≡ true → has_joins n dom ≡ true → has_meets n dom ≡ true → Lattice n dom
lattice n dom o j m =
    let sl = semilattice n dom o j in
    record {
      joins = sl;
      meets = record { order = reversed_order n dom sl.order; least = λ a b ha hb. join_least n (reversed dom) a b (joined n (reversed dom) m a b ha hb) };
    }
