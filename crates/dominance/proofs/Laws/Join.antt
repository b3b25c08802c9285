-- Laws of the join, for any number of levels and any dominance test. Assumes nothing.
use Prim.Native.Nat.{ℕ, ◌≤◌, ◌<◌}
use mathlib.Core.Path.{◌≡◌, ◌∙◌, ap, ap₂, fun_ext}
use mathlib.Core.Bool.{true, false, not, ◌&&◌, and_comm}
use mathlib.Core.Logic.{◌↔◌}
use native.Mathlib.Decide.{dec_lt}
use native.Mathlib.Omega.{arith}
use borrow.Author.Tests.{ltb-true, lt-ltb, le-ltb, ne_eqb}
use lib.Dec.{eqb, ltb}
use Rattle.lists.specs.Range.{implies, all, first}
use Rattle.dominance.specs.Order.{Dominance, strictly, is_order, PartialOrder}
use Rattle.dominance.specs.Join.{is_upper, is_least, join, has_joins, LeastUpper, Unjoined, JoinSemilattice}
use Rattle.lists.proofs.Laws.Range.{and_left, and_right, and_both, and_fails_left, and_fails_right, implies_then, implies_when, not_both, all_each, all-every, all_fails, all_refuted, first_le, first_passes, first_found}
use Rattle.dominance.proofs.Laws.Order.{order}

module _ (n : ℕ) (dom : Dominance) where
  -- the test and what it says
  pub least_upper : (a b u : ℕ) → u < n → is_least n dom a b u ≡ true → LeastUpper n dom a b u
  unfolding is_least
  least_upper a b u h e =
      let up = and_left (is_upper dom a b u) (all n (λ v. implies (is_upper dom a b v) (dom v u))) e in
      let low = and_right (is_upper dom a b u) (all n (λ v. implies (is_upper dom a b v) (dom v u))) e in
      record {
        present = h;
        above_left = and_left (dom u a) (dom u b) up;
        above_right = and_right (dom u a) (dom u b) up;
        least = λ v l p q. implies_then (is_upper dom a b v) (dom v u) (all_each n _ low v l) (and_both (dom v a) (dom v b) p q);
      }

  pub is_least_lem : (a b u : ℕ) → LeastUpper n dom a b u → is_least n dom a b u ≡ true
  unfolding is_least
  is_least_lem a b u lu =
      and_both _ _ (and_both (dom u a) (dom u b) lu.above_left lu.above_right)
      (all-every n _ λ v l. implies_when (is_upper dom a b v) (dom v u)
      λ t. lu.least v l (and_left (dom v a) (dom v b) t) (and_right (dom v a) (dom v b) t))

  -- a level below n that is found is the least upper bound; where there is one, it is found
  pub join_least : (a b : ℕ) → join n dom a b < n → LeastUpper n dom a b (join n dom a b)
  unfolding join
  join_least a b h = least_upper a b (first n (is_least n dom a b)) h (first_passes n (is_least n dom a b) h)

  pub join_found : (a b u : ℕ) → LeastUpper n dom a b u → join n dom a b < n
  unfolding join
  join_found a b u lu = first_found n (is_least n dom a b) u lu.present (is_least_lem a b u lu)

  -- `is_least`, made by a branch on the upper bound and a loop over the levels
  pub least_no_upper : (a b u : ℕ) → is_upper dom a b u ≡ false → is_least n dom a b u ≡ false
  unfolding is_least
  least_no_upper a b u e = and_fails_left (is_upper dom a b u) _ e

  pub least_undercut : (a b u : ℕ) → all n (λ v. implies (is_upper dom a b v) (dom v u)) ≡ false → is_least n dom a b u ≡ false
  unfolding is_least
  least_undercut a b u e = and_fails_right (is_upper dom a b u) _ e

  pub least_every : (a b u : ℕ) → is_upper dom a b u ≡ true → all n (λ v. implies (is_upper dom a b v) (dom v u)) ≡ true → is_least n dom a b u ≡ true
  unfolding is_least
  least_every a b u e f = and_both (is_upper dom a b u) _ e f

  -- `join`, made by a search from level 0 up
  pub join_le : (a b : ℕ) → join n dom a b ≤ n
  unfolding join
  join_le a b = first_le n (is_least n dom a b)

  -- the join of any test commutes
  least_comm : (a b u : ℕ) → is_least n dom a b u ≡ is_least n dom b a u
  unfolding is_least
  least_comm a b u =
      ap₂ ◌&&◌ (and_comm (dom u a) (dom u b))
      (ap (all n) (fun_ext λ v. ap (λ t. implies t (dom v u)) (and_comm (dom v a) (dom v b))))

  pub join_comm : (a b : ℕ) → join n dom a b ≡ join n dom b a
  unfolding join
  join_comm a b = ap (first n) (fun_ext (least_comm a b))

  -- question 5 says yes exactly where each pair has a least upper bound
  pub joined : has_joins n dom ≡ true → (a b : ℕ) → a < n → b < n → join n dom a b < n
  unfolding has_joins
  joined e a b ha hb =
      ltb-true (join n dom a b) n (all_each n _ (all_each n (λ a. all n (λ b. ltb (join n dom a b) n)) e a ha) b hb)

  pub all-joined : ((a b : ℕ) → a < n → b < n → (u : ℕ) × LeastUpper n dom a b u) → has_joins n dom ≡ true
  unfolding has_joins
  all-joined f =
      all-every n _ λ a ha. all-every n _ λ b hb.
      let (u, lu) = f a b ha hb in lt-ltb (join n dom a b) n (join_found a b u lu)

  pub unjoined : has_joins n dom ≡ false → Unjoined n dom
  unfolding has_joins
  unjoined e =
      let a = all_refuted n (λ a. all n (λ b. ltb (join n dom a b) n)) e in
      let b = all_refuted n (λ b. ltb (join n dom a.at b) n) a.refuted_at in
      record {
        left = a.at;
        right = b.at;
        left_present = a.below;
        right_present = b.below;
        none = λ u lu. not_both _ (lt-ltb (join n dom a.at b.at) n (join_found a.at b.at u lu)) b.refuted_at;
      }

  pub not_joined : (a b : ℕ) → a < n → b < n → join n dom a b ≡ n → has_joins n dom ≡ false
  unfolding has_joins
  not_joined a b ha hb e = all_fails n _ a ha (all_fails n _ b hb (le-ltb (join n dom a b) n (omega arith)))

  -- a table that passes 4 and 5 is a join semilattice
  pub semilattice : is_order n dom ≡ true → has_joins n dom ≡ true → JoinSemilattice n dom
  semilattice o j =
      record { order = order n dom o; least = λ a b ha hb. join_least a b (joined j a b ha hb) }

  -- in a partial order a least upper bound is unique, so the join is any that there is
  module _ (po : PartialOrder n dom) where
    pub unique : (a b u v : ℕ) → LeastUpper n dom a b u → LeastUpper n dom a b v → u ≡ v
    unique a b u v lu lv =
        po.same u v lu.present lv.present
        (lv.least u lu.present lu.above_left lu.above_right)
        (lu.least v lv.present lv.above_left lv.above_right)

    pub join_is : (a b u : ℕ) → LeastUpper n dom a b u → join n dom a b ≡ u
    join_is a b u lu = unique a b (join n dom a b) u (join_least a b (join_found a b u lu)) lu

    -- of two levels one of which dominates the other, the join is the upper one
    pub join_left : (a b : ℕ) → a < n → dom a b ≡ true → join n dom a b ≡ a
    join_left a b h e =
        join_is a b a (record { present = h; above_left = po.itself a h; above_right = e; least = λ v l p q. p })

    pub join_right : (a b : ℕ) → b < n → dom b a ≡ true → join n dom a b ≡ b
    join_right a b h e = join_comm a b ∙ join_left b a h e

    -- so question 5 is answered by the pairs of a level and a lower-numbered one
    pub joined_pairs : ((a : ℕ) → a < n → (b : ℕ) → b < a → join n dom a b ≡ n → ⊥) → has_joins n dom ≡ true
    unfolding has_joins
    joined_pairs f =
        all-every n _ λ a ha. all-every n _ λ b hb. lt-ltb (join n dom a b) n (pair a b ha hb (dec_lt b a) (dec_lt a b))
      where
        pair : (a b : ℕ) → a < n → b < n → Dec (b < a) → Dec (a < b) → join n dom a b < n
        pair a b ha hb (yes l) d = omega (arith, join_le a b, f a ha b l)
        pair a b ha hb (no l) (yes g) = rw (join_comm a b) (omega (arith, join_le b a, f b hb a g))
        pair a b ha hb (no l) (no g) =
            let e : b ≡ a = omega arith in
            rw e (rw (join_left a a ha (po.itself a ha)) ha)

  module _ (sl : JoinSemilattice n dom) (m l : ℕ) (hm : m < n) (hl : l < n) where
    -- the join of m and l is m exactly when m dominates l
    pub join_same : (join n dom m l ≡ m) ↔ (dom m l ≡ true)
    join_same = (λ e. rw e at (sl.least m l hm hl).above_right, join_left sl.order m l hm)

    -- a join that is not m lies strictly above m
    pub join_strict : (join n dom m l ≡ m → ⊥) → strictly dom (join n dom m l) m ≡ true
    join_strict ne =
        and_both (dom (join n dom m l) m) (not (eqb (join n dom m l) m)) (sl.least m l hm hl).above_left
        (rw (ne_eqb (join n dom m l) m ne))

    -- a level dominates the join exactly when it dominates both
    pub join-below : (c : ℕ) → c < n → (dom c (join n dom m l) ≡ true) ↔ ((dom c m ≡ true) × (dom c l ≡ true))
    join-below c hc = (
      λ e. (
        sl.order.through c (join n dom m l) m hc (sl.least m l hm hl).present hm e (sl.least m l hm hl).above_left,
        sl.order.through c (join n dom m l) l hc (sl.least m l hm hl).present hl e (sl.least m l hm hl).above_right,
      ),
      λ p. (sl.least m l hm hl).least c hc p.0 p.1,
    )
