-- How two managers that have not ended stand to each other: their intervals of stamps are disjoint, or one is the other's ancestor. A fork
-- keeps this. Assumes nothing.
use Prim.Native.Nat.{ℕ, ◌+◌, ◌≤◌, ◌<◌}
use mathlib.Core.Path.{◌≡◌, refl, sym}
use mathlib.Core.Bool.{true, not}
use mathlib.Core.List.{List}
use native.Mathlib.Omega.{arith}
use borrow.Author.Tests.{ne_eqb, eqb-false, not-true}
use lib.Dec.{eqb}
use lib.ListN.{length, get_or, set}
use lib.Seq.{get_or-set_same, get_or-set_other}
use Rattle.dominance.specs.Order.{Dominance, strictly, PartialOrder}
use Rattle.lists.proofs.Laws.Range.{and_left, and_right, and_both}
use Rattle.model.specs.Fork.{span}
use Rattle.model.proofs.Laws.Stamps.{span_positive}

-- a manager that waits or runs: its level, its fork stamp and depth, the stamp of its next child, and the write stamps that it carries
pub record Entry : Type 0 where
  pub level : ℕ
  pub stamp : ℕ
  pub depth : ℕ
  pub next : ℕ
  pub carried : List ℕ

-- the end of its interval of stamps
abbrev pub up_to : Entry → ℕ
up_to a = a.stamp + span a.depth

-- a is an ancestor of b: it lies strictly below, b's interval lies in its own and before its next child, and b carries a write stamp for its level
pub record Ancestor (dom : Dominance) (a b : Entry) : Type 0 where
  pub below : strictly dom b.level a.level ≡ true
  pub before : a.stamp < b.stamp
  pub within : up_to b ≤ a.next
  pub inside : up_to b ≤ up_to a
  pub carries : get_or b.carried a.level 0 ≡ 0 → ⊥

pub data Related (dom : Dominance) (a b : Entry) : Type 0 where
  left : up_to a ≤ b.stamp → Related dom a b
  right : up_to b ≤ a.stamp → Related dom a b
  over : Ancestor dom a b → Related dom a b
  under : Ancestor dom b a → Related dom a b

pub related_sym : {dom : Dominance} {a b : Entry} → Related dom a b → Related dom b a
related_sym (left h) = right h
related_sym (right h) = left h
related_sym (over h) = under h
related_sym (under h) = over h

-- the manager after it gave its next child, and the child, at level u, that carries the write stamp w for it
abbrev pub forked_from : Entry → Entry
forked_from a =
    record { level = a.level; stamp = a.stamp; depth = a.depth; next = a.next + span (a.depth + 1); carried = a.carried }

abbrev pub child_in : ℕ → ℕ → Entry → Entry
child_in u w a =
    record { level = u; stamp = a.next; depth = a.depth + 1; next = a.next + span (a.depth + 2); carried = set a.carried a.level w }

-- it has room for a child
pub record Fertile (a : Entry) : Type 0 where
  pub after : a.stamp < a.next
  pub room : a.next + span (a.depth + 1) ≤ up_to a
  pub wide : a.level < length a.carried

-- a level strictly below is another
strictly_apart : (dom : Dominance) (i j : ℕ) → strictly dom i j ≡ true → i ≡ j → ⊥
strictly_apart dom i j s = eqb-false i j (not-true (eqb i j) (and_right (dom i j) (not (eqb i j)) s))

module _ (n : ℕ) (dom : Dominance) (po : PartialOrder n dom) where
  pub strictly_over : (i j k : ℕ) → i < n → j < n → k < n → dom i j ≡ true → strictly dom j k ≡ true → strictly dom i k ≡ true
  strictly_over i j k hi hj hk ij b =
      let jk = and_left (dom j k) (not (eqb j k)) b in
      and_both (dom i k) (not (eqb i k)) (po.through i j k hi hj hk ij jk)
      (rw (ne_eqb i k λ e. strictly_apart dom j k b (po.same j k hj hk jk (rw e at ij))) refl)

  pub strictly_through : (i j k : ℕ) → i < n → j < n → k < n → strictly dom i j ≡ true → strictly dom j k ≡ true → strictly dom i k ≡ true
  strictly_through i j k hi hj hk a b = strictly_over i j k hi hj hk (and_left (dom i j) (not (eqb i j)) a) b

  -- the child is related to all that its parent is related to
  pub child_related : (u w : ℕ) (a b : Entry) → u < n → a.level < n → b.level < n → strictly dom u a.level ≡ true → Fertile a → Related dom a b → Related dom (child_in u w a) b
  child_related u w a b hu ha hb s f (left h) = left (omega (arith, f.room))
  child_related u w a b hu ha hb s f (right h) = right (omega (arith, f.after))
  child_related u w a b hu ha hb s f (over h) = right h.within
  child_related u w a b hu ha hb s f (under h) =
      under (record {
        below = strictly_through u a.level b.level hu ha hb s h.below;
        before = omega (arith, h.before, f.after);
        within = omega (arith, h.within, f.room);
        inside = omega (arith, h.inside, f.room);
        carries = rw (get_or-set_other a.carried a.level b.level w 0 (λ q. strictly_apart dom a.level b.level h.below (sym q))) h.carries;
      })

-- so is the parent after the fork
pub parent_related : (dom : Dominance) (a b : Entry) → Related dom a b → Related dom (forked_from a) b
parent_related dom a b (left h) = left h
parent_related dom a b (right h) = right h
parent_related dom a b (over h) =
    over (record { below = h.below; before = h.before; within = omega (arith, h.within); inside = h.inside; carries = h.carries })
parent_related dom a b (under h) =
    under (record { below = h.below; before = h.before; within = h.within; inside = h.inside; carries = h.carries })

-- and the two are related
pub parent_child : (dom : Dominance) (u w : ℕ) (a : Entry) → strictly dom u a.level ≡ true → Fertile a → 0 < w → Related dom (forked_from a) (child_in u w a)
parent_child dom u w a s f h =
    over (record {
      below = s;
      before = f.after;
      within = omega arith;
      inside = f.room;
      carries = λ q. omega (arith, h, get_or-set_same a.carried a.level w 0 f.wide, q);
    })

-- children of two managers have different stamps
pub children_apart : (dom : Dominance) (a b : Entry) → Fertile a → Fertile b → Related dom a b → a.next ≡ b.next → ⊥
children_apart dom a b f h (left r) q = omega (arith, f.room, h.after, span_positive (a.depth + 1))
children_apart dom a b f h (right r) q = omega (arith, h.room, f.after, span_positive (b.depth + 1))
children_apart dom a b f h (over r) q = omega (arith, h.room, r.within, span_positive (b.depth + 1))
children_apart dom a b f h (under r) q = omega (arith, f.room, r.within, span_positive (a.depth + 1))
