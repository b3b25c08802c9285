-- The tree of fork stamps, by intervals: a manager's descendants lie in its own interval, each child in a part of its own. Assumes nothing.
use Prim.Native.Nat.{ℕ, suc, ◌+◌, ◌*◌, ◌-◌, ◌^◌, ◌≤◌, ◌<◌}
use mathlib.Core.Path.{◌≡◌, refl, ◌∙◌, ap}
use mathlib.Core.Bool.{Bool, true, false, not, ◌&&◌}
use native.Mathlib.Decide.{dec_lt}
use native.Mathlib.Nat.{pow-succ', suc-mul, one-le-pow, mul-le-mul_right}
use native.Mathlib.Omega.{arith}
use borrow.Author.Tests.{lt-ltb, le-ltb}
use lib.Dec.{ltb}
use Rattle.lists.proofs.Laws.Range.{not_both}
use Rattle.scripts.specs.Limits.{max_forks}
use Rattle.model.specs.Limits.{stamp_digits}
use Rattle.model.specs.Fork.{Fork, child_stamp, span}
use Rattle.model.specs.Schedule.{holds_back}

pub span_positive : (d : ℕ) → 0 < span d
span_positive d = one-le-pow (stamp_digits + 1 - d) 16 (omega arith)

-- sixteen parts, one for itself and one for each child
pub span_parts : (d : ℕ) → d ≤ stamp_digits → span d ≡ 16 * span (d + 1)
span_parts d h =
    let e : stamp_digits + 1 - d ≡ suc (stamp_digits + 1 - (d + 1)) = omega arith in
    ap (λ k. 16 ^ k) e ∙ pow-succ' 16 (stamp_digits + 1 - (d + 1))

pub child_at : (s d k : ℕ) → child_stamp s d k ≡ s + k * span (d + 1)
child_at s d k =
    let e : stamp_digits - d ≡ stamp_digits + 1 - (d + 1) = omega arith in
    ap (λ j. s + k * 16 ^ j) e

-- each child lies one part after the last
pub child_next : (s d k : ℕ) → child_stamp s d (k + 1) ≡ child_stamp s d k + span (d + 1)
child_next s d k =
    let e : suc k ≡ k + 1 = omega arith in
    let m : (k + 1) * span (d + 1) ≡ k * span (d + 1) + span (d + 1) = rw e at (suc-mul k (span (d + 1))) in
    rw (child_at s d (k + 1), child_at s d k, m) (omega arith)

-- all children lie within
pub child_within : (s d k : ℕ) → d ≤ stamp_digits → k < max_forks → child_stamp s d (k + 1) + span (d + 1) ≤ s + span d
child_within s d k h l =
    let part : (k + 1) * span (d + 1) ≤ max_forks * span (d + 1) = mul-le-mul_right (span (d + 1)) (omega arith) in
    rw (child_at s d (k + 1), span_parts d h) (omega (arith, part))

pub child_after : (s d k : ℕ) → s < child_stamp s d (k + 1)
child_after s d k =
    let part : 1 * span (d + 1) ≤ (k + 1) * span (d + 1) = mul-le-mul_right (span (d + 1)) (omega arith) in
    rw (child_at s d (k + 1)) (omega (arith, part, span_positive (d + 1)))

-- a manager holds back none whose stamp lies before the end of its interval, and every one behind
free_by : (a b : Bool) → b ≡ true → not (a && not (a && b)) ≡ true
free_by true b e = rw e refl
free_by false b e = refl

pub within_free : (y : Fork) (s : ℕ) → s < y.stamp + span y.depth → not (holds_back y s) ≡ true
within_free y s h = free_by (ltb y.stamp s) (ltb s (y.stamp + span y.depth)) (lt-ltb s (y.stamp + span y.depth) h)

pub behind_held : (y : Fork) (s : ℕ) → y.stamp + span y.depth ≤ s → holds_back y s ≡ true
behind_held y s h =
    rw (lt-ltb y.stamp s (omega (arith, h, span_positive y.depth)), le-ltb s (y.stamp + span y.depth) h) refl

pub free_within : (y : Fork) (s : ℕ) → not (holds_back y s) ≡ true → s < y.stamp + span y.depth
free_within y s e = elim (dec_lt s (y.stamp + span y.depth)) [
  | yes h ↦ h
  | no n ↦ absurd (not_both (not (holds_back y s)) e (rw (behind_held y s (omega (arith, n))) refl))
]
