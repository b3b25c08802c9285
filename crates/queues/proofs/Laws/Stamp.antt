-- The fork stamp of a child, and a manager's interval of stamps, by a shift. Assumes nothing.
use Prim.Native.Nat.{ℕ, zero, suc, ◌+◌, ◌*◌, ◌-◌, ◌%◌, ◌^◌, ◌≤◌, ◌<◌}
use mathlib.Core.Path.{◌≡◌, refl, sym, ◌∙◌, ap}
use mathlib.Core.Bool.{Bool, true, false, not, ◌&&◌}
use native.Mathlib.Omega.{arith}
use native.Mathlib.Nat.{pow-succ', mod-eq_of_lt}
use native.Mathlib.Decide.{dec_le}
use borrow.Author.Tests.{lt-ltb, le-ltb, le-leb, lt-leb}
use lib.Dec.{ltb, leb}
use lib.Pow.{pow_mono, shl_exact}
use Rattle.scripts.specs.Limits.{max_forks}
use Rattle.model.specs.Limits.{stamp_digits}
use Rattle.model.specs.Fork.{Fork, child_stamp, span}
use Rattle.model.specs.Schedule.{holds_back}
use Rattle.model.proofs.Laws.Stamps.{span_positive, child_within}

-- k digits of 4 bits are 4 k bits
digits : (k : ℕ) → 2 ^ (4 * k) ≡ 16 ^ k
digits zero = refl
digits (suc k) =
    let e : 4 * suc k ≡ suc (suc (suc (suc (4 * k)))) = omega arith in
    let a = pow-succ' 2 (suc (suc (suc (4 * k)))) in
    let b = pow-succ' 2 (suc (suc (4 * k))) in
    let c = pow-succ' 2 (suc (4 * k)) in
    let d = pow-succ' 2 (4 * k) in
    rw (e, pow-succ' 16 k) (omega (arith, a, b, c, d, digits k))

module _ (stamp depth forks : ℕ) (h : depth ≤ stamp_digits) (f : forks < max_forks) (fits : stamp + 16 ^ (stamp_digits + 1 - depth) ≤ 2 ^ 32) where
  child : stamp + (forks + 1) * 2 ^ (4 * (stamp_digits - depth)) ≡ child_stamp stamp depth (forks + 1)
  child = ap (λ n. stamp + (forks + 1) * n) (digits (stamp_digits - depth))

  below : child_stamp stamp depth (forks + 1) < 2 ^ 32
  below = omega (arith, child_within stamp depth forks h f, fits, span_positive (depth + 1))

  whole : (forks + 1) * 2 ^ (4 * (stamp_digits - depth)) % 2 ^ 32 ≡ (forks + 1) * 2 ^ (4 * (stamp_digits - depth))
  whole = mod-eq_of_lt (omega (arith, child, below))

  pub child_fits : stamp + (forks + 1) * 2 ^ (4 * (stamp_digits - depth)) % 2 ^ 32 < 2 ^ 32
  child_fits = rw whole (omega (arith, child, below))

  pub child_is : stamp + (forks + 1) * 2 ^ (4 * (stamp_digits - depth)) % 2 ^ 32 ≡ child_stamp stamp depth (forks + 1)
  child_is = rw whole child

-- a shift gives how many stamps a manager d forks deep has: at most all
module _ (d : ℕ) where
  shifted : 1 * 2 ^ (4 * (stamp_digits + 1 - d)) % 2 ^ 64 ≡ span d
  shifted =
      let e : 1 * 2 ^ (4 * (stamp_digits + 1 - d)) ≡ 2 ^ (4 * (stamp_digits + 1 - d)) = omega arith in
      shl_exact 1 (4 * (stamp_digits + 1 - d)) 64 (omega arith) (omega arith) ∙ e ∙ digits (stamp_digits + 1 - d)

  few : span d ≤ 2 ^ 32
  few =
      let h : 4 * (stamp_digits + 1 - d) ≤ 32 = omega arith in
      rw (sym (digits (stamp_digits + 1 - d))) (pow_mono h)

  pub interval_fits : (stamp : ℕ) → stamp < 2 ^ 32 → stamp + 1 * 2 ^ (4 * (stamp_digits + 1 - d)) % 2 ^ 64 < 2 ^ 64
  interval_fits stamp h = rw shifted (omega (arith, h, few))

-- no test both holds and does not
none : (b : Bool) → (b && not (b && true)) ≡ false
none true = refl
none false = refl

-- y's manager holds back another where y's whole interval lies before
pub holds_whole : (y : Fork) (stamp : ℕ) → holds_back y stamp ≡ leb (y.stamp + span y.depth) stamp
holds_whole y stamp = elim (dec_le (y.stamp + span y.depth) stamp) [
  | yes h ↦
      rw (le-leb (y.stamp + span y.depth) stamp h, lt-ltb y.stamp stamp (omega (arith, h, span_positive y.depth)), le-ltb stamp (y.stamp + span y.depth) h) refl
  | no h ↦
      rw (lt-leb (y.stamp + span y.depth) stamp (omega (arith, h)), lt-ltb stamp (y.stamp + span y.depth) (omega (arith, h))) (none (ltb y.stamp stamp))
]

pub holds_is : (y : Fork) (stamp : ℕ) → holds_back y stamp ≡ leb (y.stamp + 1 * 2 ^ (4 * (stamp_digits + 1 - y.depth)) % 2 ^ 64) stamp
holds_is y stamp = rw (shifted y.depth) (holds_whole y stamp)
