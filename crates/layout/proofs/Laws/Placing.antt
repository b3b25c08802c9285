-- More placed behind what was, and one character more behind hexadecimal digits and decimals. Assumes nothing.
use Prim.Native.Nat.{ℕ, zero, suc, ◌+◌, ◌-◌, ◌/◌, ◌%◌, ◌≤◌, ◌<◌}
use mathlib.Core.Path.{◌≡◌, refl}
use mathlib.Core.List.{List, [], ◌∷◌, ◌++◌}
use native.Mathlib.Omega.{arith}
use mathlib.Core.Bool.{cond}
use borrow.Author.Tests.{lt-ltb, le-ltb, ltb-false}
use lib.Dec.{ltb}
use Rattle.lists.proofs.Laws.Lists.{holds, fails, truth}
use lib.ListN.{length, replicate}
use Rattle.lists.specs.Placed.{Placed}
use Rattle.lists.proofs.Laws.Placed.{placed_none, placed_then}
use Rattle.text.specs.Text.{blank, digit_of, hex_in, aligned_in}

-- a digit, in upper case
pub upper_digit : (n : ℕ) → cond (ltb n 10) (48 + n) (65 + (n - 10)) ≡ digit_of n
upper_digit n = elim (truth (ltb n 10)) [
  | holds e ↦ rw e
  | fails e ↦ rw e (omega (arith, ltb-false n 10 e))
]

-- more placed behind what was
pub placed_next : {b b' b'' bytes more : List ℕ} {at m n : ℕ} → Placed bytes at b b' m → Placed more m b' b'' n → Placed (bytes ++ more) at b b'' n
placed_next {b} {b'} {b''} {bytes} {more} {at} {m} {n} p q = placed_then b b' bytes at m p b'' more n q

module _ (at m n : ℕ) (b b' b'' : List ℕ) where
  -- one digit more
  pub hex_more : (places x : ℕ) → (places ≡ 0 → ⊥) → Placed (hex_in (places - 1) (x / 16)) at b b' m → Placed (digit_of (x % 16) ∷ []) m b' b'' n
      → Placed (hex_in places x) at b b'' n
  unfolding hex_in
  hex_more zero x h p q = absurd (h refl)
  hex_more (suc places) x h p q =
      let e : suc places - 1 ≡ places = omega arith in
      placed_then b b' (hex_in places (x / 16)) at m (rw e at p) b'' (digit_of (x % 16) ∷ []) n q

  pub aligned_few : (columns x : ℕ) → (columns ≡ 0 → ⊥) → x < 10 → Placed (replicate (columns - 1) blank) at b b' m → Placed (digit_of x ∷ []) m b' b'' n
      → Placed (aligned_in columns x) at b b'' n
  unfolding aligned_in
  aligned_few zero x h l p q = absurd (h refl)
  aligned_few (suc columns) x h l p q =
      let e : suc columns - 1 ≡ columns = omega arith in
      let same : x % 10 ≡ x = omega (arith, l) in
      rw (lt-ltb x 10 l, same) (placed_then b b' (replicate columns blank) at m (rw e at p) b'' (digit_of x ∷ []) n q)

  pub aligned_more : (columns x : ℕ) → (columns ≡ 0 → ⊥) → 10 ≤ x → Placed (aligned_in (columns - 1) (x / 10)) at b b' m → Placed (digit_of (x % 10) ∷ []) m b' b'' n
      → Placed (aligned_in columns x) at b b'' n
  unfolding aligned_in
  aligned_more zero x h l p q = absurd (h refl)
  aligned_more (suc columns) x h l p q =
      let e : suc columns - 1 ≡ columns = omega arith in
      rw (le-ltb x 10 l) (placed_then b b' (aligned_in columns (x / 10)) at m (rw e at p) b'' (digit_of (x % 10) ∷ []) n q)

-- no digits
pub hex_none : (places x at : ℕ) (b : List ℕ) → places ≡ 0 → at ≤ length b → Placed (hex_in places x) at b b at
unfolding hex_in
hex_none zero x at b e h = placed_none at b h
hex_none (suc places) x at b e h = absurd (omega arith)

pub aligned_none : (columns x at : ℕ) (b : List ℕ) → columns ≡ 0 → at ≤ length b → Placed (aligned_in columns x) at b b at
unfolding aligned_in
aligned_none zero x at b e h = placed_none at b h
aligned_none (suc columns) x at b e h = absurd (omega arith)
