-- Numbers that fit their columns are read back from them. Assumes nothing.
use Prim.Native.Nat.{ℕ, zero, suc, ◌+◌, ◌*◌, ◌-◌, ◌/◌, ◌%◌, ◌^◌, ◌≤◌, ◌<◌}
use mathlib.Core.Path.{◌≡◌, refl, ◌∙◌}
use mathlib.Core.Bool.{cond}
use mathlib.Core.List.{List, [], ◌∷◌, ◌++◌}
use native.Mathlib.Nat.{pow-suc, div-lt_iff_lt-mul}
use native.Mathlib.Omega.{arith}
use borrow.Author.Tests.{lt-ltb, le-ltb, ltb-true, ltb-false, ne_eqb}
use lib.Dec.{eqb, ltb, lit<}
use lib.ListN.{replicate}
use Rattle.lists.proofs.Laws.Lists.{holds, fails, truth}
use Rattle.text.specs.Text.{blank, digit_of, hex_in, aligned_in, aligned_from, read_aligned, digit_in, hex_from, read_hex}

-- the digits before the last are those of the number without its last digit
sixteenth : (n k : ℕ) → n < 16 ^ suc k → n / 16 < 16 ^ k
sixteenth n k h = (div-lt_iff_lt-mul {k = 16} {x = n} {y = 16 ^ k} (lit< tt)).1 (rw pow-suc at h)

tenth : (n k : ℕ) → n < 10 ^ suc k → n / 10 < 10 ^ k
tenth n k h = (div-lt_iff_lt-mul {k = 10} {x = n} {y = 10 ^ k} (lit< tt)).1 (rw pow-suc at h)

-- a digit
digit_read : (d : ℕ) → d < 16 → digit_in (digit_of d) ≡ d
digit_read d h = elim (truth (ltb d 10)) [
  | holds e ↦
      let low : d < 10 = ltb-true d 10 e in
      rw (e, lt-ltb (48 + d) 65 (omega (arith, low))) (omega arith)
  | fails e ↦
      let high : 10 ≤ d = ltb-false d 10 e in
      rw (e, le-ltb (55 + d) 65 (omega (arith, high))) (omega arith)
]

-- the last one is read last
hex_last : (cs : List ℕ) (n c : ℕ) → hex_from n (cs ++ (c ∷ [])) ≡ 16 * hex_from n cs + digit_in c
unfolding hex_from
hex_last [] n c = refl
hex_last (d ∷ cs) n c = hex_last cs (16 * n + digit_in d) c

pub hex_read : (places n : ℕ) → n < 16 ^ places → read_hex (hex_in places n) ≡ n
unfolding hex_in
hex_read zero n h = unfold hex_from in omega (arith, h)
hex_read (suc places) n h =
    hex_last (hex_in places (n / 16)) 0 (digit_of (n % 16))
    ∙ rw (hex_read places (n / 16) (sixteenth n places h), digit_read (n % 16) (omega arith)) (omega arith)

abbrev next : ℕ → ℕ → ℕ
next n c = cond (eqb c blank) n (10 * n + (c - 48))

aligned_last : (cs : List ℕ) (n c : ℕ) → aligned_from n (cs ++ (c ∷ [])) ≡ next (aligned_from n cs) c
unfolding aligned_from
aligned_last [] n c = refl
aligned_last (d ∷ cs) n c = aligned_last cs (next n d) c

-- blanks are passed over
blanks_read : (k n : ℕ) → aligned_from n (replicate k blank) ≡ n
unfolding aligned_from
blanks_read zero n = refl
blanks_read (suc k) n = blanks_read k n

next_digit : (n d : ℕ) → d < 10 → next n (digit_of d) ≡ 10 * n + d
next_digit n d h = rw (lt-ltb d 10 h, ne_eqb (48 + d) blank (λ e. omega (arith, e))) (omega arith)

pub aligned_read : (columns n : ℕ) → n < 10 ^ columns → read_aligned (aligned_in columns n) ≡ n
unfolding aligned_in
aligned_read zero n h = unfold aligned_from in omega (arith, h)
aligned_read (suc columns) n h = elim (truth (ltb n 10)) [
  | holds e ↦
      let low : n < 10 = ltb-true n 10 e in
      rw e (aligned_last (replicate columns blank) 0 (digit_of (n % 10))
      ∙ next_digit (aligned_from 0 (replicate columns blank)) (n % 10) (omega arith)
      ∙ rw (blanks_read columns 0) (omega (arith, low)))
  | fails e ↦
      rw e (aligned_last (aligned_in columns (n / 10)) 0 (digit_of (n % 10))
      ∙ next_digit (aligned_from 0 (aligned_in columns (n / 10))) (n % 10) (omega arith)
      ∙ rw (aligned_read columns (n / 10) (tenth n columns h)) (omega arith))
]
