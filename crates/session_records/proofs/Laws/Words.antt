-- Laws of a record's two words: chosen bytes are 0 exactly where the words are, and masks make the other bytes 0. Assumes nothing.
use Prim.Native.Nat.{ℕ, zero, suc, ◌+◌, ◌*◌, ◌^◌, ◌≤◌, ◌<◌}
use mathlib.Core.Path.{◌≡◌, refl, sym, ◌∙◌, ap, ap₂}
use mathlib.Core.Bool.{Bool, true, cond, ◌&&◌}
use mathlib.Core.List.{List}
use native.Mathlib.Omega.{arith}
use native.Mathlib.Nat.{mod-eq_of_lt}
use native.Mathlib.Decide.{dec_lt}
use borrow.Author.Tests.{eqb-true, eq-eqb, ne_eqb}
use lib.Dec.{eqb}
use Rattle.std.specs.Int.{w32, w64, from_le_bytes}
use Rattle.std.proofs.Math.Nat.{add-zero}
use lib.Bits.{bit_and, and_block, and_mask, and_zero_r}
use lib.ListN.{length, get_or, get_or-replicate, length-take, get_or-eq_default}
use Rattle.lists.specs.Range.{implies}
use Rattle.lists.proofs.Laws.Range.{refuted, not_both, and_left, and_right, and_both, implies_then, implies_when, all_each, all-every}
use Rattle.session.specs.Limits.{record_bytes}
use Rattle.session.specs.Record.{Record, record_at, byte_of, word_of, zero_at}
use Rattle.session_records.specs.Words.{joined_from, long_bytes, first_long, second_long, long_of, kept, ones, mask_for, SaysUnused}
use Rattle.lists.proofs.Laws.Lists.{holds, fails, truth, get_d_tab}
use Rattle.session.proofs.Laws.Record.{byte_is}

-- bytes joined are 0 exactly where each is
joined-zero : (rec : Record) (k n : ℕ) → joined_from rec k n ≡ 0 → (j : ℕ) → k ≤ j → j < k + n → byte_of rec j ≡ 0
unfolding joined_from
joined-zero rec k zero e j h l = absurd (omega arith)
joined-zero rec k (suc n) e j h l = elim (dec_lt k j) [
  | yes g ↦ joined-zero rec (suc k) n (omega arith) j (omega arith) (omega arith)
  | no g ↦
      let z : j ≡ k = omega arith in
      let b : byte_of rec k ≡ 0 = omega arith in
      rw z b
]

zero-joined : (rec : Record) (k n : ℕ) → ((j : ℕ) → k ≤ j → j < k + n → byte_of rec j ≡ 0) → joined_from rec k n ≡ 0
unfolding joined_from
zero-joined rec k zero f = refl
zero-joined rec k (suc n) f =
    rw (zero-joined rec (suc k) n (λ j h l. f j (omega arith) (omega arith)), f k (omega arith) (omega arith))

-- byte k of a record of which some bytes are kept
kept_byte : (chosen : ℕ → Bool) (rec : Record) (k : ℕ) → k < record_bytes → byte_of (kept chosen rec) k ≡ cond (chosen k) (byte_of rec k) 0
unfolding kept
kept_byte chosen rec k h = get_d_tab 0 record_bytes (λ k. cond (chosen k) (byte_of rec k) 0) k h

-- "For any choice of a record's 16 bytes, its two words, with the other bytes taken as 0, are both 0 exactly when each chosen byte is 0"
module _ (chosen : ℕ → Bool) (rec : Record) where
  byte_zero : zero_at chosen rec ≡ true → (j : ℕ) → j < record_bytes → byte_of (kept chosen rec) j ≡ 0
  unfolding zero_at
  byte_zero t j h =
      kept_byte chosen rec j h
      ∙ elim (truth (chosen j)) [
        | holds c ↦
            rw c (eqb-true (byte_of rec j) 0
            (implies_then (chosen j) (eqb (byte_of rec j) 0) (all_each record_bytes (λ k. implies (chosen k) (eqb (byte_of rec k) 0)) t j h) c))
        | fails c ↦ rw c
      ]

  zero_byte : ((j : ℕ) → j < record_bytes → byte_of (kept chosen rec) j ≡ 0) → zero_at chosen rec ≡ true
  unfolding zero_at
  zero_byte f =
      all-every record_bytes _ λ j h. implies_when (chosen j) (eqb (byte_of rec j) 0)
      λ c. eq-eqb (byte_of rec j) 0 (let e = kept_byte chosen rec j h in rw c at (sym e) ∙ f j h)

  pub words_zero : (eqb (long_of (kept chosen rec) first_long) 0 && eqb (long_of (kept chosen rec) second_long) 0) ≡ zero_at chosen rec
  words_zero = elim (truth (zero_at chosen rec)) [
    | holds t ↦
        and_both _ _
        (eq-eqb _ 0 (zero-joined (kept chosen rec) first_long long_bytes (λ j h l. byte_zero t j (omega arith))))
        (eq-eqb _ 0 (zero-joined (kept chosen rec) second_long long_bytes (λ j h l. byte_zero t j (omega arith))))
        ∙ sym t
    | fails t ↦
        refuted (eqb (long_of (kept chosen rec) first_long) 0 && eqb (long_of (kept chosen rec) second_long) 0) (λ u.
        let e = eqb-true (long_of (kept chosen rec) first_long) 0 (and_left (eqb (long_of (kept chosen rec) first_long) 0) (eqb (long_of (kept chosen rec) second_long) 0) u) in
        let g = eqb-true (long_of (kept chosen rec) second_long) 0 (and_right (eqb (long_of (kept chosen rec) first_long) 0) (eqb (long_of (kept chosen rec) second_long) 0) u) in
        not_both (zero_at chosen rec)
        (zero_byte λ j h. elim (dec_lt j second_long) [
          | yes l ↦ joined-zero (kept chosen rec) first_long long_bytes e j (omega arith) (omega arith)
          | no l ↦ joined-zero (kept chosen rec) second_long long_bytes g j (omega arith) (omega arith)
        ]) t)
        ∙ sym t
  ]

-- what `&` makes of bytes joined, byte by byte
joined_and : (a b c : Record) (k n : ℕ)
    → ((j : ℕ) → byte_of a j < 2 ^ 8)
    → ((j : ℕ) → j < k + n → byte_of b j < 2 ^ 8)
    → ((j : ℕ) → j < k + n → bit_and (byte_of a j) (byte_of b j) ≡ byte_of c j)
    → bit_and (joined_from a k n) (joined_from b k n) ≡ joined_from c k n
unfolding joined_from
joined_and a b c k zero ha hb f = and_zero_r 0
joined_and a b c k (suc n) ha hb f =
    and_block 8 (joined_from a (suc k) n) (joined_from b (suc k) n) (byte_of a k) (byte_of b k) (ha k) (hb k (omega arith))
    ∙ ap₂ (λ x y. x * 2 ^ 8 + y) (joined_and a b c (suc k) n ha (λ j l. hb j (omega arith)) (λ j l. f j (omega arith))) (f k (omega arith))

-- the bytes of a mask, and what one leaves of a byte
ones_byte : (j : ℕ) → j < record_bytes → byte_of ones j ≡ 255
ones_byte j h = get_or-replicate record_bytes j 255 0 h

mask_small : (chosen : ℕ → Bool) (j : ℕ) → j < record_bytes → byte_of (kept chosen ones) j < 2 ^ 8
mask_small chosen j h = rw (kept_byte chosen ones j h, ones_byte j h) (elim (truth (chosen j)) [
  | holds c ↦ rw c (omega arith)
  | fails c ↦ rw c (omega arith)
])

mask_byte : (chosen : ℕ → Bool) (rec : Record) → ((j : ℕ) → byte_of rec j < 2 ^ 8) → (j : ℕ) → j < record_bytes
    → bit_and (byte_of rec j) (byte_of (kept chosen ones) j) ≡ byte_of (kept chosen rec) j
mask_byte chosen rec small j h = rw (kept_byte chosen ones j h, kept_byte chosen rec j h, ones_byte j h) (elim (truth (chosen j)) [
  | holds c ↦ rw c (and_mask (byte_of rec j) 8 ∙ mod-eq_of_lt (small j))
  | fails c ↦ rw c (and_zero_r (byte_of rec j))
])

-- a mask leaves the chosen bytes of a word and makes the others 0
pub masked : (chosen : ℕ → Bool) (rec : Record) → ((j : ℕ) → byte_of rec j < 2 ^ 8) → (k : ℕ) → k + long_bytes ≤ record_bytes
    → bit_and (long_of rec k) (mask_for chosen k) ≡ long_of (kept chosen rec) k
masked chosen rec small k h =
    joined_and rec (kept chosen ones) (kept chosen rec) k long_bytes small (λ j l. mask_small chosen j (omega arith)) (λ j l. mask_byte chosen rec small j (omega arith))

-- so the two words, masked, say whether the chosen bytes are 0: the first alone where it is not 0, else the second
module _ (rec : Record) (first second : ℕ) (small : (j : ℕ) → byte_of rec j < 2 ^ 8) where
  both_masked : SaysUnused rec first second (eqb (bit_and (long_of rec first_long) first) 0 && eqb (bit_and (long_of rec second_long) second) 0)
  both_masked chosen m =
      rw (m.first_is, m.second_is, masked chosen rec small first_long (omega arith), masked chosen rec small second_long (omega arith)) (words_zero chosen rec)

  pub first_says : (bit_and (long_of rec first_long) first ≡ 0 → ⊥) → SaysUnused rec first second (eqb (bit_and (long_of rec first_long) first) 0)
  first_says n chosen m = let e = ne_eqb (bit_and (long_of rec first_long) first) 0 n in e ∙ (rw e at (both_masked chosen m))

  pub second_says : bit_and (long_of rec first_long) first ≡ 0 → SaysUnused rec first second (eqb (bit_and (long_of rec second_long) second) 0)
  second_says e chosen m = rw (eq-eqb (bit_and (long_of rec first_long) first) 0 e) at (both_masked chosen m)

-- the bytes of a record are bytes of the session, or 0
record_end : (s : List ℕ) (r j : ℕ) → (j < record_bytes → ⊥) → length (record_at s r) ≤ j
unfolding record_at
record_end s r j l = simp length-take (omega arith)

pub record_small : (s : List ℕ) (r : ℕ) → ((i : ℕ) → get_or s i 0 < 2 ^ 8) → (j : ℕ) → byte_of (record_at s r) j < 2 ^ 8
record_small s r f j = elim (dec_lt j record_bytes) [
  | yes l ↦ rw (byte_is s r j l) (f (16 * r + j))
  | no l ↦ rw (get_or-eq_default (record_at s r) 0 (record_end s r j l)) (omega arith)
]

-- bytes read in their order make the 32-bit number and the 64-bit word
module _ (bytes : List ℕ) (rec : Record) (k : ℕ) where
  pub word_read : ((i : ℕ) → i < 4 → get_or bytes i 0 ≡ byte_of rec (k + i)) → from_le_bytes w32 bytes ≡ word_of rec k
  unfolding word_of
  word_read f = omega (arith, f 0 (omega arith), f 1 (omega arith), f 2 (omega arith), f 3 (omega arith), ap (byte_of rec) (add-zero k))

  pub long_read : ((i : ℕ) → i < long_bytes → get_or bytes i 0 ≡ byte_of rec (k + i)) → from_le_bytes w64 bytes ≡ long_of rec k
  unfolding joined_from
  long_read f =
      let at : (i j : ℕ) → i < long_bytes → k + i ≡ j → get_or bytes i 0 ≡ byte_of rec j = λ i j h e. f i h ∙ ap (byte_of rec) e in
      omega (
        arith,
        at 0 k (omega arith) (omega arith),
        at 1 (suc k) (omega arith) (omega arith),
        at 2 (suc (suc k)) (omega arith) (omega arith),
        at 3 (suc (suc (suc k))) (omega arith) (omega arith),
        at 4 (suc (suc (suc (suc k)))) (omega arith) (omega arith),
        at 5 (suc (suc (suc (suc (suc k))))) (omega arith) (omega arith),
        at 6 (suc (suc (suc (suc (suc (suc k)))))) (omega arith) (omega arith),
        at 7 (suc (suc (suc (suc (suc (suc (suc k))))))) (omega arith) (omega arith),
      )
