-- Laws of the printed text: the lines by number, and decimal digits. Assumes nothing.
use Prim.Native.Nat.{ℕ, zero, suc, ◌*◌, ◌-◌, ◌/◌, ◌%◌, ◌^◌, ◌≤◌, ◌<◌}
use mathlib.Core.Path.{◌≡◌, refl, ◌∙◌, ap}
use mathlib.Core.List.{List, [], ◌∷◌, ◌++◌, map}
use native.Mathlib.Nat.{pow-suc, div-lt_iff_lt-mul, le-div_iff_mul-le}
use native.Mathlib.Omega.{arith}
use lib.Dec.{ltb, lit<}
use lib.ListN.{length, get_or, drop, length-append, length-drop}
use lib.Seq.{length-take-le}
use borrow.Author.Tests.{lt-ltb, le-ltb}
use Rattle.io.specs.Digits.{hex_digit_ascii, last_digits, IsDigitCount}
use Rattle.lists.specs.Lists.{tab, joined}
use Rattle.session.specs.Record.{Record, record_at, record_count, records_of}
use Rattle.lists.proofs.Laws.Lists.{holds, fails, truth}
use Rattle.lists.proofs.Laws.Fill.{map_is}
use Rattle.text.specs.Lines.{line_feed, hex_of, line_of, lines_of, decimal_in}

-- the digits of byte i of a record
abbrev pub hex_at : Record → ℕ → List ℕ
hex_at rec i = hex_of (get_or rec i 0)

-- the line of a record, from its bytes
pub line_is : (rec : Record) → length rec ≡ 16 → line_of rec ≡ joined (tab 16 (hex_at rec)) ++ (line_feed ∷ [])
unfolding line_of
line_is rec h = ap (λ l. joined l ++ (line_feed ∷ [])) (map_is hex_of 0 rec ∙ ap (λ k. tab k (hex_at rec)) h)

record_length : (s : List ℕ) (r : ℕ) → r < record_count s → length (record_at s r) ≡ 16
unfolding record_at
record_length s r h = length-take-le 16 (drop (16 * r) s) (rw length-drop (omega arith))

pub line_length : (s : List ℕ) (r : ℕ) → r < record_count s → length (line_of (record_at s r)) ≡ 33
unfolding joined tab
line_length s r h = ap length (line_is (record_at s r) (record_length s r h))

-- the lines, by number
map-tab : {A B : Type 0} (f : A → B) (n : ℕ) (g : ℕ → A) → map f (tab n g) ≡ tab n (λ i. f (g i))
unfolding tab
map-tab f zero g = refl
map-tab f (suc n) g = ap (λ l. f (g zero) ∷ l) (map-tab f n (λ i. g (suc i)))

abbrev pub line_at : List ℕ → ℕ → List ℕ
line_at s r = line_of (record_at s r)

pub lines_are : (s : List ℕ) → lines_of s ≡ joined (tab (record_count s) (line_at s))
unfolding lines_of records_of
lines_are s = ap joined (map-tab line_of (record_count s) (record_at s))

-- a number below a power of ten, and one that needs a second digit
tenth : (n k : ℕ) → n < 10 ^ suc k → n / 10 < 10 ^ k
tenth n k h = (div-lt_iff_lt-mul {k = 10} {x = n} {y = 10 ^ k} (lit< tt)).1 (rw pow-suc at h)

at_least : (n k : ℕ) → (1 < suc (suc k) → 10 ^ (suc (suc k) - 1) ≤ n) → 10 ^ k * 10 ≤ n
at_least n k f =
    let e : suc (suc k) - 1 ≡ suc k = omega arith in
    rw (e, pow-suc) at (f (omega arith))

-- the fewest digits that hold a number are its decimal digits
pub decimal_is : (most n k : ℕ) → n < 10 ^ most → 0 < most → IsDigitCount 10 1 n k → last_digits 10 k n ≡ decimal_in most n
unfolding decimal_in
decimal_is zero n k h p f = absurd (omega arith)
decimal_is (suc most) n zero h p f = absurd (omega (arith, f.0))
decimal_is (suc most) n (suc zero) h p f = rw (lt-ltb n 10 (omega (arith, f.1))) refl
decimal_is (suc zero) n (suc (suc k)) h p f = absurd (omega (arith, at_least n k f.2))
decimal_is (suc (suc most)) n (suc (suc k)) h p f =
    rw (le-ltb n 10 (omega (arith, at_least n k f.2)))
    (ap (λ l. l ++ (hex_digit_ascii (n % 10) ∷ []))
    (decimal_is (suc most) (n / 10) (suc k) (tenth n (suc most) h) (omega arith) (
      omega arith,
      tenth n (suc k) f.1,
      λ g.
          let e : suc k - 1 ≡ k = omega arith in
          rw e ((le-div_iff_mul-le {k = 10} {x = 10 ^ k} {y = n} (lit< tt)).1 (at_least n k f.2)),
    )))

-- how many they are at most
pub decimal_length : (most n : ℕ) → length (decimal_in most n) ≤ most
unfolding decimal_in
decimal_length zero n = omega arith
decimal_length (suc most) n = elim (truth (ltb n 10)) [
  | holds e ↦ rw e (omega arith)
  | fails e ↦ rw (e, length-append) (omega (arith, decimal_length most (n / 10)))
]
