-- What is read off a history's record is what was written of the history, where it has room there. Assumes nothing.
use Prim.Native.Nat.{ℕ, ◌+◌, ◌*◌, ◌/◌, ◌%◌, ◌^◌, ◌<◌}
use mathlib.Core.Path.{◌≡◌, refl}
use native.Mathlib.Nat.{div-div-eq-div-mul}
use native.Mathlib.Omega.{arith}
use Rattle.session.specs.Record.{word_of}
use Rattle.scripts.specs.Ending.{number_of_ending}
use Rattle.model.specs.History.{History}
use Rattle.model.specs.Result.{history_record, level_in, ending_in, writes_in, stamp_in, first_in, last_in, steps_in}

-- the four bytes of a number of 32 bits
four : (n : ℕ) → n < 2 ^ 32 → n % 2 ^ 8 + 2 ^ 8 * (n / 2 ^ 8 % 2 ^ 8) + 2 ^ 16 * (n / 2 ^ 16 % 2 ^ 8) + 2 ^ 24 * (n / 2 ^ 24 % 2 ^ 8) ≡ n
four n f =
    let third : n / 2 ^ 8 / 2 ^ 8 ≡ n / 2 ^ 16 = div-div-eq-div-mul n (2 ^ 8) (2 ^ 8) in
    let fourth : n / 2 ^ 16 / 2 ^ 8 ≡ n / 2 ^ 24 = div-div-eq-div-mul n (2 ^ 16) (2 ^ 8) in
    from n (n / 2 ^ 8) (n / 2 ^ 16) (n / 2 ^ 24) refl third fourth f
  where
    from : (n a b c : ℕ) → n / 2 ^ 8 ≡ a → a / 2 ^ 8 ≡ b → b / 2 ^ 8 ≡ c → n < 2 ^ 32 → n % 2 ^ 8 + 2 ^ 8 * (a % 2 ^ 8) + 2 ^ 16 * (b % 2 ^ 8) + 2 ^ 24 * (c % 2 ^ 8) ≡ n
    from n a b c i j k f =
        let first : n % 2 ^ 8 + 2 ^ 8 * a ≡ n = omega (arith, i) in
        let second : a % 2 ^ 8 + 2 ^ 8 * b ≡ a = omega (arith, j) in
        let third : b % 2 ^ 8 + 2 ^ 8 * c ≡ b = omega (arith, k) in
        let last : c < 2 ^ 8 = omega (arith, f, first, second, third) in
        let fourth : c % 2 ^ 8 ≡ c = omega (arith, last) in
        omega (arith, first, second, third, fourth)

module _ (l : ℕ) (h : History) where
  pub level_read : level_in (history_record l h) ≡ l
  unfolding history_record
  level_read = refl

  pub ending_read : ending_in (history_record l h) ≡ number_of_ending h.ending
  unfolding history_record
  ending_read = refl

  pub writes_read : writes_in (history_record l h) ≡ h.writes
  unfolding history_record
  writes_read = refl

  pub stamp_read : h.stamp < 2 ^ 32 → stamp_in (history_record l h) ≡ h.stamp
  unfolding history_record word_of
  stamp_read f = four h.stamp f

  pub first_read : h.first < 2 ^ 16 → first_in (history_record l h) ≡ h.first
  unfolding history_record
  first_read f = omega (arith, f)

  pub last_read : h.last < 2 ^ 16 → last_in (history_record l h) ≡ h.last
  unfolding history_record
  last_read f = omega (arith, f)

  pub steps_read : h.steps < 2 ^ 16 → steps_in (history_record l h) ≡ h.steps
  unfolding history_record
  steps_read f = omega (arith, f)
