-- How long the parts of a page are: a line has 28 bytes, and a page a line for each history, the total and each level that they are of. Assumes
-- nothing.
use Prim.Native.Nat.{ℕ, zero, suc, ◌+◌, ◌*◌, ◌/◌, ◌≤◌}
use mathlib.Core.Path.{◌≡◌, refl}
use mathlib.Core.List.{List, [], ◌∷◌, map}
use native.Mathlib.Omega.{arith}
use lib.Dec.{ltb}
use lib.ListN.{length, length-append, length-replicate}
use Rattle.session.specs.Limits.{max_levels}
use Rattle.lists.specs.Lists.{tab, joined}
use Rattle.session.specs.Record.{Record}
use Rattle.lists.proofs.Laws.Lists.{holds, fails, truth, select-length, length-tab}
use Rattle.model.specs.Limits.{line_bytes}
use Rattle.model.specs.Result.{level_in, ending_in, writes_in, stamp_in, first_in, last_in, steps_in}
use Rattle.text.specs.Text.{blank, hex_in, aligned_in, apart_in, front_of, line_of, total_gap, total_line, quotient_gap, remainder_gap, average_line, histories_in, total_of, managers_at, quotient_at, remainder_at, levels_in, average_of, page_of, front_bytes}

pub hex_length : (places n : ℕ) → length (hex_in places n) ≡ places
unfolding hex_in
hex_length zero n = refl
hex_length (suc places) n = rw length-append (omega (arith, hex_length places (n / 16)))

pub aligned_length : (columns n : ℕ) → length (aligned_in columns n) ≡ columns
unfolding aligned_in
aligned_length zero n = refl
aligned_length (suc columns) n = elim (truth (ltb n 10)) [
  | holds e ↦ rw (e, length-append) (omega (arith, length-replicate columns blank))
  | fails e ↦ rw (e, length-append) (omega (arith, aligned_length columns (n / 10)))
]

pub apart_length : (gap columns n : ℕ) → length (apart_in gap columns n) ≡ gap + columns
apart_length gap columns n = rw length-append (omega (arith, length-replicate gap blank, aligned_length columns n))

pub front_length : (rec : Record) → length (front_of rec) ≡ front_bytes
unfolding front_of
front_length rec =
    rw (length-append, length-append, length-append)
    (omega (arith, hex_length 8 (stamp_in rec), aligned_length 1 (level_in rec), aligned_length 1 (ending_in rec), aligned_length 2 (writes_in rec)))

pub line_length : (rec : Record) → length (line_of rec) ≡ line_bytes
unfolding line_of
line_length rec =
    rw (length-append, length-append, length-append, length-append)
    (omega (arith, front_length rec, aligned_length 3 (first_in rec), aligned_length 3 (last_in rec), aligned_length 3 (steps_in rec)))

pub total_length : (n : ℕ) → length (total_line n) ≡ line_bytes
unfolding total_line
total_length n =
    rw (length-append, length-append) (omega (arith, apart_length total_gap 5 n))

pub average_length : (level quotient remainder : ℕ) → length (average_line level quotient remainder) ≡ line_bytes
unfolding average_line
average_length level quotient remainder =
    rw (length-append, length-append, length-append, length-append)
    (omega (arith, aligned_length 1 level, apart_length quotient_gap 3 quotient, apart_length remainder_gap 3 remainder))

-- as many lines as there are things to write one of
lines_length : {A : Type 0} (line : A → List ℕ) → ((x : A) → length (line x) ≡ line_bytes) → (xs : List A) → length (joined (map line xs)) ≡ line_bytes * length xs
unfolding joined
lines_length line h [] = refl
lines_length line h (x ∷ xs) = rw length-append (omega (arith, h x, lines_length line h xs))

pub page_length : (bytes : List ℕ) → length (page_of bytes) ≡ line_bytes * (length (histories_in bytes) + 1 + length (levels_in bytes))
unfolding page_of
page_length bytes =
    rw (length-append, length-append) (omega (
      arith,
      lines_length line_of line_length (histories_in bytes),
      total_length (total_of bytes),
      lines_length (average_of bytes) (λ level. average_length level (quotient_at level bytes) (remainder_at level bytes)) (levels_in bytes),
    ))

-- "at most 8 levels"
pub levels_few : (bytes : List ℕ) → length (levels_in bytes) ≤ max_levels
unfolding levels_in
levels_few bytes =
    omega (arith, select-length (λ (level : ℕ). ltb 0 (managers_at level bytes)) (tab max_levels (λ (level : ℕ). level)), length-tab max_levels (λ (level : ℕ). level))
