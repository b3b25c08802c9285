-- Each number of a line is read back from its columns, where it is below what they hold. Assumes nothing.
use Prim.Native.Nat.{ℕ, ◌+◌, ◌-◌, ◌^◌, ◌≤◌, ◌<◌}
use mathlib.Core.Path.{◌≡◌, refl, ◌∙◌, ap}
use mathlib.Core.List.{List, [], ◌∷◌, ◌++◌}
use native.Mathlib.Omega.{arith}
use lib.ListN.{length, take, drop, replicate, length-append, length-drop, length-replicate}
use lib.Seq.{take_all, take-append-le, drop-append-le, drop-append-add}
use Rattle.session.specs.Record.{Record}
use Rattle.model.specs.Result.{level_in, ending_in, writes_in, stamp_in, first_in, last_in, steps_in}
use Rattle.text.specs.Text.{hex_in, aligned_in, field_in, apart_in, front_of, line_of, total_line, total_word, total_gap, level_word, quotient_gap, remainder_gap, average_line, blank, line_feed, read_aligned, read_hex}
use Rattle.page_theorems.specs.Pages.{columns, ReadBack}
use Rattle.text.proofs.Laws.Lengths.{hex_length, aligned_length, apart_length, front_length}
use Rattle.text.proofs.Laws.Numbers.{hex_read, aligned_read}

-- columns that lie in the first of two lists, and in the second
in_front : (from to : ℕ) (xs ys : List ℕ) → 0 < from → from ≤ to → to ≤ length xs → columns from to (xs ++ ys) ≡ columns from to xs
in_front from to xs ys p q h =
    ap (take (to + 1 - from)) (drop-append-le (from - 1) xs ys (omega (arith, p, q, h)))
    ∙ take-append-le (to + 1 - from) (drop (from - 1) xs) ys (omega (arith, length-drop (from - 1) xs, p, q, h))

behind : (n from to : ℕ) (xs ys : List ℕ) → 0 < from → length xs ≡ n → columns (n + from) (n + to) (xs ++ ys) ≡ columns from to ys
behind n from to xs ys p h =
    let at : n + from - 1 ≡ length xs + (from - 1) = omega (arith, p, h) in
    let many : n + to + 1 - (n + from) ≡ to + 1 - from = omega arith in
    ap (λ k. take (n + to + 1 - (n + from)) (drop k (xs ++ ys))) at
    ∙ ap (take (n + to + 1 - (n + from))) (drop-append-add xs ys (from - 1))
    ∙ ap (λ k. take k (drop (from - 1) ys)) many

-- a number behind its blank
in_field : (w n : ℕ) → columns 2 (w + 1) (field_in w n) ≡ aligned_in w n
in_field w n =
    let all : w + 1 + 1 - 2 ≡ w = omega arith in
    ap (λ k. take k (aligned_in w n)) all ∙ take_all w (aligned_in w n) (omega (arith, aligned_length w n))

-- a field at the end of a line's beginning, and a number behind a gap
field_last : (n w k : ℕ) (xs : List ℕ) → length xs ≡ n → columns (n + 2) (n + (w + 1)) (xs ++ field_in w k) ≡ aligned_in w k
field_last n w k xs h = behind n 2 (w + 1) xs (field_in w k) (omega arith) h ∙ in_field w k

apart_last : (n gap w k : ℕ) (xs : List ℕ) → length xs ≡ n → columns (n + (gap + 1)) (n + (gap + w)) (xs ++ apart_in gap w k) ≡ aligned_in w k
apart_last n gap w k xs h =
    let all : w + 1 - 1 ≡ w = omega arith in
    behind n (gap + 1) (gap + w) xs (apart_in gap w k) (omega arith) h
    ∙ behind gap 1 w (replicate gap blank) (aligned_in w k) (omega arith) (length-replicate gap blank)
    ∙ ap (λ m. take m (aligned_in w k)) all
    ∙ take_all w (aligned_in w k) (omega (arith, aligned_length w k))

module _ (rec : Record) where
  abbrev stamp_text : List ℕ
  stamp_text = hex_in 8 (stamp_in rec)

  abbrev level_text : List ℕ
  level_text = stamp_text ++ field_in 1 (level_in rec)

  abbrev ending_text : List ℕ
  ending_text = level_text ++ field_in 1 (ending_in rec)

  abbrev first_text : List ℕ
  first_text = front_of rec ++ field_in 3 (first_in rec)

  abbrev last_text : List ℕ
  last_text = first_text ++ field_in 3 (last_in rec)

  abbrev steps_text : List ℕ
  steps_text = last_text ++ field_in 3 (steps_in rec)

  level_long : length level_text ≡ 10
  level_long = length-append stamp_text (field_in 1 (level_in rec)) ∙ omega (arith, hex_length 8 (stamp_in rec), aligned_length 1 (level_in rec))

  ending_long : length ending_text ≡ 12
  ending_long = length-append level_text (field_in 1 (ending_in rec)) ∙ omega (arith, level_long, aligned_length 1 (ending_in rec))

  first_long_lem : length first_text ≡ 19
  first_long_lem = length-append (front_of rec) (field_in 3 (first_in rec)) ∙ omega (arith, front_length rec, aligned_length 3 (first_in rec))

  last_long : length last_text ≡ 23
  last_long = length-append first_text (field_in 3 (last_in rec)) ∙ omega (arith, first_long_lem, aligned_length 3 (last_in rec))

  steps_long : length steps_text ≡ 27
  steps_long = length-append last_text (field_in 3 (steps_in rec)) ∙ omega (arith, last_long, aligned_length 3 (steps_in rec))

  line_is : line_of rec ≡ steps_text ++ (line_feed ∷ [])
  unfolding line_of
  line_is = refl

  front_is : front_of rec ≡ ending_text ++ field_in 2 (writes_in rec)
  unfolding front_of
  front_is = refl

  -- what is in the front is in the line, and so on
  of_steps : (from to : ℕ) → 0 < from → from ≤ to → to ≤ 27 → columns from to (line_of rec) ≡ columns from to steps_text
  of_steps from to p q h =
      ap (columns from to) line_is ∙ in_front from to steps_text (line_feed ∷ []) p q (omega (arith, steps_long, h))

  of_last : (from to : ℕ) → 0 < from → from ≤ to → to ≤ 23 → columns from to (line_of rec) ≡ columns from to last_text
  of_last from to p q h =
      of_steps from to p q (omega (arith, h)) ∙ in_front from to last_text (field_in 3 (steps_in rec)) p q (omega (arith, last_long, h))

  of_first : (from to : ℕ) → 0 < from → from ≤ to → to ≤ 19 → columns from to (line_of rec) ≡ columns from to first_text
  of_first from to p q h =
      of_last from to p q (omega (arith, h)) ∙ in_front from to first_text (field_in 3 (last_in rec)) p q (omega (arith, first_long_lem, h))

  of_front : (from to : ℕ) → 0 < from → from ≤ to → to ≤ 15 → columns from to (line_of rec) ≡ columns from to (front_of rec)
  of_front from to p q h =
      of_first from to p q (omega (arith, h)) ∙ in_front from to (front_of rec) (field_in 3 (first_in rec)) p q (omega (arith, front_length rec, h))

  of_ending : (from to : ℕ) → 0 < from → from ≤ to → to ≤ 12 → columns from to (line_of rec) ≡ columns from to ending_text
  of_ending from to p q h =
      of_front from to p q (omega (arith, h))
      ∙ ap (columns from to) front_is
      ∙ in_front from to ending_text (field_in 2 (writes_in rec)) p q (omega (arith, ending_long, h))

  of_level_lem : (from to : ℕ) → 0 < from → from ≤ to → to ≤ 10 → columns from to (line_of rec) ≡ columns from to level_text
  of_level_lem from to p q h =
      of_ending from to p q (omega (arith, h)) ∙ in_front from to level_text (field_in 1 (ending_in rec)) p q (omega (arith, level_long, h))

  of_stamp : columns 1 8 (line_of rec) ≡ stamp_text
  of_stamp =
      of_level_lem 1 8 (omega arith) (omega arith) (omega arith)
      ∙ in_front 1 8 stamp_text (field_in 1 (level_in rec)) (omega arith) (omega arith) (omega (arith, hex_length 8 (stamp_in rec)))
      ∙ take_all 8 stamp_text (omega (arith, hex_length 8 (stamp_in rec)))

  -- where each number is below what its columns hold, it is read back
  pub read_back : stamp_in rec < 16 ^ 8 → level_in rec < 10 ^ 1 → ending_in rec < 10 ^ 1 → writes_in rec < 10 ^ 2 → first_in rec < 10 ^ 3 → last_in rec < 10 ^ 3 → steps_in rec < 10 ^ 3 → ReadBack rec
  read_back s l e w f t n =
      record {
        stamp = ap read_hex of_stamp ∙ hex_read 8 (stamp_in rec) s;
        level = ap read_aligned (of_level_lem 10 10 (omega arith) (omega arith) (omega arith) ∙ field_last 8 1 (level_in rec) stamp_text (hex_length 8 (stamp_in rec))) ∙ aligned_read 1 (level_in rec) l;
        ending = ap read_aligned (of_ending 12 12 (omega arith) (omega arith) (omega arith) ∙ field_last 10 1 (ending_in rec) level_text level_long) ∙ aligned_read 1 (ending_in rec) e;
        writes = ap read_aligned (of_front 14 15 (omega arith) (omega arith) (omega arith) ∙ ap (columns 14 15) front_is ∙ field_last 12 2 (writes_in rec) ending_text ending_long) ∙ aligned_read 2 (writes_in rec) w;
        first = ap read_aligned (of_first 17 19 (omega arith) (omega arith) (omega arith) ∙ field_last 15 3 (first_in rec) (front_of rec) (front_length rec)) ∙ aligned_read 3 (first_in rec) f;
        last = ap read_aligned (of_last 21 23 (omega arith) (omega arith) (omega arith) ∙ field_last 19 3 (last_in rec) first_text first_long_lem) ∙ aligned_read 3 (last_in rec) t;
        steps = ap read_aligned (of_steps 25 27 (omega arith) (omega arith) (omega arith) ∙ field_last 23 3 (steps_in rec) last_text last_long) ∙ aligned_read 3 (steps_in rec) n;
      }

-- the total is read back from its line
pub total_read : (n : ℕ) → n < 10 ^ 5 → read_aligned (columns 23 27 (total_line n)) ≡ n
unfolding total_line
total_read n h =
    ap read_aligned (in_front 23 27 (total_word ++ apart_in total_gap 5 n) (line_feed ∷ []) (omega arith) (omega arith) (omega (arith, apart_length total_gap 5 n))
    ∙ apart_last 5 total_gap 5 n total_word refl)
    ∙ aligned_read 5 n h

-- and the numbers of a level from its own
module _ (level quotient remainder : ℕ) where
  abbrev number_text : List ℕ
  number_text = level_word ++ field_in 1 level

  abbrev quotient_text : List ℕ
  quotient_text = number_text ++ apart_in quotient_gap 3 quotient

  abbrev remainder_text : List ℕ
  remainder_text = quotient_text ++ apart_in remainder_gap 3 remainder

  number_long : length number_text ≡ 7
  number_long = omega (arith, aligned_length 1 level)

  quotient_long : length quotient_text ≡ 19
  quotient_long = length-append number_text (apart_in quotient_gap 3 quotient) ∙ omega (arith, number_long, apart_length quotient_gap 3 quotient)

  remainder_long : length remainder_text ≡ 27
  remainder_long = length-append quotient_text (apart_in remainder_gap 3 remainder) ∙ omega (arith, quotient_long, apart_length remainder_gap 3 remainder)

  average_is : average_line level quotient remainder ≡ remainder_text ++ (line_feed ∷ [])
  unfolding average_line
  average_is = refl

  of_remainder : (from to : ℕ) → 0 < from → from ≤ to → to ≤ 27 → columns from to (average_line level quotient remainder) ≡ columns from to remainder_text
  of_remainder from to p q h =
      ap (columns from to) average_is ∙ in_front from to remainder_text (line_feed ∷ []) p q (omega (arith, remainder_long, h))

  of_quotient : (from to : ℕ) → 0 < from → from ≤ to → to ≤ 19 → columns from to (average_line level quotient remainder) ≡ columns from to quotient_text
  of_quotient from to p q h =
      of_remainder from to p q (omega (arith, h)) ∙ in_front from to quotient_text (apart_in remainder_gap 3 remainder) p q (omega (arith, quotient_long, h))

  of_number : columns 7 7 (average_line level quotient remainder) ≡ aligned_in 1 level
  of_number =
      of_quotient 7 7 (omega arith) (omega arith) (omega arith)
      ∙ in_front 7 7 number_text (apart_in quotient_gap 3 quotient) (omega arith) (omega arith) (omega (arith, number_long))
      ∙ field_last 5 1 level level_word refl

  pub number_read : level < 10 ^ 1 → read_aligned (columns 7 7 (average_line level quotient remainder)) ≡ level
  number_read h = ap read_aligned of_number ∙ aligned_read 1 level h

  pub quotient_read : quotient < 10 ^ 3 → read_aligned (columns 17 19 (average_line level quotient remainder)) ≡ quotient
  quotient_read h =
      ap read_aligned (of_quotient 17 19 (omega arith) (omega arith) (omega arith) ∙ apart_last 7 quotient_gap 3 quotient number_text number_long) ∙ aligned_read 3 quotient h

  pub remainder_read : remainder < 10 ^ 3 → read_aligned (columns 25 27 (average_line level quotient remainder)) ≡ remainder
  remainder_read h =
      ap read_aligned (of_remainder 25 27 (omega arith) (omega arith) (omega arith) ∙ apart_last 19 remainder_gap 3 remainder quotient_text quotient_long) ∙ aligned_read 3 remainder h
