-- The text of a page, in ASCII, as a function of the result bytes written. Assumes nothing.
-- Laws: how long a line and a page are (`proofs/Laws/Lengths`), and that a number that fits its columns is read back from them
-- (`proofs/Laws/Numbers`).
use Rattle.std.specs.Prelude.{ℕ, zero, suc, ◌+◌, ◌*◌, ◌-◌, ◌/◌, ◌%◌, cond, List, [], ◌∷◌, ◌++◌, map, eqb, ltb, length, replicate}
use Rattle.session.specs.Limits.{max_levels}
use Rattle.lists.specs.Lists.{select, tab, joined}
use Rattle.session.specs.Record.{Record}
use Rattle.session.specs.Parts.{of_kind}
use Rattle.model.specs.Limits.{line_bytes}
use Rattle.model.specs.Result.{level_in, ending_in, writes_in, stamp_in, first_in, last_in, steps_in, histories_at}

abbrev pub line_feed : ℕ
line_feed = 10

abbrev pub blank : ℕ
blank = 32

-- the digit of a number below 16, "upper-case"
abbrev pub digit_of : ℕ → ℕ
digit_of d = cond (ltb d 10) (48 + d) (55 + d)

-- "hex digits": the last ones of n, as many as there are places, with zeros in front
unfoldable pub hex_in : ℕ → ℕ → List ℕ
hex_in zero n = []
hex_in (suc places) n = hex_in places (n / 16) ++ (digit_of (n % 16) ∷ [])

-- "Right-aligned decimals": the last digit of n, behind the others, or behind blanks where there are none
unfoldable pub aligned_in : ℕ → ℕ → List ℕ
aligned_in zero n = []
aligned_in (suc columns) n = cond (ltb n 10) (replicate columns blank) (aligned_in columns (n / 10)) ++ (digit_of (n % 10) ∷ [])

-- such a number behind a column that is "unused", and behind a gap of several
abbrev pub field_in : ℕ → ℕ → List ℕ
field_in columns n = blank ∷ aligned_in columns n

abbrev pub apart_in : ℕ → ℕ → ℕ → List ℕ
apart_in gap columns n = replicate gap blank ++ aligned_in columns n

-- "8 upper-case hex digits at columns 1 to 8", "level at 10, ending at 12"
abbrev pub stamp_places : ℕ
stamp_places = 8

abbrev pub level_columns : ℕ
level_columns = 1

abbrev pub ending_columns : ℕ
ending_columns = 1

-- "writes 14 to 15, first stamp 17 to 19, last 21 to 23, steps 25 to 27"
abbrev pub writes_columns : ℕ
writes_columns = 2

abbrev pub write_stamp_columns : ℕ
write_stamp_columns = 3

abbrev pub steps_columns : ℕ
steps_columns = 3

-- how many columns the front of a line has
abbrev pub front_bytes : ℕ
front_bytes = 15

-- columns 1 to 15 of a history's line
unfoldable pub front_of : Record → List ℕ
front_of rec =
    hex_in stamp_places (stamp_in rec)
    ++ field_in level_columns (level_in rec)
    ++ field_in ending_columns (ending_in rec)
    ++ field_in writes_columns (writes_in rec)

-- the line: "27 columns and a line feed each, unused columns blank"
unfoldable pub line_of : Record → List ℕ
line_of rec =
    front_of rec
    ++ field_in write_stamp_columns (first_in rec)
    ++ field_in write_stamp_columns (last_in rec)
    ++ field_in steps_columns (steps_in rec)
    ++ (line_feed ∷ [])

-- "TOTAL at 1 to 5"
abbrev pub total_word : List ℕ
total_word = 84 ∷ 79 ∷ 84 ∷ 65 ∷ 76 ∷ []

abbrev pub word_columns : ℕ
word_columns = 5

-- "right-aligned at 23 to 27"
abbrev pub total_columns : ℕ
total_columns = 5

-- the blanks between them: columns 6 to 22
abbrev pub total_gap : ℕ
total_gap = line_bytes - 1 - word_columns - total_columns

unfoldable pub total_line : ℕ → List ℕ
total_line n = total_word ++ apart_in total_gap total_columns n ++ (line_feed ∷ [])

-- "LEVEL at columns 1 to 5", "the level at 7"
abbrev pub level_word : List ℕ
level_word = 76 ∷ 69 ∷ 86 ∷ 69 ∷ 76 ∷ []

-- "quotient at 17 to 19 and its remainder at 25 to 27, right-aligned", and the blanks before each: from column 8 and from column 20 on
abbrev pub quotient_columns : ℕ
quotient_columns = 3

abbrev pub remainder_columns : ℕ
remainder_columns = 3

abbrev pub quotient_gap : ℕ
quotient_gap = 17 - 8

abbrev pub remainder_gap : ℕ
remainder_gap = 25 - 20

-- the line of a level
unfoldable pub average_line : ℕ → ℕ → ℕ → List ℕ
average_line level quotient remainder =
    level_word
    ++ field_in level_columns level
    ++ apart_in quotient_gap quotient_columns quotient
    ++ apart_in remainder_gap remainder_columns remainder
    ++ (line_feed ∷ [])

unfoldable pub sum_of : List ℕ → ℕ
sum_of [] = 0
sum_of (n ∷ ns) = n + sum_of ns

-- "the histories shown": the records of kind 6, "in their order"
abbrev pub histories_in : List ℕ → List Record
histories_in bytes = of_kind 6 bytes

-- "the sum over the very records shown"
abbrev pub total_of : List ℕ → ℕ
total_of bytes = sum_of (map steps_in (histories_in bytes))

-- the "number of managers" of a level, and "the level's sum" of script steps, over its histories shown
abbrev pub managers_at : ℕ → List ℕ → ℕ
managers_at level bytes = length (histories_at level bytes)

abbrev pub steps_at : ℕ → List ℕ → ℕ
steps_at level bytes = sum_of (map steps_in (histories_at level bytes))

-- "the mean script steps as a whole quotient .. and its remainder"
abbrev pub quotient_at : ℕ → List ℕ → ℕ
quotient_at level bytes = steps_at level bytes / managers_at level bytes

abbrev pub remainder_at : ℕ → List ℕ → ℕ
remainder_at level bytes = steps_at level bytes % managers_at level bytes

-- each "shown level that had managers, by level number". Every level of a session is below `max_levels`: a record that names another is in the
-- total alone
unfoldable pub levels_in : List ℕ → List ℕ
levels_in bytes = select (λ level. ltb 0 (managers_at level bytes)) (tab max_levels (λ level. level))

abbrev pub average_of : List ℕ → ℕ → List ℕ
average_of bytes level = average_line level (quotient_at level bytes) (remainder_at level bytes)

-- the page: a line for each history, the total, and "Below the total .. one line per shown level that had managers"
unfoldable pub page_of : List ℕ → List ℕ
page_of bytes =
    joined (map line_of (histories_in bytes)) ++ total_line (total_of bytes) ++ joined (map (average_of bytes) (levels_in bytes))

-- a number read back from its columns, n standing for what was read before: a blank is no digit
unfoldable pub aligned_from : ℕ → List ℕ → ℕ
aligned_from n [] = n
aligned_from n (c ∷ cs) = aligned_from (cond (eqb c blank) n (10 * n + (c - 48))) cs

abbrev pub read_aligned : List ℕ → ℕ
read_aligned cs = aligned_from 0 cs

-- and from hexadecimal digits
abbrev pub digit_in : ℕ → ℕ
digit_in c = cond (ltb c 65) (c - 48) (c - 55)

unfoldable pub hex_from : ℕ → List ℕ → ℕ
hex_from n [] = n
hex_from n (c ∷ cs) = hex_from (16 * n + digit_in c) cs

abbrev pub read_hex : List ℕ → ℕ
read_hex cs = hex_from 0 cs
