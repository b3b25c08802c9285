-- The text that the program prints, in ASCII. Assumes nothing.
use Rattle.std.specs.Prelude.{ℕ, zero, suc, ◌+◌, ◌*◌, ◌/◌, ◌%◌, cond, List, [], ◌∷◌, ◌++◌, map, eqb, ltb}
use Rattle.io.specs.Digits.{hex_digit_ascii}
use Rattle.session.specs.Limits.{record_bytes}
use Rattle.lists.specs.Lists.{joined}
use Rattle.session.specs.Record.{Record, records_of}
use Rattle.model.specs.Limits.{result_bytes}

abbrev pub line_feed : ℕ
line_feed = 10

abbrev pub blank : ℕ
blank = 32

-- the two "lower-case hex digits" of a byte
abbrev pub hex_of : ℕ → List ℕ
hex_of byte = hex_digit_ascii (byte / 16) ∷ hex_digit_ascii (byte % 16) ∷ []

-- "each result record as 32 lower-case hex digits and a line feed"
unfoldable pub line_of : Record → List ℕ
line_of rec = joined (map hex_of rec) ++ (line_feed ∷ [])

-- its characters
abbrev pub line_size : ℕ
line_size = 2 * record_bytes + 1

-- the lines of the records that bytes hold, in their order
unfoldable pub lines_of : List ℕ → List ℕ
lines_of bytes = joined (map line_of (records_of bytes))

-- a number in decimal, with no zero in front: its last digit, behind those of n / 10 unless n is below 10. At most `most` digits
unfoldable pub decimal_in : ℕ → ℕ → List ℕ
decimal_in zero n = []
decimal_in (suc most) n = cond (ltb n 10) [] (decimal_in most (n / 10)) ++ (hex_digit_ascii (n % 10) ∷ [])

-- the most digits of a number of 32 bits
abbrev pub decimal_size : ℕ
decimal_size = 10

abbrev pub decimal_of : ℕ → List ℕ
decimal_of n = decimal_in decimal_size n

-- "A refusal prints as one line: number, blank, place, both decimal"
unfoldable pub refusal_line : ℕ → ℕ → List ℕ
refusal_line number place = decimal_of number ++ (blank ∷ []) ++ decimal_of place ++ (line_feed ∷ [])

-- its most characters
abbrev pub refusal_size : ℕ
refusal_size = 2 * decimal_size + 2

-- what is printed of a number, a place and the result bytes written
unfoldable pub text_of : ℕ → ℕ → List ℕ → List ℕ
text_of number place bytes = cond (eqb number 0) (lines_of bytes) (refusal_line number place)

-- the most characters of the records that question 11's buffer holds
abbrev pub text_size : ℕ
text_size = line_size * (result_bytes / record_bytes)
