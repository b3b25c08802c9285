-- Pages and their parts, computed from the definitions. Assumes nothing.
use Prim.Native.Nat.{ℕ, ◌*◌}
use Prim.Native.Char.{code}
use Prim.Native.String.{String, [] as []ᵗ, ◌∷◌ as ◌∷ᵗ◌}
use mathlib.Core.Path.{◌≡◌, refl}
use mathlib.Core.List.{List, [], ◌∷◌}
use Rattle.lists.specs.Lists.{select, tab, joined}
use Rattle.session.specs.Record.{Record, record_at, records_of, word_of}
use Rattle.session.specs.Parts.{of_kind}
use Rattle.model.specs.Limits.{page_bytes}
use Rattle.text.specs.Text.{hex_in, aligned_in, front_of, line_of, total_line, average_line, sum_of, levels_in, page_of, read_hex, hex_from, read_aligned, aligned_from}

-- the codes of a text's characters
unfoldable pub codes : String → List ℕ
codes []ᵗ = []
codes (c ∷ᵗ s) = code c ∷ codes s

-- the records of session W's results
abbrev object0 : Record
object0 = 0x05 ∷ 0x00 ∷ 0x00 ∷ 0x01 ∷ 0x09 ∷ 0x00 ∷ 0x00 ∷ 0x00 ∷ 0x00 ∷ 0x00 ∷ 0x00 ∷ 0x00 ∷ 0x00 ∷ 0x00 ∷ 0x00 ∷ 0x00 ∷ []

abbrev object1 : Record
object1 = 0x05 ∷ 0x01 ∷ 0x01 ∷ 0x03 ∷ 0x05 ∷ 0x00 ∷ 0x00 ∷ 0x00 ∷ 0x05 ∷ 0x00 ∷ 0x00 ∷ 0x00 ∷ 0x00 ∷ 0x00 ∷ 0x00 ∷ 0x00 ∷ []

abbrev history0 : Record
history0 = 0x06 ∷ 0x00 ∷ 0x00 ∷ 0x01 ∷ 0x00 ∷ 0x00 ∷ 0x00 ∷ 0x00 ∷ 0x01 ∷ 0x00 ∷ 0x02 ∷ 0x00 ∷ 0x05 ∷ 0x00 ∷ 0x00 ∷ 0x00 ∷ []

abbrev history1 : Record
history1 = 0x06 ∷ 0x01 ∷ 0x00 ∷ 0x02 ∷ 0x00 ∷ 0x00 ∷ 0x00 ∷ 0x10 ∷ 0x01 ∷ 0x00 ∷ 0x01 ∷ 0x00 ∷ 0x05 ∷ 0x00 ∷ 0x00 ∷ 0x00 ∷ []

abbrev reply : Record
reply = 0x07 ∷ 0x00 ∷ 0x00 ∷ 0x01 ∷ 0x09 ∷ 0x00 ∷ 0x00 ∷ 0x00 ∷ 0x00 ∷ 0x00 ∷ 0x00 ∷ 0x00 ∷ 0x00 ∷ 0x00 ∷ 0x00 ∷ 0x00 ∷ []

-- an object with 7 in its third field
abbrev object2 : Record
object2 = 0x05 ∷ 0x02 ∷ 0x00 ∷ 0x04 ∷ 0x00 ∷ 0x00 ∷ 0x00 ∷ 0x00 ∷ 0x00 ∷ 0x00 ∷ 0x00 ∷ 0x00 ∷ 0x07 ∷ 0x00 ∷ 0x00 ∷ 0x00 ∷ []

-- a history whose numbers fill their columns: level 7, ending 2, 16 writes, stamp FEDCBA90 hex, stamps 497 and 512, 256 steps
abbrev full : Record
full = 0x06 ∷ 0x07 ∷ 0x02 ∷ 0x10 ∷ 0x90 ∷ 0xBA ∷ 0xDC ∷ 0xFE ∷ 0xF1 ∷ 0x01 ∷ 0x00 ∷ 0x02 ∷ 0x00 ∷ 0x01 ∷ 0x00 ∷ 0x00 ∷ []

-- a history of a level, of the root's first, second .. fork, with so many script steps
abbrev of : ℕ → ℕ → ℕ → Record
of level fork steps = 0x06 ∷ level ∷ 0x00 ∷ 0x00 ∷ 0x00 ∷ 0x00 ∷ 0x00 ∷ 0x10 * fork ∷ 0x01 ∷ 0x00 ∷ 0x01 ∷ 0x00 ∷ steps ∷ 0x00 ∷ 0x00 ∷ 0x00 ∷ []

pub record Examples : Type 0 where
  session_w_0 : page_of (joined (object0 ∷ history0 ∷ reply ∷ []))
      ≡ codes "00000000 0 0  1   1   2   5\nTOTAL                     5\nLEVEL 0           5       0\n"
  session_w_1 : page_of (joined (object0 ∷ object1 ∷ history0 ∷ history1 ∷ reply ∷ []))
      ≡ codes "00000000 0 0  1   1   2   5\n10000000 1 0  2   1   1   5\nTOTAL                    10\nLEVEL 0           5       0\nLEVEL 1           5       0\n"
  -- the third field of an object is not among the steps
  objects_aside : page_of (joined (object2 ∷ history0 ∷ [])) ≡ codes "00000000 0 0  1   1   2   5\nTOTAL                     5\nLEVEL 0           5       0\n"
  -- levels stand by number, wherever their histories do; level 1 has none. 9 + 12 + 2 = 3 × 7 + 2
  averages : page_of (joined (of 2 1 9 ∷ of 2 2 12 ∷ history0 ∷ of 2 3 2 ∷ []))
      ≡ codes "10000000 2 0  0   1   1   9\n20000000 2 0  0   1   1  12\n00000000 0 0  1   1   2   5\n30000000 2 0  0   1   1   2\nTOTAL                    28\nLEVEL 0           5       0\nLEVEL 2           7       2\n"
  -- a level that no session has is in the total alone
  no_such_level : page_of (joined (of 8 1 9 ∷ [])) ≡ codes "10000000 8 0  0   1   1   9\nTOTAL                     9\n"
  nothing_shown : page_of [] ≡ codes "TOTAL                     0\n"
  filled : line_of full ≡ codes "FEDCBA90 7 2 16 497 512 256\n"
  largest_total : total_line 57600 ≡ codes "TOTAL                 57600\n"
  largest_average : average_line 7 256 31 ≡ codes "LEVEL 7         256      31\n"
  letters : hex_in 8 0x0A1B2C3D ≡ codes "0A1B2C3D"
  letters_read : read_hex (codes "0A1B2C3D") ≡ 0x0A1B2C3D
  zero : aligned_in 3 0 ≡ codes "  0"
  ten : aligned_in 3 10 ≡ codes " 10"
  ten_read : read_aligned (codes " 10") ≡ 10
  question_16 : page_bytes ≡ 7420

pub examples : Examples
unfolding codes hex_in aligned_in front_of line_of total_line average_line sum_of levels_in page_of hex_from aligned_from select tab joined record_at records_of word_of of_kind
examples =
    record {
      session_w_0 = refl;
      session_w_1 = refl;
      objects_aside = refl;
      averages = refl;
      no_such_level = refl;
      nothing_shown = refl;
      filled = refl;
      largest_total = refl;
      largest_average = refl;
      letters = refl;
      letters_read = refl;
      zero = refl;
      ten = refl;
      ten_read = refl;
      question_16 = refl;
    }
