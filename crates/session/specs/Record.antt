-- A record and its bytes. Assumes nothing.
use Rattle.std.specs.Prelude.{ℕ, ◌+◌, ◌*◌, ◌/◌, ◌^◌, Bool, ◌&&◌, cond, List, [], ◌∷◌, eqb, leb, ltb, length, get_or, take, drop}
use Rattle.lists.specs.Range.{implies, all}
use Rattle.dominance.specs.Table.{bit}
use Rattle.session.specs.Limits.{record_bytes}
use Rattle.lists.specs.Lists.{tab}
use Rattle.session.specs.Value.{Value}
use Rattle.std.specs.Prelude.{None, Some}
use Rattle.session.specs.declared.Step.{Step}
use Rattle.session.specs.declared.Step.TheVariants.{End, Set, Add, Jump, Read, Write, Send, Quit, Create, Withdraw}

-- a record: its 16 bytes
abbrev pub Record : Type 0
Record = List ℕ

-- "A record is 16 bytes at 16 times its number; there is no header"
unfoldable pub record_at : List ℕ → ℕ → Record
record_at s r = take record_bytes (drop (record_bytes * r) s)

-- how many whole records there are
abbrev pub record_count : List ℕ → ℕ
record_count s = length s / record_bytes

-- the records of a session, in their order. Bytes that are left over belong to none
unfoldable pub records_of : List ℕ → List Record
records_of s = tab (record_count s) (record_at s)

-- so many records from record `start` on
unfoldable pub records_from : List ℕ → ℕ → ℕ → List Record
records_from s start count = tab count (λ i. record_at s (start + i))

-- "bytes count from 0"
abbrev pub byte_of : Record → ℕ → ℕ
byte_of rec k = get_or rec k 0

-- "Numbers are little-endian": 32 bits from byte k on
unfoldable pub word_of : Record → ℕ → ℕ
word_of rec k =
    byte_of rec k + 2 ^ 8 * byte_of rec (k + 1) + 2 ^ 16 * byte_of rec (k + 2) + 2 ^ 24 * byte_of rec (k + 3)

-- "unnamed bytes are 0": each chosen byte of the record is 0
unfoldable pub zero_at : (ℕ → Bool) → Record → Bool
zero_at chosen rec = all record_bytes (λ k. implies (chosen k) (eqb (byte_of rec k) 0))

-- the bytes from place a up to e, and those from a on
abbrev pub between : ℕ → ℕ → ℕ → Bool
between a e k = leb a k && ltb k e

abbrev pub from : ℕ → ℕ → Bool
from a = between a record_bytes

-- "Byte 0 is the kind"
abbrev pub kind_of : Record → ℕ
kind_of rec = byte_of rec 0

-- kinds 1 and 2: "byte 1 number"
abbrev pub number_of : Record → ℕ
number_of rec = byte_of rec 1

-- kinds 3 and 4: "byte 1 object"
abbrev pub object_of : Record → ℕ
object_of rec = byte_of rec 1

-- kind 1: "byte 2 mask"
abbrev pub mask_of : Record → ℕ
mask_of rec = byte_of rec 2

-- kind 2: "byte 2 level"
abbrev pub level_byte : Record → ℕ
level_byte rec = byte_of rec 2

-- kind 2: "byte 3 mask of fields holding a number (bit k for field k)"
abbrev pub field_mask : Record → ℕ
field_mask rec = byte_of rec 3

abbrev pub holds : Record → ℕ → Bool
holds rec k = bit (field_mask rec) k

-- kind 2: "bytes 4 to 15 three 32-bit fields"; "A field without its bit is NIL"
abbrev pub field_in : Record → ℕ → Value
field_in rec k = cond (holds rec k) (Some (word_of rec (4 + 4 * k))) None

-- kinds 3 and 4: "byte 2 message name"
abbrev pub name_of : Record → ℕ
name_of rec = byte_of rec 2

-- kind 3: "bytes 4, 5, 6 operands a, b, c, bytes 8 to 11 a number n": the step by each operation of "1 SET .. 7 QUIT"
-- and of document 02, job 7: "Operation 8, CREATE a", "Operation 9, WITHDRAW, has no operands"
abbrev pub operations : Record → List Step
operations rec =
    let a = byte_of rec 4 in
    let b = byte_of rec 5 in
    End ∷ Set a (word_of rec 8) ∷ Add a b ∷ Jump a b ∷ Read a b ∷ Write a b ∷ Send a b (byte_of rec 6) ∷ Quit a ∷ Create a ∷ Withdraw ∷ []

-- kind 3: "byte 3 operation". No operation but 1 to 9 makes a step
unfoldable pub step_of : Record → Step
step_of rec = get_or (operations rec) (byte_of rec 3) End

-- kind 4: "byte 3 tag (1 number, 0 NIL), bytes 4 to 7 parameter"
abbrev pub tag_of : Record → ℕ
tag_of rec = byte_of rec 3

abbrev pub parameter_of : Record → Value
parameter_of rec = cond (eqb (tag_of rec) 1) (Some (word_of rec 4)) None
