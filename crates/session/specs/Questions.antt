-- Questions 1 to 8 of document 01 and 17 of document 02, in their order and words, and the verdict on a list of bytes. A question's number is
-- not its position: 17 is put between 5 and 6. Assumes nothing.
-- Laws (`proofs/Laws/Verdict`): a session is accepted exactly where all nine questions say yes (`accepted`, `all_yes`).
use Rattle.std.specs.Prelude.{ℕ, ◌+◌, ◌*◌, ◌%◌, ◌^◌, Bool, true, false, cond, ◌&&◌, ◌||◌, List, [], ◌∷◌, Result, Ok, Err, eqb, leb, ltb, length}
use Rattle.lists.specs.Range.{all}
use Rattle.dominance.specs.Table.{is_ordered, is_joined, is_met}
use Rattle.session.specs.Limits.{record_bytes, max_records, max_levels, max_objects, made_objects, max_steps, max_method, names, registers, fields}
use Rattle.lists.specs.Lists.{every, rising_from, counts_from}
use Rattle.session.specs.Record.{Record, record_count, records_of, zero_at, from, between, kind_of, number_of, object_of, level_byte, field_mask, holds, name_of, step_of, tag_of}
use Rattle.session.specs.Parts.{level_records, object_records, step_records, root_records, level_count, object_count, step_count, masks_of, key_of, of_method, root_record}
use Rattle.session.specs.declared.Step.{Step}
use Rattle.session.specs.declared.Step.TheVariants.{End, Set, Add, Jump, Read, Write, Send, Quit, Create, Withdraw}
use Rattle.session.specs.declared.Question.{Question}
use Rattle.session.specs.declared.Question.TheVariants.{Length, Kinds, Numbering, NotOrdered, NoJoin, NoMeet, Object, Script, Root}

-- 1. Is the length 1 to 297 whole records?
unfoldable pub question1 : List ℕ → Bool
question1 s =
    eqb (length s % record_bytes) 0 && leb 1 (record_count s) && leb (record_count s) max_records

-- kinds are 1 to 4 and never falling
unfoldable pub kinds_rise : List ℕ → Bool
kinds_rise s =
    every (λ rec. leb 1 (kind_of rec) && leb (kind_of rec) 4) (records_of s) && rising_from kind_of 0 (records_of s)

-- 2. Are kinds 1 to 4 and never falling, with at least one of each of kinds 1 and 2, and exactly one kind 4?
unfoldable pub question2 : List ℕ → Bool
question2 s = kinds_rise s && leb 1 (level_count s) && leb 1 (object_count s) && eqb (length (root_records s)) 1

-- 3. Are there at most 8 levels, 32 objects, 256 steps, levels and objects numbered 0, 1, 2.. in order, unnamed bytes of kind 1 zero?
unfoldable pub question3 : List ℕ → Bool
question3 s =
    leb (level_count s) max_levels
    && leb (object_count s) max_objects
    && leb (step_count s) max_steps
    && counts_from number_of 0 (level_records s)
    && counts_from number_of 0 (object_records s)
    && every (zero_at (from 3)) (level_records s)

-- 4. Does each mask name only present levels and its own, do no two levels dominate each other, and does dominance carry through?
abbrev pub question4 : List ℕ → Bool
question4 s = is_ordered (masks_of s)

-- 5. Has every pair of levels a least upper bound?
abbrev pub question5 : List ℕ → Bool
question5 s = is_joined (masks_of s)

-- 17, "put straight after question 5": has each pair of levels a greatest lower bound?
abbrev pub question17 : List ℕ → Bool
question17 s = is_met (masks_of s)

-- field k holds a number, or is NIL and 0
abbrev pub field_valid : Record → ℕ → Bool
field_valid rec k = holds rec k || zero_at (between (4 + 4 * k) (4 + 4 * k + 4)) rec

-- an object's level present, its mask below 8, each NIL field 0
unfoldable pub object_valid : ℕ → Record → Bool
object_valid levels rec =
    ltb (level_byte rec) levels
    && ltb (field_mask rec) (2 ^ fields)
    && all fields (field_valid rec)

-- 6. Is each object's level present, its mask below 8, each NIL field 0?
unfoldable pub question6 : List ℕ → Bool
question6 s = every (object_valid (level_count s)) (object_records s)

-- a number of an object, among so many levels and objects: of one of the session's, or one that a present level owns. "numbers to 63 in
-- SEND if their level is present"
unfoldable pub is_number : ℕ → ℕ → ℕ → Bool
is_number levels objects n = ltb n objects || (leb max_objects n && ltb n (max_objects + made_objects * levels))

-- among so many levels and objects and in a method of so many steps: registers 0 to 3, fields 0 to 2, jump target at most the method's
-- step count, SEND's name and object valid. No operation but 1 to 9 makes a step
unfoldable pub operands_fit : ℕ → ℕ → ℕ → Step → Bool
operands_fit levels objects count End = false
operands_fit levels objects count (Set a n) = ltb a registers
operands_fit levels objects count (Add a b) = ltb a registers && ltb b registers
operands_fit levels objects count (Jump a b) = ltb a registers && leb b count
operands_fit levels objects count (Read a b) = ltb a registers && ltb b fields
operands_fit levels objects count (Write a b) = ltb a registers && ltb b fields
operands_fit levels objects count (Send a b c) = ltb a registers && ltb b names && is_number levels objects c
operands_fit levels objects count (Quit a) = ltb a registers
operands_fit levels objects count (Create a) = ltb a registers
operands_fit levels objects count Withdraw = true

-- "Operands not named here are 0", and so are byte 7, bytes 12 to 15, and n in all but SET
unfoldable pub unused_bytes : Step → ℕ → Bool
unused_bytes End = from 4
unused_bytes (Set a n) = λ k. between 5 8 k || from 12 k
unused_bytes (Add a b) = from 6
unused_bytes (Jump a b) = from 6
unused_bytes (Read a b) = from 6
unused_bytes (Write a b) = from 6
unused_bytes (Send a b c) = from 7
unused_bytes (Quit a) = from 5
unused_bytes (Create a) = from 5
unused_bytes Withdraw = from 4

-- a step among so many levels and objects and in a method of so many steps: object present, name at most 15, operation 1 to 9 with
-- operands that fit, unused bytes 0
unfoldable pub step_valid : ℕ → ℕ → ℕ → Record → Bool
step_valid levels objects count rec =
    let step = step_of rec in
    ltb (object_of rec) objects && ltb (name_of rec) names && (operands_fit levels objects count step && zero_at (unused_bytes step) rec)

-- a step among some steps, of which those of its method are at most 16
unfoldable pub script_valid : ℕ → ℕ → List Record → Record → Bool
script_valid levels objects steps rec =
    let count = length (of_method (key_of rec) steps) in
    leb count max_method && step_valid levels objects count rec

abbrev pub methods_valid : ℕ → ℕ → List Record → Bool
methods_valid levels objects steps = every (script_valid levels objects steps) steps

unfoldable pub scripts_valid : ℕ → ℕ → List Record → Bool
scripts_valid levels objects steps = rising_from key_of 0 steps && methods_valid levels objects steps

-- 7. In steps: object present, name at most 15, (object, name) never falling, at most 16 steps a method, operation 1 to 9, registers
-- 0 to 3, fields 0 to 2, jump target at most the method's step count, SEND's name and object valid, unused bytes 0?
abbrev pub question7 : List ℕ → Bool
question7 s = scripts_valid (level_count s) (object_count s) (step_records s)

-- the root's object present, name at most 15, tag 0 or 1, a NIL parameter 0, unused bytes 0
unfoldable pub root_valid : ℕ → Record → Bool
root_valid objects rec =
    ltb (object_of rec) objects
    && ltb (name_of rec) names
    && leb (tag_of rec) 1
    && (eqb (tag_of rec) 1 || zero_at (between 4 8) rec)
    && zero_at (from 8) rec

-- 8. Is the root's object present, name at most 15, tag 0 or 1, a NIL parameter 0, unused bytes 0?
abbrev pub question8 : List ℕ → Bool
question8 s = root_valid (object_count s) (root_record s)

-- a question's answer, and what refuses where it says no
pub record Asked : Type 0 where
  pub says : Bool
  pub refusal : Question

-- what the questions say of a session: that all say yes, or the first that says no
abbrev pub Verdict : Type 0
Verdict = Result Unit Question

abbrev pub Accepted : Verdict
Accepted = Ok tt

-- "each put of the whole input before the next": the refusal of the first question that says no
unfoldable pub first_no : List Asked → Verdict
first_no [] = Accepted
first_no (q ∷ qs) = cond q.says (first_no qs) (Err q.refusal)

-- the questions that Check uses, in the order in which they are put
abbrev pub asked : List ℕ → List Asked
asked s =
    record { says = question1 s; refusal = Length }
    ∷ record { says = question2 s; refusal = Kinds }
    ∷ record { says = question3 s; refusal = Numbering }
    ∷ record { says = question4 s; refusal = NotOrdered }
    ∷ record { says = question5 s; refusal = NoJoin }
    ∷ record { says = question17 s; refusal = NoMeet }
    ∷ record { says = question6 s; refusal = Object }
    ∷ record { says = question7 s; refusal = Script }
    ∷ record { says = question8 s; refusal = Root }
    ∷ []

-- the verdict on a list of bytes
unfoldable pub verdict_of : List ℕ → Verdict
verdict_of s = first_no (asked s)

-- the documents' number of a question
abbrev pub number_of_question : Question → ℕ
number_of_question Length = 1
number_of_question Kinds = 2
number_of_question Numbering = 3
number_of_question NotOrdered = 4
number_of_question NoJoin = 5
number_of_question NoMeet = 17
number_of_question Object = 6
number_of_question Script = 7
number_of_question Root = 8

-- and of a verdict
abbrev pub number_of_verdict : Verdict → ℕ
number_of_verdict (Ok u) = 0
number_of_verdict (Err q) = number_of_question q

-- "An answer of no ends the call with the number shown and a place: .. otherwise 0", "All yes gives number 0, place 0"
pub record Answer : Type 0 where
  pub number : ℕ
  pub place : ℕ

abbrev pub answer_of : Verdict → Answer
answer_of v = record { number = number_of_verdict v; place = 0 }
