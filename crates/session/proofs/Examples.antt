-- Sessions computed by the definitions: document 01's session W and M8, W with one fault for each question, W emptied for level 0,
-- and the whole bytes of a session emptied for a level with others above and beside it.
-- Assumes nothing.
use Prim.Native.Nat.{ℕ, ◌+◌, ◌*◌}
use mathlib.Core.Path.{◌≡◌, refl}
use mathlib.Core.List.{List, [], ◌∷◌, ◌++◌}
use lib.ListN.{length, take, drop, set, replicate}
use Rattle.lists.specs.Range.{all, first}
use Rattle.dominance.specs.Order.{reflexive, antisymmetric, transitive, is_order}
use Rattle.dominance.specs.Join.{is_least, join, has_joins}
use Rattle.dominance.specs.Table.{dominates, names_present, is_ordered}
use Rattle.lists.specs.Lists.{every, select, rising_from, counts_from, tab, joined}
use Rattle.session.specs.Record.{record_at, records_of, word_of, zero_at, step_of}
use Rattle.session.specs.Parts.{of_kind, masks_of, method_records}
use Rattle.session.specs.Questions.{question1, kinds_rise, question2, question3, object_valid, question6, is_number, operands_fit, unused_bytes, step_valid, script_valid, scripts_valid, root_valid, first_no, verdict_of, number_of_verdict}
use Rattle.session.specs.Meaning.{owner_of, level_of, field_of, method_of, root_parameter}
use Rattle.session.specs.Emptied.{stays, blanked, emptied}
use Rattle.session.specs.SessionW.{session_w}
use Rattle.std.specs.Prelude.{None, Some}
use Rattle.session.specs.declared.Step.TheVariants.{Set, Read, Write, Send, Quit}

-- the documents' number for a list of bytes
abbrev number : List ℕ → ℕ
number s = number_of_verdict (verdict_of s)

-- W with byte k of record r changed
abbrev with : ℕ → ℕ → ℕ → List ℕ
with r k v = set session_w (16 * r + k) v

-- masks 01, 02, 07, one object at level 0, and the root message to it
abbrev unmet : List ℕ
unmet =
    1 ∷ 0 ∷ 1 ∷ replicate 13 0
    ++ 1 ∷ 1 ∷ 2 ∷ replicate 13 0
    ++ 1 ∷ 2 ∷ 7 ∷ replicate 13 0
    ++ 2 ∷ replicate 15 0
    ++ 4 ∷ replicate 15 0

-- level 3 over 1 and 2, and these over 0. Objects 0 to 3 at levels 2, 0, 3 and 1 hold values and have scripts; object 1 sends to
-- object 0, which the root message goes to, with the number 6
abbrev diamond : List ℕ
diamond =
    1 ∷ 0 ∷ 1 ∷ 0 ∷ 0 ∷ 0 ∷ 0 ∷ 0 ∷ 0 ∷ 0 ∷ 0 ∷ 0 ∷ 0 ∷ 0 ∷ 0 ∷ 0
    ∷ 1 ∷ 1 ∷ 3 ∷ 0 ∷ 0 ∷ 0 ∷ 0 ∷ 0 ∷ 0 ∷ 0 ∷ 0 ∷ 0 ∷ 0 ∷ 0 ∷ 0 ∷ 0
    ∷ 1 ∷ 2 ∷ 5 ∷ 0 ∷ 0 ∷ 0 ∷ 0 ∷ 0 ∷ 0 ∷ 0 ∷ 0 ∷ 0 ∷ 0 ∷ 0 ∷ 0 ∷ 0
    ∷ 1 ∷ 3 ∷ 15 ∷ 0 ∷ 0 ∷ 0 ∷ 0 ∷ 0 ∷ 0 ∷ 0 ∷ 0 ∷ 0 ∷ 0 ∷ 0 ∷ 0 ∷ 0
    ∷ 2 ∷ 0 ∷ 2 ∷ 5 ∷ 7 ∷ 0 ∷ 0 ∷ 0 ∷ 0 ∷ 0 ∷ 0 ∷ 0 ∷ 4 ∷ 3 ∷ 2 ∷ 1
    ∷ 2 ∷ 1 ∷ 0 ∷ 1 ∷ 5 ∷ 0 ∷ 0 ∷ 0 ∷ 0 ∷ 0 ∷ 0 ∷ 0 ∷ 0 ∷ 0 ∷ 0 ∷ 0
    ∷ 2 ∷ 2 ∷ 3 ∷ 2 ∷ 0 ∷ 0 ∷ 0 ∷ 0 ∷ 9 ∷ 0 ∷ 0 ∷ 0 ∷ 0 ∷ 0 ∷ 0 ∷ 0
    ∷ 2 ∷ 3 ∷ 1 ∷ 4 ∷ 0 ∷ 0 ∷ 0 ∷ 0 ∷ 0 ∷ 0 ∷ 0 ∷ 0 ∷ 6 ∷ 0 ∷ 0 ∷ 0
    ∷ 3 ∷ 0 ∷ 0 ∷ 7 ∷ 0 ∷ 0 ∷ 0 ∷ 0 ∷ 0 ∷ 0 ∷ 0 ∷ 0 ∷ 0 ∷ 0 ∷ 0 ∷ 0
    ∷ 3 ∷ 1 ∷ 0 ∷ 6 ∷ 0 ∷ 0 ∷ 0 ∷ 0 ∷ 0 ∷ 0 ∷ 0 ∷ 0 ∷ 0 ∷ 0 ∷ 0 ∷ 0
    ∷ 3 ∷ 1 ∷ 0 ∷ 7 ∷ 0 ∷ 0 ∷ 0 ∷ 0 ∷ 0 ∷ 0 ∷ 0 ∷ 0 ∷ 0 ∷ 0 ∷ 0 ∷ 0
    ∷ 3 ∷ 2 ∷ 3 ∷ 4 ∷ 1 ∷ 1 ∷ 0 ∷ 0 ∷ 0 ∷ 0 ∷ 0 ∷ 0 ∷ 0 ∷ 0 ∷ 0 ∷ 0
    ∷ 3 ∷ 3 ∷ 0 ∷ 5 ∷ 0 ∷ 2 ∷ 0 ∷ 0 ∷ 0 ∷ 0 ∷ 0 ∷ 0 ∷ 0 ∷ 0 ∷ 0 ∷ 0
    ∷ 4 ∷ 0 ∷ 0 ∷ 1 ∷ 6 ∷ 0 ∷ 0 ∷ 0 ∷ 0 ∷ 0 ∷ 0 ∷ 0 ∷ 0 ∷ 0 ∷ 0 ∷ 0
    ∷ []

-- emptied for level 1, which dominates levels 0 and 1: objects 0 and 2 keep kind, number and level, and have neither fields nor scripts
abbrev diamond_for1 : List ℕ
diamond_for1 =
    1 ∷ 0 ∷ 1 ∷ 0 ∷ 0 ∷ 0 ∷ 0 ∷ 0 ∷ 0 ∷ 0 ∷ 0 ∷ 0 ∷ 0 ∷ 0 ∷ 0 ∷ 0
    ∷ 1 ∷ 1 ∷ 3 ∷ 0 ∷ 0 ∷ 0 ∷ 0 ∷ 0 ∷ 0 ∷ 0 ∷ 0 ∷ 0 ∷ 0 ∷ 0 ∷ 0 ∷ 0
    ∷ 1 ∷ 2 ∷ 5 ∷ 0 ∷ 0 ∷ 0 ∷ 0 ∷ 0 ∷ 0 ∷ 0 ∷ 0 ∷ 0 ∷ 0 ∷ 0 ∷ 0 ∷ 0
    ∷ 1 ∷ 3 ∷ 15 ∷ 0 ∷ 0 ∷ 0 ∷ 0 ∷ 0 ∷ 0 ∷ 0 ∷ 0 ∷ 0 ∷ 0 ∷ 0 ∷ 0 ∷ 0
    ∷ 2 ∷ 0 ∷ 2 ∷ 0 ∷ 0 ∷ 0 ∷ 0 ∷ 0 ∷ 0 ∷ 0 ∷ 0 ∷ 0 ∷ 0 ∷ 0 ∷ 0 ∷ 0
    ∷ 2 ∷ 1 ∷ 0 ∷ 1 ∷ 5 ∷ 0 ∷ 0 ∷ 0 ∷ 0 ∷ 0 ∷ 0 ∷ 0 ∷ 0 ∷ 0 ∷ 0 ∷ 0
    ∷ 2 ∷ 2 ∷ 3 ∷ 0 ∷ 0 ∷ 0 ∷ 0 ∷ 0 ∷ 0 ∷ 0 ∷ 0 ∷ 0 ∷ 0 ∷ 0 ∷ 0 ∷ 0
    ∷ 2 ∷ 3 ∷ 1 ∷ 4 ∷ 0 ∷ 0 ∷ 0 ∷ 0 ∷ 0 ∷ 0 ∷ 0 ∷ 0 ∷ 6 ∷ 0 ∷ 0 ∷ 0
    ∷ 3 ∷ 1 ∷ 0 ∷ 6 ∷ 0 ∷ 0 ∷ 0 ∷ 0 ∷ 0 ∷ 0 ∷ 0 ∷ 0 ∷ 0 ∷ 0 ∷ 0 ∷ 0
    ∷ 3 ∷ 1 ∷ 0 ∷ 7 ∷ 0 ∷ 0 ∷ 0 ∷ 0 ∷ 0 ∷ 0 ∷ 0 ∷ 0 ∷ 0 ∷ 0 ∷ 0 ∷ 0
    ∷ 3 ∷ 3 ∷ 0 ∷ 5 ∷ 0 ∷ 2 ∷ 0 ∷ 0 ∷ 0 ∷ 0 ∷ 0 ∷ 0 ∷ 0 ∷ 0 ∷ 0 ∷ 0
    ∷ 4 ∷ 0 ∷ 0 ∷ 1 ∷ 6 ∷ 0 ∷ 0 ∷ 0 ∷ 0 ∷ 0 ∷ 0 ∷ 0 ∷ 0 ∷ 0 ∷ 0 ∷ 0
    ∷ []

pub record Examples : Type 0 where
  w : number session_w ≡ 0
  w_levels : masks_of session_w ≡ 0x01 ∷ 0x03 ∷ []
  w_level : level_of session_w 1 ≡ 1
  -- "Level n owns numbers 32 + 4n to 35 + 4n"
  made_first : level_of session_w 32 ≡ 0
  made_last : level_of session_w 35 ≡ 0
  made_above : level_of session_w 36 ≡ 1
  made_last_above : level_of session_w 39 ≡ 1
  made_nowhere : level_of session_w 40 ≡ 0
  w_field : field_of session_w 0 0 ≡ Some 5
  w_nil : field_of session_w 1 0 ≡ None
  w_method : method_of session_w 0 0 ≡ Read 0 0 ∷ Send 0 0 1 ∷ Set 1 9 ∷ Write 1 0 ∷ Quit 1 ∷ []
  w_no_method : method_of session_w 1 1 ≡ []
  w_root : root_parameter session_w ≡ None
  m8 : number [] ≡ 1
  cut_short : number (take 239 session_w) ≡ 1
  root_missing : number (take 224 session_w) ≡ 2
  unknown_kind : number (with 14 0 5) ≡ 2
  two_roots : number (session_w ++ drop 224 session_w) ≡ 2
  kinds_fall : number (with 2 0 3) ≡ 2
  level_misnumbered : number (with 1 1 0) ≡ 3
  level_padding : number (with 1 15 1) ≡ 3
  own_bit_missing : number (with 1 2 0x01) ≡ 4
  no_bound : number (with 1 2 0x02) ≡ 5
  -- 17 is put after 5 and before 6, whatever its number
  no_lower_bound : number unmet ≡ 17
  seventeen_before_6 : number (set unmet (16 * 3 + 2) 9) ≡ 17
  five_before_17 : number (set unmet (16 * 2 + 2) 0x04) ≡ 5
  six_else : number (set (set unmet (16 * 1 + 2) 0x03) (16 * 3 + 2) 9) ≡ 6
  level_absent : number (with 2 2 2) ≡ 6
  mask_8 : number (with 3 3 8) ≡ 6
  nil_not_0 : number (with 3 7 1) ≡ 6
  unknown_operation : number (with 4 3 10) ≡ 7
  -- CREATE and WITHDRAW, and what of them is unused
  create : number (with 4 3 8) ≡ 0
  create_register_4 : number (set (with 4 3 8) (16 * 4 + 4) 4) ≡ 7
  create_byte_5 : number (set (with 4 3 8) (16 * 4 + 5) 1) ≡ 7
  withdraw : number (with 4 3 9) ≡ 0
  withdraw_byte_4 : number (set (with 4 3 9) (16 * 4 + 4) 1) ≡ 7
  -- SEND's numbers: the session's two, none up to 31, then four of each of the two levels
  send_to_2 : number (with 5 6 2) ≡ 7
  send_to_31 : number (with 5 6 31) ≡ 7
  send_to_32 : number (with 5 6 32) ≡ 0
  send_to_39 : number (with 5 6 39) ≡ 0
  send_to_40 : number (with 5 6 40) ≡ 7
  jump_too_far : number (set (with 4 3 3) (16 * 4 + 5) 6) ≡ 7
  jump_to_the_end : number (set (with 4 3 3) (16 * 4 + 5) 5) ≡ 0
  number_unused : number (with 8 8 1) ≡ 7
  names_fall : number (with 4 2 1) ≡ 7
  root_absent : number (with 14 1 2) ≡ 8
  tag_2 : number (with 14 3 2) ≡ 8
  nil_parameter_not_0 : number (with 14 4 1) ≡ 8
  -- emptied for level 0: object 1 has no fields and no script, all else stays
  emptied_accepted : number (emptied 0 session_w) ≡ 0
  emptied-length : length (emptied 0 session_w) ≡ 16 * 12
  emptied_method : method_of (emptied 0 session_w) 1 0 ≡ []
  emptied_for_1 : emptied 1 session_w ≡ session_w
  diamond_accepted : number diamond ≡ 0
  -- levels above it and beside it are hidden
  emptied_whole : emptied 1 diamond ≡ diamond_for1

pub examples : Examples
unfolding all first reflexive antisymmetric transitive is_order is_least join has_joins dominates names_present is_ordered every select rising_from counts_from tab joined record_at records_of word_of zero_at step_of of_kind masks_of method_records question1 kinds_rise question2 question3 object_valid question6 is_number operands_fit unused_bytes step_valid script_valid scripts_valid root_valid first_no verdict_of owner_of level_of method_of stays blanked emptied session_w
examples =
    record {
      w = refl;
      w_levels = refl;
      w_level = refl;
      made_first = refl;
      made_last = refl;
      made_above = refl;
      made_last_above = refl;
      made_nowhere = refl;
      w_field = refl;
      w_nil = refl;
      w_method = refl;
      w_no_method = refl;
      w_root = refl;
      m8 = refl;
      cut_short = refl;
      root_missing = refl;
      unknown_kind = refl;
      two_roots = refl;
      kinds_fall = refl;
      level_misnumbered = refl;
      level_padding = refl;
      own_bit_missing = refl;
      no_bound = refl;
      no_lower_bound = refl;
      seventeen_before_6 = refl;
      five_before_17 = refl;
      six_else = refl;
      level_absent = refl;
      mask_8 = refl;
      nil_not_0 = refl;
      unknown_operation = refl;
      create = refl;
      create_register_4 = refl;
      create_byte_5 = refl;
      withdraw = refl;
      withdraw_byte_4 = refl;
      send_to_2 = refl;
      send_to_31 = refl;
      send_to_32 = refl;
      send_to_39 = refl;
      send_to_40 = refl;
      jump_too_far = refl;
      jump_to_the_end = refl;
      number_unused = refl;
      names_fall = refl;
      root_absent = refl;
      tag_2 = refl;
      nil_parameter_not_0 = refl;
      emptied_accepted = refl;
      emptied-length = refl;
      emptied_method = refl;
      emptied_for_1 = refl;
      diamond_accepted = refl;
      emptied_whole = refl;
    }
