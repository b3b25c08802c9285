-- What the computed cases share. To name `computing` on an `unfolding` line opens the definitions of a session, a run and its result: those
-- of its own line. Assumes nothing.
use Prim.Native.Nat.{ℕ}
use mathlib.Core.List.{List, []}
use lib.ListN.{length, get_or}
use Rattle.dominance.specs.Table as table
use Rattle.lists.specs.Range.{all, first}
use Rattle.dominance.specs.Order.{reflexive, antisymmetric, transitive, is_order}
use Rattle.dominance.specs.Join.{is_least, join, has_joins}
use Rattle.dominance.specs.Table.{dominates, names_present, is_ordered}
use Rattle.lists.specs.Lists.{every, select, rising_from, counts_from, tab, joined}
use Rattle.session.specs.Record.{record_at, records_of, word_of, zero_at, step_of}
use Rattle.session.specs.Parts.{of_kind, masks_of, method_records}
use Rattle.session.specs.Questions.{question1, kinds_rise, question2, question3, object_valid, question6, is_number, operands_fit, unused_bytes, step_valid, script_valid, scripts_valid, root_valid, first_no, verdict_of}
use Rattle.session.specs.Meaning.{owner_of, level_of, method_of}
use Rattle.session.specs.Emptied.{emptied, blanked, stays}
use Rattle.session.specs.SessionW.{session_w}
use Rattle.session.specs.Program.{Program, program_of, seen_by}
use Rattle.std.specs.Prelude.{None}
use Rattle.session.specs.declared.Message.{Message}
use Rattle.session.specs.declared.Step.{Step}
use Rattle.session.specs.declared.Step.TheVariants.{End}
use Rattle.fates.specs.Filter.{fate_of}
use Rattle.scripts.specs.Existence.{initially, used_of}
use Rattle.scripts.specs.Value.{sum, is_nil_or0}
use Rattle.scripts.specs.Frame.{with_register}
use Rattle.scripts.specs.Manager.{popped, settled, concluded, started, charged, written, created, called, forked, sent, operated, stepped}
use Rattle.lists.specs.Changed.{inserted, modify, last_or}
use Rattle.model.specs.Fork.{child_of}
use Rattle.model.specs.History.{end_before}
use Rattle.model.specs.Level.{arrived, after, newest, newest_to}
use Rattle.model.specs.Step.{view_of, read_at, advanced, begun, moved, delivered, move_at, step_at}
use Rattle.model.specs.Schedule.{Outcome, finished, refused, read_in, is_free, question14, question15, refusal_under, run_under, run_of, lowest, chosen_from, plain_order}
use Rattle.model.specs.DepthFirst.{current, close, effected, finish, run_fork, depth_first}
use Rattle.model.specs.Result.{result_of, result_of_depth_first, object_record, history_record, reply_record, objects_shown, histories_shown, reply_shown, bytes_of}

unfoldable pub computing : Unit {0}
unfolding table.verdict_of all first reflexive antisymmetric transitive is_order is_least join has_joins dominates names_present is_ordered every select rising_from counts_from tab joined record_at records_of word_of zero_at step_of of_kind masks_of method_records question1 kinds_rise question2 question3 object_valid question6 is_number operands_fit unused_bytes step_valid script_valid scripts_valid root_valid first_no verdict_of owner_of level_of method_of emptied blanked stays session_w program_of initially used_of seen_by fate_of sum is_nil_or0 with_register popped settled concluded started charged written created called forked sent operated stepped inserted modify last_or child_of end_before arrived after newest newest_to view_of read_at advanced begun moved delivered move_at step_at read_in is_free question14 question15 refusal_under run_under run_of lowest chosen_from plain_order current close effected finish run_fork depth_first object_record history_record reply_record objects_shown histories_shown reply_shown bytes_of
computing = tt

-- a program by its masks: an object at each level, of the same number, its fields NIL, with these methods
abbrev pub each_level : List ℕ → List (List (List Step)) → Program
each_level masks methods =
    record {
      levels = length masks;
      dom = table.dominates masks;
      objects = length masks;
      level = λ o. o;
      field = λ o k. None;
      step = λ o name j. get_or (get_or (get_or methods o []) name []) j End;
    }

-- the message of name 0 to an object, with no parameter
abbrev pub message : ℕ → Message
message o = record { object = o; name = 0; parameter = None }

-- the result bytes of a program's plain run, and of its depth-first run, of that message, for a clearance
abbrev pub bytes_after : Program → ℕ → ℕ → Outcome → List ℕ
bytes_after p o c (finished st) = bytes_of p (p.level o) (result_of p st) c
bytes_after p o c (refused number place) = []

abbrev pub plain_bytes : Program → ℕ → ℕ → List ℕ
plain_bytes p o c = bytes_after p o c (run_of p (message o) (plain_order p (message o)))

abbrev pub deep_bytes : Program → ℕ → ℕ → List ℕ
deep_bytes p o c =
    bytes_of p (p.level o) (result_of_depth_first p (depth_first p (message o))) c
