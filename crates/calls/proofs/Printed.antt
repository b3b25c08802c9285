-- What the program prints of session W and of some refusals, computed from the definitions. Assumes nothing.
use Prim.Native.Nat.{ℕ}
use mathlib.Core.Path.{◌≡◌, refl}
use mathlib.Core.List.{List, []}
use lib.ListN.{take, replicate}
use Rattle.session.specs.Meaning.{level_of, root_object}
use Rattle.session.specs.SessionW.{session_w}
use Rattle.model.specs.Limits.{work_numbers, result_bytes}
use Rattle.calls.specs.Entries.{Request, Answer, plain}
use Rattle.model.proofs.Computing.{computing}
use Rattle.text.proofs.Examples.{codes}
use Rattle.text.specs.Lines.{line_of, lines_of, decimal_in, refusal_line, text_of}
use Rattle.calls.proofs.Answering.{answering}

-- a session as the program runs it: "with the root's level as clearance"
abbrev lent : List ℕ → Request
lent s =
    record {
      session = s;
      clearance = level_of s (root_object s);
      work = replicate work_numbers 0;
      buffer = replicate result_bytes 0;
    }

-- what is printed of an answer
abbrev printed : Answer → List ℕ
printed a = text_of a.number a.place (take a.count a.buffer)

pub record Examples : Type 0 where
  session_w_lem : printed (plain (lent session_w))
      ≡ codes "05000001090000000000000000000000\n06000001000000000100020005000000\n07000001090000000000000000000000\n"
  -- M8
  empty_file : printed (plain (lent [])) ≡ codes "1 0\n"
  place : refusal_line 13 12 ≡ codes "13 12\n"
  largest : refusal_line 15 0xFFFFFFFF ≡ codes "15 4294967295\n"

pub examples : Examples
unfolding computing answering codes line_of lines_of decimal_in refusal_line text_of
examples = record { session_w_lem = refl; empty_file = refl; place = refl; largest = refl }
