-- What a check leaves. No question and no meaning rests on it. Assumes nothing.
-- Law (`proofs/Laws/Checked`): the table that the check of an accepted session makes is its level table (`accepted_table`).
use Rattle.std.specs.Prelude.{ℕ, ◌≡◌, cond, ◌&&◌, List, [], ◌++◌, Result, Ok, Err, length, drop}
use Rattle.dominance.specs.declared.Fault.{Fault}
use Rattle.dominance.specs.declared.Fault.TheVariants as fault
use Rattle.session.specs.Parts.{masks_of}
use Rattle.session.specs.Questions.{question1, question2, question3, Verdict, verdict_of}
use Rattle.session.specs.declared.Question.{Question}
use Rattle.checks.specs.declared.Refused.{Refused}
use Rattle.session.specs.declared.Question.TheVariants.{NotOrdered, NoJoin, NoMeet}

-- the level table that a check makes: "each put of the whole input before the next", so none unless questions 1 to 3 say yes
unfoldable pub table_made : List ℕ → List ℕ
table_made s = cond (question1 s && question2 s && question3 s) (masks_of s) []

-- the question of a session that what refuses its level table is
abbrev pub question_of : Fault → Question
question_of fault.NotOrdered = NotOrdered
question_of fault.NoJoin = NoJoin
question_of fault.NoMeet = NoMeet

-- a verdict, with a count beside it
abbrev pub counted : ℕ → Verdict → Result ℕ Refused
counted n (Ok u) = Ok n
counted n (Err q) = Err (record { question = q; levels = n })

-- what a check of a session leaves: the verdict, with the count of levels of its table, and the table in front of what was there
pub record Checks (s before after : List ℕ) (r : Result ℕ Refused) : Type 0 where
  pub verdict : r ≡ counted (length (table_made s)) (verdict_of s)
  pub table : after ≡ table_made s ++ drop (length (table_made s)) before
