-- What the program's functions promise. Assumes nothing.
use Rattle.std.specs.Prelude.{ℕ, ◌≡◌, ◌<◌, false, List, Result, Ok, Err, length, take}
use Rattle.std.specs.Io.KnownBytes.{Consumes, IsAtEnd}
use Rattle.std.specs.declared.option.Option.{Option}
use Rattle.io.specs.Counts.{IsPrefixLen}
use Rattle.session.specs.Questions.{question1}
use Rattle.calls.specs.Entries.{Request, plain, Answers}
use Rattle.lists.specs.Placed.{Written}
use Rattle.text.specs.Lines.{text_of}

-- "reads a session from standard input": what was read stands at the buffer's start. If it fills the buffer, question 1 says no of it
abbrev pub Within : {E : Type 0} → Result ℕ E → List ℕ → Type 0
Within (Ok n) buffer = IsPrefixLen n buffer × (n ≡ length buffer → question1 (take n buffer) ≡ false)
Within (Err e) buffer = Unit {0}

-- of an input whose bytes are known, what was read is the first of them, and all of them where they leave room in the buffer
abbrev pub Taken : {E : Type 0} → Option (List ℕ) → Option (List ℕ) → Result ℕ E → List ℕ → Type 0
Taken before after (Ok n) buffer = Consumes before after (take n buffer) × (n < length buffer → IsAtEnd after)
Taken before after (Err e) buffer = Unit {0}

-- "runs it plainly .. and prints each result record"; "A refusal prints as one line": the text of the run's number and place and of the
-- result bytes written, which q's buffer then holds
pub record Prints (q : Request) (work result before after : List ℕ) (printed : ℕ) : Type 0 where
  pub number : ℕ
  pub place : ℕ
  pub count : ℕ
  pub answers : Answers (plain q) number place count work result
  pub text : Written (text_of number place (take count result)) before after printed
