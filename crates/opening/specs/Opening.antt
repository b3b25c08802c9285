-- What every entry does before a run. Assumes nothing.
use Rattle.std.specs.Prelude.{ℕ, ◌≡◌, Bool, List, ◌++◌, Result, Ok, Err, length, drop}
use Rattle.session.specs.Parts.{level_count}
use Rattle.session.specs.Questions.{Verdict, verdict_of, Accepted}
use Rattle.checks.specs.Checking.{table_made}
use Rattle.calls.specs.Entries.{Request, entry_refusal}
use Rattle.calls.specs.Refusals.{number_told, place_told}
use Rattle.calls.specs.declared.Refusal.{Refusal}
use Rattle.opening.specs.declared.Unopened.{Unopened}
use Rattle.calls.specs.declared.Refusal.TheVariants.{Session}

-- a verdict as that of an entry, with a count beside it
abbrev pub opened_as : ℕ → Verdict → Result ℕ Unopened
opened_as n (Ok u) = Ok n
opened_as n (Err q) = Err (record { refusal = Session q; levels = n })

-- Check's questions: what they say, with the count of levels of the table, and the table that the check makes in front of what was there. Law
-- (`proofs/Laws/Opening`): where all say yes it is the session's level table (`opened`)
pub record Opens (s before after : List ℕ) (r : Result ℕ Unopened) : Type 0 where
  pub verdict : r ≡ opened_as (length (table_made s)) (verdict_of s)
  pub table : after ≡ table_made s ++ drop (length (table_made s)) before

-- the first of Check's questions and 9 to 11 that says no, at place 0, or that all say yes, of any request of an accepted session with so many
-- levels, this clearance and a result buffer of so many bytes; `ten` is what question 10 says, or yes
pub record LentRefusal (levels clearance : ℕ) (ten : Bool) (bytes : ℕ) (r : Result Unit Refusal) : Type 0 where
  pub number : (q : Request)
      → verdict_of q.session ≡ Accepted
      → level_count q.session ≡ levels
      → q.clearance ≡ clearance
      → length q.buffer ≡ bytes
      → entry_refusal ten q ≡ number_told r
  pub place : place_told r ≡ 0
