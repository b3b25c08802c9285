-- What a reader of results compares. Assumes nothing.
-- Law, in `theorems` (`Laws/Reader/Shown`): what a reader cleared to c is shown of a list that finishes is what he is shown of the depth-first run
-- of what c sees (`reader_sees`).
use Rattle.std.specs.Prelude.{ℕ, ◌≡◌, List, take}
use Rattle.session.specs.Parts.{of_kind}
use Rattle.model.specs.Result.{histories_at}
use Rattle.calls.specs.Entries.{Answer}

-- "A run .. is finished when every question it uses says yes"
abbrev pub Finished : Answer → Type 0
Finished a = a.number ≡ 0

-- "the result bytes written"
abbrev pub bytes_written : Answer → List ℕ
bytes_written a = take a.count a.buffer

-- "Histories are compared as plain bytes from then on" (document 02, job 2): two runs are equal to the reader when the bytes written are the same
abbrev pub EqualToReader : Answer → Answer → Type 0
EqualToReader a b = bytes_written a ≡ bytes_written b

-- document 01's comparison, record by record: "the result bytes written hold the same kind 5 records in the same order, for every level the same
-- kind 6 records of that level in the same order, and either the same kind 7 record or none in both"
pub record SameRecords (a b : List ℕ) : Type 0 where
  pub objects : of_kind 5 a ≡ of_kind 5 b
  pub histories : (l : ℕ) → histories_at l a ≡ histories_at l b
  pub reply : of_kind 7 a ≡ of_kind 7 b
