-- The whole answer of the page entry, for every input. Assumes nothing.
-- Law, in `page` (`Laws/Fits`): the page of an accepted session fits question 16's buffer (`page_fits`).
use Rattle.std.specs.Prelude.{ℕ, ◌≡◌, Bool, true, cond, List, Result, Ok, Err, eqb, leb, length}
use Rattle.model.specs.Limits.{page_bytes}
use Rattle.calls.specs.Entries.{Request, entry_refusal, deep}
use Rattle.lists.specs.Placed.{written_over}
use Rattle.calls.specs.Reader.{bytes_written}
use Rattle.text.specs.Text.{page_of}
use Rattle.calls.specs.Refusals.{number_told, place_told}
use Rattle.calls.specs.declared.Refusal.{Refusal}
use Rattle.calls.specs.declared.PageCounts.{PageCounts}

-- 16. Is the page buffer at least 7,420 bytes?
abbrev pub question16 : List ℕ → Bool
question16 page = leb page_bytes (length page)

-- the first of Check's questions, 9, 11 and 16 that says no, or 0: "16 .. put after question 11"
unfoldable pub page_refusal : Request → List ℕ → ℕ
page_refusal q page =
    let number = entry_refusal true q in
    cond (eqb number 0) (cond (question16 page) 0 16) number

-- the answer, and what the result buffer and the page buffer hold afterwards
pub record Paged : Type 0 where
  pub number : ℕ
  pub place : ℕ
  pub count : ℕ
  pub page_count : ℕ
  pub buffer : List ℕ
  pub page : List ℕ

-- "after any refusal here both buffers are untouched"; "a refusal 0"
abbrev pub page_refused : Request → List ℕ → ℕ → Paged
page_refused q page number =
    record { number = number; place = 0; count = 0; page_count = 0; buffer = q.buffer; page = page }

-- "The page entry makes the depth-first run .. and writes its result records too"; "Success also gives the page's byte count"; "beyond the page
-- nothing changes". The page is that of the result bytes written
unfoldable pub paged : Request → List ℕ → Paged
paged q page =
    let ran = deep q in
    let text = page_of (bytes_written ran) in
    let number = page_refusal q page in
    cond (eqb number 0) (record {
      number = 0;
      place = 0;
      count = ran.count;
      page_count = length text;
      buffer = ran.buffer;
      page = written_over text page;
    }) (page_refused q page number)

-- what the entry hands back
abbrev pub PageResult : Type 0
PageResult = Result PageCounts Refusal

-- both counts that it tells: "a refusal 0"
abbrev pub counts_told : PageResult → PageCounts
counts_told (Ok counts) = counts
counts_told (Err r) = record { count = 0; page_count = 0 }

-- an entry's answer and what both buffers hold afterwards are those of a definition's answer
abbrev pub PageAnswers : Paged → PageResult → List ℕ → List ℕ → Type 0
PageAnswers a r buffer page =
    record {
      number = number_told r;
      place = place_told r;
      count = (counts_told r).count;
      page_count = (counts_told r).page_count;
      buffer = buffer;
      page = page;
    } ≡ a
