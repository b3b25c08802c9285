-- The answer of the page entry, by the question that ends the call, or where all say yes. Assumes nothing.
use Prim.Native.Nat.{ℕ, ◌≤◌, ◌<◌}
use mathlib.Core.Path.{◌≡◌, refl, sym, ◌∙◌, ap}
use mathlib.Core.Bool.{true}
use mathlib.Core.List.{List, []}
use native.Mathlib.Omega.{arith}
use borrow.Author.Tests.{eq-eqb, ne_eqb, le-leb, lt-leb}
use lib.ListN.{length, take, length-append, drop}
use Rattle.model.specs.Limits.{result_bytes, page_bytes}
use Rattle.calls.specs.Entries.{Request, entry_refusal}
use Rattle.lists.specs.Placed.{written_over, Written}
use Rattle.theorems.proofs.Laws.Reader.Answers.{passes, deep_is}
use Rattle.theorems.proofs.Laws.Reader.Bytes.{written_bytes}
use Rattle.std.specs.Prelude.{Ok, Err}
use Rattle.calls.specs.Refusals.{number_of_refusal, place_of_refusal}
use Rattle.calls.specs.declared.Refusal.{Refusal}
use Rattle.calls.specs.declared.Refusal.TheVariants.{ShortPage}
use Rattle.opening.specs.Opening.{Opens}
use Rattle.opening.specs.declared.Unopened.{Unopened}
use Rattle.opening.proofs.Laws.Opening.{number_some, unopened}
use Rattle.depth_first.specs.Runs.{bytes_shown, Shown}
use Rattle.text.specs.Text.{page_of}
use Rattle.calls.specs.Page.{page_refusal, page_refused, paged, PageAnswers}
use Rattle.page.proofs.Laws.Fits.{page_fits}

abbrev pub request : List ℕ → ℕ → List ℕ → Request
request s c b = record { session = s; clearance = c; work = []; buffer = b }

module _ (q : Request) (page : List ℕ) where
  -- a question says no
  refuses : (number : ℕ) → page_refusal q page ≡ number → (number ≡ 0 → ⊥) → paged q page ≡ page_refused q page number
  unfolding paged
  refuses number e n = rw (e, ne_eqb number 0 n) refl

  answers-no : (r : Refusal) → page_refusal q page ≡ number_of_refusal r → place_of_refusal r ≡ 0 → PageAnswers (paged q page) (Err r) q.buffer page
  answers-no r e p = rw p (sym (refuses (number_of_refusal r) e (number_some r)))

  -- 1 to 9 and 11
  pub answers_refusal : (r : Refusal) → entry_refusal true q ≡ number_of_refusal r → place_of_refusal r ≡ 0 → PageAnswers (paged q page) (Err r) q.buffer page
  answers_refusal r e = answers-no r (unfold page_refusal in rw (e, ne_eqb (number_of_refusal r) 0 (number_some r)) refl)

  -- 1 to 8
  pub answers_unopened : {before after : List ℕ} (r : Unopened) → Opens q.session before after (Err r) → PageAnswers (paged q page) (Err r.refusal) q.buffer page
  answers_unopened r o = let (e, p) = unopened true q r o in answers_refusal r.refusal e p

  module _ (yes : entry_refusal true q ≡ 0) where
    -- 16
    pub answers-16 : length page < page_bytes → PageAnswers (paged q page) (Err ShortPage) q.buffer page
    answers-16 h = answers-no ShortPage (unfold page_refusal in rw (yes, lt-leb page_bytes (length page) h) refl) refl

    -- all say yes
    all_yes : page_bytes ≤ length page → page_refusal q page ≡ 0
    unfolding page_refusal
    all_yes h = rw (yes, le-leb page_bytes (length page) h) refl

module _ (s : List ℕ) (c : ℕ) (b page : List ℕ) (yes : entry_refusal true (request s c b) ≡ 0) where
  abbrev q : Request
  q = request s c b

  abbrev bytes : List ℕ
  bytes = bytes_shown s c

  -- the result bytes written, as they stand in the buffer
  cut : (count : ℕ) (b' : List ℕ) → Shown s c b b' count → take count b' ≡ bytes
  cut count b' t = rw (t.written.number, t.written.buffer) (written_bytes bytes b)

  -- what the text of the page asks
  pub page_room : page_bytes ≤ length page → (count : ℕ) (b' : List ℕ) → Shown s c b b' count → length (page_of (take count b')) ≤ length page
  page_room h count b' t =
      rw (cut count b' t) (omega (arith, h, page_fits s (passes true q yes).accepted c))

  pub bytes_few : (count : ℕ) (b' : List ℕ) → Shown s c b b' count → length (take count b') ≤ result_bytes
  bytes_few count b' t = rw (cut count b' t) (omega (arith, t.written.number, t.fits))

  -- the bytes written stand in the buffer
  pub bytes-there : (count : ℕ) (b' : List ℕ) → Shown s c b b' count → count ≤ length b'
  bytes-there count b' t =
      omega (arith, t.written.number, ap length t.written.buffer, length-append bytes (drop (length bytes) b))

  -- the page's count is a number of 32 bits
  pub page-small : (count : ℕ) (b' : List ℕ) → Shown s c b b' count → (n : ℕ) (page' : List ℕ) → Written (page_of (take count b')) page page' n → n ≤ page_bytes
  page-small count b' t n page' w =
      omega (arith, w.number, ap (λ l. length (page_of l)) (cut count b' t), page_fits s (passes true q yes).accepted c)

  -- all say yes
  paged-is : page_bytes ≤ length page → paged q page ≡ record {
    number = 0;
    place = 0;
    count = length bytes;
    page_count = length (page_of bytes);
    buffer = written_over bytes b;
    page = written_over (page_of bytes) page;
  }
  unfolding paged
  paged-is h =
      rw (eq-eqb (page_refusal q page) 0 (all_yes q page yes h), deep_is q yes, written_bytes bytes b) refl

  pub answers-finished : page_bytes ≤ length page → (count : ℕ) (b' : List ℕ) → Shown s c b b' count → (n : ℕ) (page' : List ℕ) → Written (page_of (take count b')) page page' n
      → PageAnswers (paged q page) (Ok (record { count = count; page_count = n })) b' page'
  answers-finished h count b' t n page' w =
      let size : n ≡ length (page_of bytes) = w.number ∙ ap (λ x. length (page_of x)) (cut count b' t) in
      let text : page' ≡ written_over (page_of bytes) page = w.buffer ∙ ap (λ x. written_over (page_of x) page) (cut count b' t) in
      rw (size, text, t.written.number, t.written.buffer) (sym (paged-is h))
