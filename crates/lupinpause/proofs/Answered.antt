-- What an answer's count and the count of what was read say of the buffers that they count in. Assumes nothing.
use Prim.Native.Nat.{ℕ, ◌*◌, ◌%◌, ◌≤◌, ◌<◌}
use mathlib.Core.Path.{◌≡◌, refl, ap}
use mathlib.Core.Bool.{false}
use mathlib.Core.List.{List}
use native.Mathlib.Omega.{arith}
use borrow.Author.Tests.{eqb-true, le-leb, lt-leb}
use lib.Dec.{eqb}
use lib.ListN.{length, take, drop, length-append}
use lib.Seq.{length-take-le}
use Rattle.session.specs.Limits.{record_bytes, max_records}
use Rattle.session.specs.Record.{record_count}
use Rattle.session.specs.Questions.{question1}
use Rattle.session.specs.Meaning.{root_of}
use Rattle.session.specs.Program.{program_of}
use Rattle.lists.proofs.Laws.Lists.{holds, fails, truth}
use Rattle.model.specs.Schedule.{Outcome, finished, refused, plain_order}
use Rattle.model.specs.Result.{result_of}
use Rattle.calls.specs.Entries.{Request, question10, entry_refusal, bytes_for, answer_of, timetabled, plain, Answers}

-- the count of an answer is within its buffer
answer_fits : (q : Request) (o : Outcome) → (answer_of q o).count ≤ length (answer_of q o).buffer
unfolding answer_of
answer_fits q (finished st) =
    let bytes = bytes_for q (result_of (program_of q.session) st) in
    omega (arith, length-append bytes (drop (length bytes) q.buffer))
answer_fits q (refused number place) = omega arith

timetabled_fits : (q : Request) (timetable : List ℕ) → (timetabled q timetable).count ≤ length (timetabled q timetable).buffer
unfolding timetabled
timetabled_fits q timetable = elim (truth (eqb (entry_refusal (question10 q) q) 0)) [
  | holds e ↦ rw e (answer_fits q _)
  | fails e ↦ rw e (omega arith)
]

-- the result bytes written stand in the result buffer
pub answered_fits : (q : Request) (number place count : ℕ) (work buffer : List ℕ) → Answers (plain q) number place count work buffer → count ≤ length buffer
unfolding plain
answered_fits q number place count work buffer a =
    omega (
      arith,
      ap (λ x. x.count) a,
      ap (λ x. length x.buffer) a,
      timetabled_fits q (plain_order (program_of q.session) (root_of q.session)),
    )

-- more bytes than any session has
pub too_long : (s : List ℕ) → record_bytes * max_records < length s → question1 s ≡ false
unfolding question1
too_long s h = elim (truth (eqb (length s % record_bytes) 0)) [
  | fails e ↦ rw e refl
  | holds e ↦
      let whole : length s % record_bytes ≡ 0 = eqb-true (length s % record_bytes) 0 e in
      let many : max_records < record_count s = omega (arith, h, whole) in
      rw (e, le-leb 1 (record_count s) (omega (arith, many)), lt-leb (record_count s) max_records many) refl
]

-- what was read, once it fills a buffer that is longer than any session
pub full_refused : (n : ℕ) (buffer : List ℕ) → record_bytes * max_records < length buffer → n ≡ length buffer → question1 (take n buffer) ≡ false
full_refused n buffer h e =
    too_long (take n buffer) (omega (arith, h, e, length-take-le n buffer (omega (arith, e))))
