-- The answers of the timetabled and the plain run. Assumes nothing.
use Prim.Native.Nat.{ℕ, ◌^◌, ◌≤◌, ◌<◌}
use mathlib.Core.Path.{◌≡◌, refl, sym, ◌∙◌, ap}
use mathlib.Core.Bool.{Bool}
use mathlib.Core.List.{List}
use native.Mathlib.Omega.{arith}
use borrow.Author.Tests.{leb-true}
use lib.ListN.{length, get_or, replicate, length-replicate, get_or-replicate}
use Rattle.session.specs.Parts.{level_count}
use Rattle.session.specs.Meaning.{level_of, root_object, root_of}
use Rattle.session.specs.Program.{program_of}
use Rattle.session.specs.Questions.{verdict_of, Accepted}
use Rattle.session.proofs.Laws.Accepted.{level_present}
use Rattle.session.proofs.Laws.Contents.{level_limit, object_limit, masks_length}
use Rattle.session.proofs.Laws.Numbers.{number_few}
use Rattle.scripts.specs.Valid.{Leveled}
use Rattle.scripts.specs.State.{Manager}
use Rattle.model.specs.Limits.{work_numbers, result_bytes}
use Rattle.model.specs.Step.{State, level_at}
use Rattle.model.specs.Schedule.{finished, refused, run_of, plain_order}
use Rattle.model.specs.Result.{result_of}
use Rattle.calls.specs.Entries.{Request, question10, entry_refusal, cleared, success, answer_of, timetabled, plain, Answers}
use Rattle.theorems.proofs.Laws.Order.Accepted.{any_order}
use Rattle.theorems.proofs.Laws.Order.PlainRun.{accepted_plain}
use Rattle.theorems.proofs.Laws.Reader.Answers.{passes}
use Rattle.histories.specs.Histories.{histories_at, ended_in}
use Rattle.results.specs.Writing.{result_in, bytes_in, Ready}
use Rattle.lists.specs.Placed.{Written}
use Rattle.results.proofs.Laws.Depends.{bytes_depend}
use Rattle.histories.proofs.Laws.Histories.{ended_few}
use Rattle.results.proofs.Laws.Written.{bytes_fit}
use Rattle.std.specs.Prelude.{Result, Ok, Err}
use Rattle.calls.specs.Refusals.{number_of_refusal, place_of_refusal, number_told, place_told, count_told}
use Rattle.calls.specs.declared.Refusal.{Refusal}
use Rattle.opening.specs.Opening.{LentRefusal}
use Rattle.versions.proofs.Laws.Cleared.{cleared_rest}
use Rattle.level_state.specs.Representation.{Words, Represents}
use Rattle.level_state.specs.Ends.{SameRest, Ends}
use Rattle.fork_runs.specs.Levels.{Done}
use Rattle.scheduler.specs.Runs.{Shows, RunReady, ListDone}

module _ (s : List ℕ) (a : verdict_of s ≡ Accepted) where
  root_level : level_of s (root_object s) < level_count s
  root_level = level_present s a (root_object s)

  module _ (w : Words) (ms : ℕ → Manager) (st : State) (t : Represents s w ms st) where
    -- the words from which the records are written are there
    pub write_ready : (masks : List ℕ) (level : ℕ) (buffer : List ℕ) → Leveled s masks → level ≡ level_of s (root_object s) → result_bytes ≤ length buffer → Ready s masks w.current w.ended w.tallies level buffer
    write_ready masks level buffer leveled e room =
        record {
          fields_ready = record { accepted = a; table = leveled.masks_are; room = t.roomy.current };
          histories_ready = record { room = t.roomy.ended; levels = omega (arith, t.roomy.tallies); counted = t.counts_few };
          root = rw e root_level;
          room = room;
        }

    same_ended : (l : ℕ) → l < level_count s → ended_in w.ended w.tallies l ≡ (level_at st l).ended
    same_ended l h =
        let q = t.level l h in
        ap (histories_at w.ended l) q.ended_count ∙ q.ended

    -- and they make the bytes of the state's result
    same_bytes : (c : ℕ) → bytes_in s (result_in w.current w.ended w.tallies) c (level_of s (root_object s)) ≡ bytes_in s (result_of (program_of s) st) c (level_of s (root_object s))
    same_bytes c =
        bytes_depend s (result_in w.current w.ended w.tallies) (result_of (program_of s) st) c (level_of s (root_object s)) root_level
        (λ o k h j. t.field o k (number_few s a o h) j)
        (λ l h _. same_ended l h)

  module _ (ls : List ℕ) (c : ℕ) (work work1 work' buffer buffer' : List ℕ) (same : SameRest work work1) (zero : work' ≡ cleared work1) where
    abbrev q : Request
    q = record { session = s; clearance = c; work = work; buffer = buffer }

    emptied : work' ≡ cleared work
    emptied = zero ∙ cleared_rest work work1 same

    -- the list was refused
    pub list_refused : (w : Words) (o : Result Unit Refusal) (r : Refusal) → Ends s ls w o → o ≡ Err r → buffer' ≡ buffer → ListDone s ls c work work' buffer buffer' (Err r)
    list_refused w o r e is b =
        let ends : run_of (program_of s) (root_of s) ls ≡ refused (number_of_refusal r) (place_of_refusal r) = rw is at e in
        rw (emptied, b) (sym (ap (answer_of q) ends ∙ answer (number_of_refusal r) (place_of_refusal r)))
      where
        answer : (number place : ℕ) → answer_of q (refused number place) ≡ record { number = number; place = place; count = 0; work = cleared work; buffer = buffer }
        answer number place = unfold answer_of in refl

    -- it finished, and the records are written
    pub list-finished : (w : Words) (level count : ℕ) → Ends s ls w (Ok tt) → level ≡ level_of s (root_object s) → Shows s w.current w.ended w.tallies c level buffer buffer' count → ListDone s ls c work work' buffer buffer' (Ok count)
    list-finished w level count (ms, (st, (run, t))) e shows =
        let bytes = bytes_in s (result_of (program_of s) st) c (level_of s (root_object s)) in
        let is : bytes_in s (result_in w.current w.ended w.tallies) c level ≡ bytes_in s (result_of (program_of s) st) c (level_of s (root_object s)) =
        ap (bytes_in s (result_in w.current w.ended w.tallies) c) e ∙ same_bytes w ms st t c in
        let wrote : Written (bytes_in s (result_of (program_of s) st) c (level_of s (root_object s))) buffer buffer' count = rw is at shows in
        rw (wrote.number, wrote.buffer, emptied) (sym (ap (answer_of q) run ∙ answer st))
      where
        answer : (st : State) → answer_of q (finished st) ≡ success q (cleared work) (bytes_in s (result_of (program_of s) st) c (level_of s (root_object s)))
        answer st = unfold answer_of in refl

  -- any list that finishes ends as the plain order does
  pub plain-ends : (w : Words) → Done s w → Ends s (plain_order (program_of s) (root_of s)) w (Ok tt)
  plain-ends w (ls, (ms, (st, (run, t)))) =
      let (u, e) = accepted_plain s a in
      let same : st ≡ u = any_order s a ls (plain_order (program_of s) (root_of s)) st u run e in
      (ms, (st, (e ∙ ap finished (sym same), t)))

module _ (s : List ℕ) (c : ℕ) (work buffer : List ℕ) where
  abbrev pub request : Request
  request = record { session = s; clearance = c; work = work; buffer = buffer }

  -- questions 9 to 11, put of an opened session with its level table
  pub entry-is : (masks : List ℕ) → Leveled s masks → (ten : Bool) → ten ≡ question10 request → (r : Result Unit Refusal) → LentRefusal (length masks) c ten (length buffer) r → entry_refusal (question10 request) request ≡ number_told r
  entry-is masks y ten e r h =
      ap (λ t. entry_refusal t request) (sym e) ∙ h.number request y.accepted (sym (ap length y.masks_are ∙ masks_length s y.accepted)) refl refl

  -- questions 1 to 11 say yes
  module _ (e : entry_refusal (question10 request) request ≡ 0) where
    pub run-ready : RunReady work buffer
    run-ready =
        let p = passes (question10 request) request e in
        record { work_room = leb-true work_numbers (length work) p.work; result_room = leb-true result_bytes (length buffer) p.room }

    ran_is : (ls : List ℕ) → timetabled request ls ≡ answer_of request (run_of (program_of s) (root_of s) ls)
    unfolding timetabled
    ran_is ls = rw e refl

    pub answered-list : (work' buffer' : List ℕ) (r : Result ℕ Refusal) (ls : List ℕ) → ListDone s ls c work work' buffer buffer' r → Answers (timetabled request ls) (number_told r) (place_told r) (count_told r) work' buffer'
    answered-list work' buffer' r ls d = d ∙ sym (ran_is ls)

  -- the plain run is a timetabled one
  pub answered-plain : (number place count : ℕ) (work' buffer' : List ℕ) → Answers (timetabled request (plain_order (program_of s) (root_of s))) number place count work' buffer' → Answers (plain request) number place count work' buffer'
  unfolding plain
  answered-plain number place count work' buffer' x = x

-- so many zeros are so long, and are zeros
pub zeros-long : (n : ℕ) → n ≤ length {A = ℕ} (replicate n 0)
zeros-long n = rw (length-replicate {A = ℕ} n 0) (omega arith)

pub zeros-are : (n i : ℕ) → i < n → get_or {A = ℕ} (replicate n 0) i 0 ≡ 0
zeros-are n i h = get_or-replicate n i 0 0 h

-- a list that finished, by the end that the code has of it
pub finished-by : (s ls : List ℕ) (w : Words) (o : Result Unit Refusal) → o ≡ Ok tt → Ends s ls w o → Ends s ls w (Ok tt)
finished-by s ls w o e x =
    let y : Ends s ls w (Ok tt) = rw e at x in
    y

pub show-ready : (s masks ls : List ℕ) (w : Words) (level : ℕ) (buffer : List ℕ) → Leveled s masks → Ends s ls w (Ok tt) → level ≡ level_of s (root_object s) → result_bytes ≤ length buffer → Ready s masks w.current w.ended w.tallies level buffer
show-ready s masks ls w level buffer y (ms, (st, (run, t))) e room =
    write_ready s y.accepted w ms st t masks level buffer y e room

-- the root's level, however it is come by
pub answered-root : (s : List ℕ) (c d : ℕ) (work buffer : List ℕ) (number place count : ℕ) (work' buffer' : List ℕ) → c ≡ d → Answers (plain (request s c work buffer)) number place count work' buffer' → Answers (plain (request s d work buffer)) number place count work' buffer'
answered-root s c d work buffer number place count work' buffer' e x = rw (sym e) x

-- the count of the bytes shown is a number of 32 bits
pub shown-fits : (s masks current ended tallies : List ℕ) (level : ℕ) (buffer : List ℕ) → Ready s masks current ended tallies level buffer
    → (clearance count : ℕ) (before after : List ℕ) → Written (bytes_in s (result_in current ended tallies) clearance level) before after count
    → count < 2 ^ 32
unfolding program_of
shown-fits s masks current ended tallies level buffer r clearance count before after t =
    let few = level_limit s r.fields_ready.accepted in
    omega (
      arith,
      t.number,
      bytes_fit (program_of s) (result_in current ended tallies) clearance level few (object_limit s r.fields_ready.accepted)
          (λ l h. ended_few ended tallies r.histories_ready l (omega (arith, h, few))),
    )
