-- What a finished answer of an entry says: all its questions said yes, and these are its bytes. Assumes nothing.
use Prim.Native.Nat.{ℕ, suc, ◌<◌}
use mathlib.Core.Path.{◌≡◌, refl, sym, ◌∙◌, ap}
use mathlib.Core.Bool.{Bool, true, false, cond}
use mathlib.Core.List.{List, [], ◌∷◌}
use native.Mathlib.Omega.{arith}
use borrow.Author.Tests.{ltb-true, lt-ltb, eq-eqb, eqb-true, eqb-false}
use lib.Dec.{eqb}
use Rattle.session.specs.Parts.{level_count}
use Rattle.session.specs.Questions.{verdict_of, number_of_verdict, Accepted}
use Rattle.session.specs.Meaning.{root_of}
use Rattle.session.specs.Program.{Program, program_of}
use Rattle.lists.proofs.Laws.Lists.{holds, fails, truth}
use Rattle.model.specs.Step.{State, step_at}
use Rattle.model.specs.Schedule.{question15, step_refusal, Outcome, finished, refused, run_under, run_from, run_of}
use Rattle.model.specs.DepthFirst.{depth_first}
use Rattle.model.specs.Result.{result_of, result_of_depth_first}
use Rattle.calls.specs.Entries.{Request, question9, question10, question11, entry_refusal, cleared, bytes_for, success, answer_of, timetabled, deep}
use Rattle.calls.specs.Reader.{Finished, bytes_written}
use Rattle.theorems.proofs.Laws.Reader.Bytes.{written_bytes}
use Rattle.session.proofs.Laws.Verdict.{number_accepted}

-- questions 1 to 11 all say yes, 10 where it is put
pub record Passes (ten : Bool) (q : Request) : Type 0 where
  pub accepted : verdict_of q.session ≡ Accepted
  pub level : q.clearance < level_count q.session
  pub work : ten ≡ true
  pub room : question11 q ≡ true

all_yes : (a b c : Bool) → cond {A = ℕ} a (cond b (cond c 0 11) 10) 9 ≡ 0 → (a ≡ true) × ((b ≡ true) × (c ≡ true))
all_yes true true true e = (refl, (refl, refl))
all_yes true true false e = absurd (omega (arith, e))
all_yes true false c e = absurd (omega (arith, e))
all_yes false b c e = absurd (omega (arith, e))

pub passes : (ten : Bool) (q : Request) → entry_refusal ten q ≡ 0 → Passes ten q
unfolding entry_refusal
passes ten q e = elim (truth (eqb (number_of_verdict (verdict_of q.session)) 0)) [
  | holds h ↦
      let (a, (b, c)) = all_yes (question9 q) ten (question11 q) (rw h at e) in
      record {
        accepted = number_accepted (verdict_of q.session) (eqb-true _ 0 h);
        level = ltb-true q.clearance (level_count q.session) a;
        work = b;
        room = c;
      }
  | fails h ↦ absurd (eqb-false (number_of_verdict (verdict_of q.session)) 0 h (rw h at e))
]

pub passed : (ten : Bool) (q : Request) → Passes ten q → entry_refusal ten q ≡ 0
unfolding entry_refusal
passed ten q p = rw (p.accepted, lt-ltb q.clearance (level_count q.session) p.level, p.work, p.room) refl

-- a refused list has a number
abbrev Numbered : Outcome → Type 0
Numbered (finished st) = Unit
Numbered (refused number place) = number ≡ 0 → ⊥

run_numbered : (i : ℕ) (p : Program) (ls : List ℕ) (st : State) → Numbered (run_from i p ls st)
unfolding run_under
run_numbered i p [] st = elim (truth (question15 p st)) [
  | holds h ↦ rw h tt
  | fails h ↦ rw h (λ e. omega (arith, e))
]
run_numbered i p (l ∷ ls) st = elim (truth (eqb (step_refusal p st l) 0)) [
  | holds h ↦ rw h (run_numbered (suc i) p ls (step_at p l st))
  | fails h ↦ rw h (eqb-false (step_refusal p st l) 0 h)
]

-- a finished timetabled run
pub record FinishedRun (q : Request) (ls : List ℕ) : Type 0 where
  pub passes : Passes (question10 q) q
  pub state : State
  pub ends : run_of (program_of q.session) (root_of q.session) ls ≡ finished state
  pub bytes : bytes_written (timetabled q ls) ≡ bytes_for q (result_of (program_of q.session) state)

module _ (q : Request) (ls : List ℕ) where
  abbrev p : Program
  p = program_of q.session

  abbrev outcome : Outcome
  outcome = run_of (program_of q.session) (root_of q.session) ls

  -- its answer, where questions 1 to 11 say yes
  pub timetabled-is : entry_refusal (question10 q) q ≡ 0 → timetabled q ls ≡ answer_of q outcome
  unfolding timetabled
  timetabled-is e = rw (eq-eqb (entry_refusal (question10 q) q) 0 e) refl

  none-refused : Finished (timetabled q ls) → entry_refusal (question10 q) q ≡ 0
  unfolding timetabled
  none-refused f = elim (truth (eqb (entry_refusal (question10 q) q) 0)) [
    | holds h ↦ eqb-true (entry_refusal (question10 q) q) 0 h
    | fails h ↦ rw h at f
  ]

  success-bytes : (work bytes : List ℕ) → bytes_written (success q work bytes) ≡ bytes
  success-bytes work bytes = written_bytes bytes q.buffer

  finished-outcome : (o : Outcome) → outcome ≡ o → Numbered o → (answer_of q o).number ≡ 0 → (t : State) × (outcome ≡ finished t)
  unfolding answer_of
  finished-outcome (finished t) e n f = (t, e)
  finished-outcome (refused number place) e n f = absurd (n f)

  finished-bytes : (t : State) → outcome ≡ finished t → bytes_written (answer_of q outcome) ≡ bytes_for q (result_of p t)
  unfolding answer_of
  finished-bytes t e = ap (λ o. bytes_written (answer_of q o)) e ∙ success-bytes (cleared q.work) (bytes_for q (result_of p t))

  pub finished-run : Finished (timetabled q ls) → FinishedRun q ls
  unfolding run_of
  finished-run f =
      let zero = none-refused f in
      let same = timetabled-is zero in
      let (t, e) = finished-outcome outcome refl (run_numbered 0 p ls _) (sym (ap (λ a. a.number) same) ∙ f) in
      record {
        passes = passes (question10 q) q zero;
        state = t;
        ends = e;
        bytes = ap bytes_written same ∙ finished-bytes t e;
      }

  -- and a list that finishes has a finished run
  pub run_finished : entry_refusal (question10 q) q ≡ 0 → (t : State) → outcome ≡ finished t → Finished (timetabled q ls)
  unfolding answer_of
  run_finished e t o = ap (λ a. a.number) (timetabled-is e ∙ ap (answer_of q) o)

-- a finished depth-first run
module _ (q : Request) where
  pub deep_is : entry_refusal true q ≡ 0 → deep q ≡ success q q.work (bytes_for q (result_of_depth_first (program_of q.session) (depth_first (program_of q.session) (root_of q.session))))
  unfolding deep
  deep_is e = rw (eq-eqb (entry_refusal true q) 0 e) refl

  pub deep_finished : entry_refusal true q ≡ 0 → Finished (deep q)
  deep_finished e = ap (λ a. a.number) (deep_is e)

  pub deep-passes : Finished (deep q) → entry_refusal true q ≡ 0
  unfolding deep
  deep-passes f = elim (truth (eqb (entry_refusal true q) 0)) [
    | holds h ↦ eqb-true (entry_refusal true q) 0 h
    | fails h ↦ rw h at f
  ]

  pub deep-bytes : entry_refusal true q ≡ 0 → bytes_written (deep q) ≡ bytes_for q (result_of_depth_first (program_of q.session) (depth_first (program_of q.session) (root_of q.session)))
  deep-bytes e = ap bytes_written (deep_is e) ∙ written_bytes _ q.buffer
