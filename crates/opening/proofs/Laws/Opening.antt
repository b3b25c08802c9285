-- What the questions before a run say of the request that an entry answers. Assumes nothing.
use Prim.Native.Nat.{ℕ, ◌≤◌, ◌<◌}
use mathlib.Core.Path.{◌≡◌, refl, sym, ◌∙◌, ap}
use mathlib.Core.Bool.{Bool, true, false}
use mathlib.Core.List.{List}
use native.Mathlib.Omega.{arith}
use borrow.Author.Tests.{ne_eqb, lt-ltb, le-ltb, le-leb, lt-leb}
use lib.ListN.{length, take, drop, length-append}
use lib.Seq.{length-take-le, take_at}
use Rattle.session.specs.Parts.{level_count}
use Rattle.session.specs.Meaning.{root_of}
use Rattle.session.specs.Program.{program_of}
use Rattle.session.specs.Questions.{verdict_of, Verdict, Accepted, number_of_question, number_of_verdict}
use Rattle.session.specs.declared.Question.{Question}
use Rattle.session.specs.declared.Question.TheVariants.{Length, Kinds, Numbering, NotOrdered, NoJoin, NoMeet, Object, Script, Root}
use Rattle.checks.specs.Checking.{table_made}
use Rattle.checks.proofs.Laws.Checked.{accepted_table, accepted_count}
use Rattle.scripts.specs.Valid.{Leveled}
use Rattle.model.specs.Limits.{result_bytes}
use Rattle.model.specs.Schedule.{plain_order}
use Rattle.calls.specs.Entries.{Request, question10, entry_refusal, untouched, timetabled, plain, deep, Answers}
use Rattle.calls.specs.Entries as model
use Rattle.calls.specs.Refusals.{number_of_refusal, place_of_refusal}
use Rattle.calls.specs.declared.Refusal.{Refusal}
use Rattle.calls.specs.declared.Refusal.TheVariants.{Session, Clearance, ShortWork, ShortResult, Absent, Idle, Blocked, Unended, ShortPage}
use Rattle.std.specs.Prelude.{Ok, Err}
use Rattle.opening.specs.Opening.{opened_as, Opens, LentRefusal}
use Rattle.opening.specs.declared.Unopened.{Unopened}

-- questions 9 to 11 of a session with so many levels
module _ (levels clearance : ℕ) (ten : Bool) (bytes : ℕ) where
  -- 9
  pub refused_level : levels ≤ clearance → LentRefusal levels clearance ten bytes (Err Clearance)
  unfolding entry_refusal
  refused_level h = record { number = λ q a l c b. rw (a, l, c, le-ltb clearance levels h) refl; place = refl }

  module _ (h : clearance < levels) where
    -- 10
    pub refused_work : ten ≡ false → LentRefusal levels clearance ten bytes (Err ShortWork)
    unfolding entry_refusal
    refused_work t = record { number = λ q a l c b. rw (a, l, c, t, lt-ltb clearance levels h) refl; place = refl }

    -- 11
    pub refused_room : ten ≡ true → bytes < result_bytes → LentRefusal levels clearance ten bytes (Err ShortResult)
    unfolding entry_refusal
    refused_room t m = record { number = λ q a l c b. rw (a, l, c, b, t, lt-ltb clearance levels h, lt-leb result_bytes bytes m) refl; place = refl }

    -- all say yes
    pub refused_none : ten ≡ true → result_bytes ≤ bytes → LentRefusal levels clearance ten bytes (Ok tt)
    unfolding entry_refusal
    refused_none t m = record { number = λ q a l c b. rw (a, l, c, b, t, lt-ltb clearance levels h, le-leb result_bytes bytes m) refl; place = refl }

-- an opened session: its level table, from the front of the masks
pub record Table (s masks : List ℕ) (levels : ℕ) : Type 0 where
  pub count : level_count s ≡ levels
  pub within : levels ≤ length masks
  pub long : levels ≡ length (take levels masks)
  pub leveled : Leveled s (take levels masks)

-- a check that gave a count accepted the session
counted_accepted : (v : Verdict) (n levels : ℕ) → Ok levels ≡ opened_as n v → (v ≡ Accepted) × (levels ≡ n)
counted_accepted (Ok tt) n levels e = (refl, cc)
counted_accepted (Err q) n levels e = cc

-- and one that refused it gave the number and the place of the question
refused_by : (v : Verdict) (n : ℕ) (r : Unopened) → Err r ≡ opened_as n v → (number_of_verdict v ≡ number_of_refusal r.refusal) × (place_of_refusal r.refusal ≡ 0)
refused_by (Ok u) n r e = cc
refused_by (Err q) n r e = let is : r ≡ record { refusal = Session q; levels = n } = cc in rw is (refl, refl)

-- no question has the number 0
question_some : (q : Question) → number_of_question q ≡ 0 → ⊥
question_some Length e = omega (arith, e)
question_some Kinds e = omega (arith, e)
question_some Numbering e = omega (arith, e)
question_some NotOrdered e = omega (arith, e)
question_some NoJoin e = omega (arith, e)
question_some NoMeet e = omega (arith, e)
question_some Object e = omega (arith, e)
question_some Script e = omega (arith, e)
question_some Root e = omega (arith, e)

pub number_some : (r : Refusal) → number_of_refusal r ≡ 0 → ⊥
number_some (Session q) e = question_some q e
number_some Clearance e = omega (arith, e)
number_some ShortWork e = omega (arith, e)
number_some ShortResult e = omega (arith, e)
number_some (Absent place) e = omega (arith, e)
number_some (Idle place) e = omega (arith, e)
number_some (Blocked place) e = omega (arith, e)
number_some Unended e = omega (arith, e)
number_some ShortPage e = omega (arith, e)

module _ {s before after : List ℕ} where
  -- questions 1 to 8 say yes
  pub opened : {levels : ℕ} → Opens s before after (Ok levels) → Table s after levels
  opened {levels} o =
      let (a, is) = counted_accepted (verdict_of s) (length (table_made s)) levels o.verdict in
      let count : levels ≡ level_count s = is ∙ accepted_count s a in
      let front : take levels after ≡ table_made s =
      ap (take levels) o.table ∙ take_at (table_made s) (drop (length (table_made s)) before) levels (sym is) in
      let within : levels ≤ length after = omega (arith, is, ap length o.table, length-append (table_made s) (drop (length (table_made s)) before)) in
      record {
        count = sym count;
        within = within;
        long = sym (length-take-le levels after within);
        leveled = record {
          accepted = a;
          masks_are = front ∙ accepted_table s a;
        };
      }

-- one of them says no
pub unopened : {before after : List ℕ} (ten : Bool) (q : Request) (r : Unopened) → Opens q.session before after (Err r) → (entry_refusal ten q ≡ number_of_refusal r.refusal) × (place_of_refusal r.refusal ≡ 0)
unfolding entry_refusal
unopened ten q r o =
    let (i, p) = refused_by (verdict_of q.session) (length (table_made q.session)) r o.verdict in
    (rw (i, ne_eqb (number_of_refusal r.refusal) 0 (number_some r.refusal)) refl, p)

-- a run is not made where a question, 1 to 11, says no: nothing is touched
pub record Refuses (ten : Bool) (q : Request) (of : model.Answer) : Type 0 where
  pub no : (number : ℕ) → entry_refusal ten q ≡ number → (number ≡ 0 → ⊥) → of ≡ untouched q number

pub timetabled_refuses : (q : Request) (ls : List ℕ) → Refuses (question10 q) q (timetabled q ls)
unfolding timetabled
timetabled_refuses q ls = record { no = λ number e n. rw (e, ne_eqb number 0 n) refl }

pub plain_refuses : (q : Request) → Refuses (question10 q) q (plain q)
unfolding plain
plain_refuses q = timetabled_refuses q (plain_order (program_of q.session) (root_of q.session))

pub deep_refuses : (q : Request) → Refuses true q (deep q)
unfolding deep
deep_refuses q = record { no = λ number e n. rw (e, ne_eqb number 0 n) refl }

module _ {ten : Bool} {q : Request} {of : model.Answer} (refuses : Refuses ten q of) where
  -- the answer of an entry that a question ends
  pub answers_refusal : (r : Refusal) → entry_refusal ten q ≡ number_of_refusal r → place_of_refusal r ≡ 0 → Answers of (number_of_refusal r) (place_of_refusal r) 0 q.work q.buffer
  answers_refusal r e p = rw p (sym (refuses.no (number_of_refusal r) e (number_some r)))

  -- 1 to 8
  pub answers_unopened : {before after : List ℕ} (r : Unopened) → Opens q.session before after (Err r) → Answers of (number_of_refusal r.refusal) (place_of_refusal r.refusal) 0 q.work q.buffer
  answers_unopened r o = let (e, p) = unopened ten q r o in answers_refusal r.refusal e p
