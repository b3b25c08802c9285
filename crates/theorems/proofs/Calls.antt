-- The client's demands of calls of the entries, proved. Assumes nothing.
use Prim.Native.Nat.{ℕ}
use mathlib.Core.Path.{◌≡◌, refl, sym, ◌∙◌, ap}
use mathlib.Core.List.{List, []}
use lib.ListN.{take}
use Rattle.session.specs.Meaning.{root_of}
use Rattle.session.specs.Program.{program_of}
use Rattle.model.specs.Schedule.{plain_order}
use Rattle.calls.specs.Entries.{Request, Answer, timetabled, plain, deep, Answers}
use Rattle.calls.specs.Reader.{Finished, bytes_written}
use Rattle.theorems.specs.Demands.{TimetabledRun, DepthFirstRun}
use Rattle.theorems.specs.Calls.{Called, RunCalled, by_timetable_lem, plainly, DeepCalled, TimetabledContract, PlainContract, DeepContract, Demand2Calls, Demand3Calls}
use Rattle.theorems.proofs.Laws.Reader.Answers.{deep-passes, deep-bytes}
use Rattle.theorems.proofs.Demands.{demand_2, demand_3, deep_bytes, session_bytes}

-- the answer of a call
abbrev answer_of : {of : Request → Answer} {s : List ℕ} {c : ℕ} {bytes : List ℕ} → Called of s c bytes → Answer
answer_of x = record { number = 0; place = x.place; count = x.count; work = x.work; buffer = x.buffer }

-- a contract's promise of a call that answered 0
called : (of : Request → Answer) (q : Request) (number place count : ℕ) (work buffer : List ℕ) → Answers (of q) number place count work buffer → number ≡ 0 → Called of q.session q.clearance (take count buffer)
called of q number place count work buffer x e =
    record {
      request = q;
      session_is = refl;
      clearance_is = refl;
      place = place;
      count = count;
      work = work;
      buffer = buffer;
      answers = rw e at x;
      written = refl;
    }

pub timetabled_contract : TimetabledContract
timetabled_contract s ls c work buffer work' buffer' number place count x e =
    by_timetable_lem ls (called (λ q. timetabled q ls) (record { session = s; clearance = c; work = work; buffer = buffer }) number place count work' buffer' x e)

pub plain_contract : PlainContract
plain_contract s c work buffer work' buffer' number place count x e =
    plainly (called plain (record { session = s; clearance = c; work = work; buffer = buffer }) number place count work' buffer' x e)

pub deep_contract : DeepContract
deep_contract s c buffer buffer' number place count x e =
    called deep (record { session = s; clearance = c; work = []; buffer = buffer }) number place count [] buffer' x e

-- it is that of a finished run
run_of : (ls s : List ℕ) (c : ℕ) (bytes : List ℕ) (x : Called (λ q. timetabled q ls) s c bytes) → TimetabledRun s c (answer_of x)
run_of ls s c bytes x =
    record {
      request = x.request;
      of = x.session_is;
      reader = x.clearance_is;
      list = ls;
      answer = x.answers;
      finished = refl;
    }

deep_of : (s : List ℕ) (c : ℕ) (bytes : List ℕ) (x : DeepCalled s c bytes) → DepthFirstRun s c (answer_of x)
deep_of s c bytes x =
    record {
      request = x.request;
      of = x.session_is;
      reader = x.clearance_is;
      answer = x.answers;
      finished = refl;
    }

-- a plain call is a timetabled one, by the plain order
plain_listed : (s : List ℕ) (c : ℕ) (bytes : List ℕ) → Called plain s c bytes → Called (λ q. timetabled q (plain_order (program_of s) (root_of s))) s c bytes
plain_listed s c bytes x =
    record {
      request = x.request;
      session_is = x.session_is;
      clearance_is = x.clearance_is;
      place = x.place;
      count = x.count;
      work = x.work;
      buffer = x.buffer;
      answers = x.answers ∙ plain_is x.request x.session_is;
      written = x.written;
    }
  where
    plain_is : (q : Request) → q.session ≡ s → plain q ≡ timetabled q (plain_order (program_of s) (root_of s))
    plain_is q e = rw (sym e) (unfold plain in refl)

-- any such call as a timetabled run with its bytes
pub record Listed (s : List ℕ) (c : ℕ) (bytes : List ℕ) : Type 0 where
  pub answer : Answer
  pub run : TimetabledRun s c answer
  pub bytes_are : bytes ≡ bytes_written answer

listed : (s : List ℕ) (c : ℕ) (bytes : List ℕ) → RunCalled s c bytes → Listed s c bytes
listed s c bytes (by_timetable_lem ls x) =
    record { answer = answer_of x; run = run_of ls s c bytes x; bytes_are = x.written }
listed s c bytes (plainly x) =
    let y = plain_listed s c bytes x in
    record { answer = answer_of y; run = run_of (plain_order (program_of s) (root_of s)) s c bytes y; bytes_are = y.written }

pub demand_3_calls : Demand3Calls
demand_3_calls c s s' b b' d d' r r' x x' =
    let l = listed s c b r in
    let l' = listed s' c b' r' in
    let both = demand_3 c s s' l.answer l'.answer (answer_of x) (answer_of x') l.run l'.run (deep_of _ c d x) (deep_of _ c d' x') in (
      λ e. x.written ∙ both.0 (sym l.bytes_are ∙ e ∙ l'.bytes_are) ∙ sym x'.written,
      λ e. l.bytes_are ∙ both.1 (sym x.written ∙ e ∙ x'.written) ∙ sym l'.bytes_are,
    )

deep_of_request : (q : Request) (s : List ℕ) (c : ℕ) → q.session ≡ s → q.clearance ≡ c → Finished (deep q) → bytes_written (deep q) ≡ deep_bytes (program_of s) (root_of s) c
deep_of_request q s c e k f =
    deep-bytes q (deep-passes q f) ∙ session_bytes q ∙ (λ i. deep_bytes (program_of (e i)) (root_of (e i)) (k i))

pub demand_2_calls : Demand2Calls
demand_2_calls c s b d r x =
    let l = listed s c b r in
    let t = l.run in
    let q = t.request in
    let both = demand_2 q t.list (rw (sym t.answer) t.finished) in
    let y = deep_of s c d x in
    l.bytes_are
    ∙ ap bytes_written t.answer
    ∙ both.1
    ∙ deep_of_request q s c t.of t.reader both.0
    ∙ sym (x.written ∙ ap bytes_written y.answer ∙ deep_of_request y.request s c y.of y.reader (rw (sym y.answer) y.finished))
