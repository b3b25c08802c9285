-- The client's demands of runs, proved. Assumes nothing.
use Prim.Native.Nat.{ℕ, ◌≤◌}
use mathlib.Core.Path.{◌≡◌, refl, sym, ◌∙◌, ap}
use mathlib.Core.Bool.{true}
use mathlib.Core.List.{List}
use borrow.Author.Tests.{le-leb}
use lib.ListN.{length}
use Rattle.session.specs.Questions.{verdict_of, Accepted}
use Rattle.session.specs.Meaning.{root_of}
use Rattle.session.specs.Program.{Program, program_of, seen_by}
use Rattle.session.specs.Emptied.{emptied}
use Rattle.session.specs.declared.Message.{Message}
use Rattle.session.proofs.Laws.Numbering.{few_levels}
use Rattle.session.proofs.Laws.Verdict.{accepted}
use Rattle.session.proofs.Laws.Emptied.{emptied_message, emptied_level_count}
use Rattle.session.proofs.Laws.EmptiedAccepted as session
use Rattle.session.proofs.Laws.Program.{emptied_program}
use Rattle.session.specs.Limits.{max_levels}
use Rattle.model.specs.Limits.{result_bytes}
use Rattle.model.specs.Step.{State}
use Rattle.model.specs.Schedule.{plain_order}
use Rattle.model.specs.DepthFirst.{depth_first}
use Rattle.model.specs.Result.{result_of, result_of_depth_first, bytes_of}
use Rattle.calls.specs.Entries.{Request, Answer, question10, entry_refusal, bytes_for, timetabled, plain, deep}
use Rattle.calls.specs.Reader.{Finished, bytes_written, EqualToReader}
use Rattle.theorems.specs.Reader.{ComparedByRecords}
use Rattle.theorems.specs.Demands.{OneEnd, EmptiedAccepted, PlainFinishes, DeepFinishes, DeepEmptied, HistoriesLimited, StepFromView, EmptiedRuns, Demand2, Demand2Plain, Isolation, TimetabledRun, DepthFirstRun, Demand3}
use Rattle.theorems.proofs.Laws.Order.Accepted.{sound, any_order}
use Rattle.theorems.proofs.Laws.Order.PlainRun.{accepted_plain}
use Rattle.theorems.proofs.Laws.Invariant.Contained.{move_direct}
use Rattle.theorems.proofs.Laws.Code.Reached.{present}
use Rattle.theorems.proofs.Laws.Code.Progress.{leads_live}
use Rattle.theorems.proofs.Laws.Deep.Root.{same_result}
use Rattle.theorems.proofs.Laws.Code.Histories as limited
use Rattle.theorems.proofs.Laws.Reader.Isolation as laws
use Rattle.theorems.proofs.Laws.Reader.Bytes.{by_records}
use Rattle.theorems.proofs.Laws.Reader.Shown.{reader_sees}
use Rattle.theorems.proofs.Laws.Reader.Answers.{Passes, passed, passes, finished-run, run_finished, deep_finished, deep-passes, deep-bytes}

pub compared_by_records : ComparedByRecords
compared_by_records = by_records

pub one_end : OneEnd
one_end s a ls ks t w = any_order s a ls ks t w

pub emptied_accepted : EmptiedAccepted
emptied_accepted s a c = session.emptied_accepted s c a

pub plain_finishes : PlainFinishes
unfolding plain
plain_finishes q e =
    let (t, run) = accepted_plain q.session (passes (question10 q) q e).accepted in
    run_finished q (plain_order (program_of q.session) (root_of q.session)) e t run

pub deep_finishes : DeepFinishes
deep_finishes q e = deep_finished q e

pub step_from_view : StepFromView
step_from_view s a ls st r l h =
    let live = leads_live s a ls st r in
    move_direct (program_of s) (sound s a) st live.reachable.steady.fork_invariant live.reachable.steady.contained l (present s l h)

few_of : (s : List ℕ) → verdict_of s ≡ Accepted → (program_of s).levels ≤ max_levels
few_of s a = unfold program_of in few_levels s (accepted s a).three

pub emptied_runs : EmptiedRuns
emptied_runs s a c h q of reader room =
    record {
      request = q;
      of = of;
      reader = reader;
      answer = refl;
      finished = deep_finished q (passed true q (record {
        accepted = rw of (emptied_accepted s a c);
        level = rw (of, reader, emptied_level_count s c) h;
        work = refl;
        room = le-leb result_bytes (length q.buffer) room;
      }));
    }

-- where a timetabled run passes questions 1 to 11, so does the depth-first run
deep_may : (q : Request) → Passes (question10 q) q → entry_refusal true q ≡ 0
deep_may q p =
    passed true q (record { accepted = p.accepted; level = p.level; work = refl; room = p.room })

pub demand_2 : Demand2
demand_2 q ls f =
    let r = finished-run q ls f in
    let a = r.passes.accepted in
    let e = deep_may q r.passes in (
      deep_finished q e,
      r.bytes
          ∙ ap (bytes_for q) (same_result (program_of q.session) (sound q.session a) (few_of q.session a) (root_of q.session) ls r.state r.ends)
          ∙ sym (deep-bytes q e),
    )

pub demand_2_plain : Demand2Plain
unfolding plain
demand_2_plain q f = demand_2 q (plain_order (program_of q.session) (root_of q.session)) f

pub histories_limited : HistoriesLimited
histories_limited = limited.histories_limited

pub isolation : Isolation
isolation s a c h ls t e = laws.isolation s a c h ls t e

-- the bytes of a depth-first run of a program
abbrev pub deep_bytes : Program → Message → ℕ → List ℕ
deep_bytes p root c = bytes_of p (p.level root.object) (result_of_depth_first p (depth_first p root)) c

pub session_bytes : (q : Request) → bytes_for q (result_of_depth_first (program_of q.session) (depth_first (program_of q.session) (root_of q.session))) ≡ deep_bytes (program_of q.session) (root_of q.session) q.clearance
unfolding program_of
session_bytes q = refl

run_bytes_lem : (q : Request) (t : State) → bytes_for q (result_of (program_of q.session) t) ≡ bytes_of (program_of q.session) ((program_of q.session).level (root_of q.session).object) (result_of (program_of q.session) t) q.clearance
unfolding program_of
run_bytes_lem q t = refl

seen_bytes : (c : ℕ) (p : Program) (root : Message) → deep_bytes (seen_by c p) root c ≡ bytes_of (seen_by c p) (p.level root.object) (result_of_depth_first (seen_by c p) (depth_first (seen_by c p) root)) c
unfolding seen_by
seen_bytes c p root = refl

-- a run, and the depth-first run of the emptied session
run_and_deep : (q q' : Request) (ls : List ℕ) → q'.session ≡ emptied q.clearance q.session → q'.clearance ≡ q.clearance → Finished (timetabled q ls) → Finished (deep q') → EqualToReader (timetabled q ls) (deep q')
run_and_deep q q' ls of reader f f' =
    let r = finished-run q ls f in
    let a = r.passes.accepted in
    let p = program_of q.session in
    let c = q.clearance in
    let program : program_of q'.session ≡ seen_by c p = ap program_of of ∙ emptied_program q.session c a in
    let root : root_of q'.session ≡ root_of q.session = ap root_of of ∙ emptied_message q.session c in
    let deeper : bytes_written (deep q') ≡ deep_bytes (seen_by c p) (root_of q.session) c =
    deep-bytes q' (deep-passes q' f') ∙ session_bytes q' ∙ (λ i. deep_bytes (program i) (root i) (reader i)) in
    r.bytes
    ∙ run_bytes_lem q r.state
    ∙ reader_sees p (sound q.session a) (few_of q.session a) (root_of q.session) c (present q.session c r.passes.level) ls r.state r.ends
    ∙ sym (deeper ∙ seen_bytes c p (root_of q.session))

-- the depth-first run has the bytes of the plain run, of which the same is true
pub deep-emptied : DeepEmptied
deep-emptied q q' of reader f f' =
    let c = q.clearance in
    let yes = passes true q (deep-passes q f) in
    let a = yes.accepted in
    let s = q.session in
    let p = program_of s in
    let (t, run) = accepted_plain s a in
    let program : program_of q'.session ≡ seen_by c p = ap program_of of ∙ emptied_program s c a in
    let root : root_of q'.session ≡ root_of s = ap root_of of ∙ emptied_message s c in
    deep-bytes q (deep-passes q f)
    ∙ session_bytes q
    ∙ ap (λ r. bytes_of p (p.level (root_of s).object) r c) (sym (same_result p (sound s a) (few_of s a) (root_of s) (plain_order p (root_of s)) t run))
    ∙ reader_sees p (sound s a) (few_of s a) (root_of s) c (present s c yes.level) (plain_order p (root_of s)) t run
    ∙ sym (deep-bytes q' (deep-passes q' f') ∙ session_bytes q' ∙ (λ i. deep_bytes (program i) (root i) (reader i)) ∙ seen_bytes c p (root_of s))

-- a finished run is equal to the reader to the depth-first run of the emptied session
reader_same : (c : ℕ) (s : List ℕ) (a d : Answer) → TimetabledRun s c a → DepthFirstRun (emptied c s) c d → EqualToReader a d
reader_same c s a d r x =
    let q = r.request in
    let of : x.request.session ≡ emptied q.clearance q.session = x.of ∙ (λ i. emptied (sym r.reader i) (sym r.of i)) in
    ap bytes_written r.answer
    ∙ run_and_deep q x.request r.list of (x.reader ∙ sym r.reader) (rw (sym r.answer) r.finished) (rw (sym x.answer) x.finished)
    ∙ sym (ap bytes_written x.answer)

pub demand_3 : Demand3
demand_3 c s s' a a' d d' r r' x x' =
    let left = reader_same c s a d r x in
    let right = reader_same c s' a' d' r' x' in
    (λ e. sym left ∙ e ∙ right, λ e. left ∙ e ∙ sym right)
