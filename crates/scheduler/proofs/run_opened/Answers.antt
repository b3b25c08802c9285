use Rattle.std.proofs.lemmas.Result.{err_from_is_err_and}
use Rattle.std.specs.Prelude.{option_copied}
use Rattle.opening.proofs.Laws.Opening.{timetabled_refuses, answers_refusal}
use Rattle.scheduler.specs.Runs.{list_of}
use Rattle.scheduler.proofs.Laws.Answers.{request, entry-is, run-ready, answered-list}
use Rattle.scheduler.proofs.run_opened.Goals as goal

pub returns-in_err-lent_refusal : goal.returns-in_err-lent_refusal
returns-in_err-lent_refusal c =
    let p = err_from_is_err_and c.from_residual.result c.from_residual.ensures.1 in
    let l = rw c.in_err-lent_refusal.was at c.lent_refusal.ensures in
    rw (p.1, p.2) (answers_refusal (timetabled_refuses (request c.args.bytes.now c.args.clearance c.args.work.now c.args.res.now) (list_of c.args.bytes.now (option_copied c.args.timetable))) _ (entry-is c.args.bytes.now c.args.clearance c.args.work.now c.args.res.now c.args.masks.now c.requires c.is_work-ten.result c.is_work-ten.ensures _ l) l.place)

pub new-session-requires-clause-accepted : goal.new-session-requires-clause-accepted
new-session-requires-clause-accepted c = c.requires.accepted

pub new-session-requires-clause-masks_are : goal.new-session-requires-clause-masks_are
new-session-requires-clause-masks_are c = c.requires.masks_are

pub run_accepted-requires : goal.run_accepted-requires
run_accepted-requires c =
    let l = rw c.in_ok-lent_refusal.was at c.lent_refusal.ensures in
    run-ready c.args.bytes.now c.args.clearance c.args.work.now c.args.res.now (entry-is c.args.bytes.now c.args.clearance c.args.work.now c.args.res.now c.args.masks.now c.requires c.is_work-ten.result c.is_work-ten.ensures _ l)

pub returns : goal.returns
returns c =
    let l = rw c.in_ok-lent_refusal.was at c.lent_refusal.ensures in
    let r = c.run_accepted in
    answered-list c.args.bytes.now c.args.clearance c.args.work.now c.args.res.now (entry-is c.args.bytes.now c.args.clearance c.args.work.now c.args.res.now c.args.masks.now c.requires c.is_work-ten.result c.is_work-ten.ensures _ l) r.new.work r.new.res r.result (list_of c.args.bytes.now (option_copied c.args.timetable)) (rw c.new-session.ensures at r.ensures)
