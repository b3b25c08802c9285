use Rattle.std.proofs.lemmas.Result.{err_from_is_err_and}
use Rattle.std.specs.Prelude.{option_copied}
use Rattle.opening.proofs.Laws.Opening.{opened, timetabled_refuses, answers_unopened}
use Rattle.scheduler.specs.Runs.{list_of}
use Rattle.scheduler.proofs.Laws.Answers.{request}
use Rattle.scheduler.proofs.run_session.Goals as goal

pub returns-in_err-levels : goal.returns-in_err-levels
returns-in_err-levels c =
    let p = err_from_is_err_and c.from_residual.result c.from_residual.ensures.1 in
    let o = rw c.in_err-levels.was at c.open.ensures in
    rw (p.1, p.2) (answers_unopened (timetabled_refuses (request c.args.bytes.now c.args.clearance c.args.work.now c.args.res.now) (list_of c.args.bytes.now (option_copied c.args.timetable))) _ o)

pub run_opened-requires : goal.run_opened-requires
run_opened-requires c = (opened (rw c.in_ok-levels.was at c.open.ensures)).leveled
