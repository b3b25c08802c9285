use Rattle.std.proofs.Common.{◌∙◌, ap}
use Rattle.std.proofs.lemmas.Result.{err_from_is_err_and}
use Rattle.session.specs.Meaning.{level_of, root_object}
use Rattle.calls.specs.Refusals.{number_told, place_told, count_told}
use Rattle.opening.proofs.Laws.Opening.{opened, plain_refuses, answers_unopened}
use Rattle.scheduler.proofs.Laws.Start.{root_there}
use Rattle.scheduler.proofs.Laws.Answers.{request, answered-plain, answered-root}
use Rattle.scheduler.proofs.run_for_root.Goals as goal

pub returns-in_err-levels : goal.returns-in_err-levels
returns-in_err-levels c =
    let p = err_from_is_err_and c.from_residual.result c.from_residual.ensures.1 in
    let o = rw c.in_err-levels.was at c.open.ensures in
    rw (p.1, p.2) (answers_unopened (plain_refuses (request c.args.bytes.now (level_of c.args.bytes.now (root_object c.args.bytes.now)) c.args.work.now c.args.res.now)) _ o)

pub root-root-requires : goal.root-root-requires
root-root-requires c = (opened (rw c.in_ok-levels.was at c.open.ensures)).leveled.accepted

pub level_of-clearance-requires : goal.level_of-clearance-requires
level_of-clearance-requires c =
    let t = (opened (rw c.in_ok-levels.was at c.open.ensures)).leveled in
    (t.accepted, t.masks_are, root_there c.args.bytes.now t.accepted c.root-root.result c.root-root.ensures)

pub run_opened-requires : goal.run_opened-requires
run_opened-requires c = (opened (rw c.in_ok-levels.was at c.open.ensures)).leveled

pub returns : goal.returns
returns c =
    let r = c.run_opened in
    let s = c.args.bytes.now in
    answered-root s c.level_of-clearance.result (level_of s (root_object s)) c.args.work.now c.args.res.now (number_told r.result) (place_told r.result) (count_told r.result) r.new.work r.new.res (c.level_of-clearance.ensures ∙ ap (λ m. level_of s m.object) c.root-root.ensures)
    (answered-plain s c.level_of-clearance.result c.args.work.now c.args.res.now _ _ _ _ _ r.ensures)
