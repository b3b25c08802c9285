use mathlib.Core.Path.{refl}
use Rattle.std.proofs.lemmas.Result.{err_from_is_err_and}
use Rattle.opening.proofs.Laws.Opening.{opened, deep_refuses, answers_unopened, answers_refusal}
use Rattle.depth_first.proofs.Laws.Answers.{request, roomy, answered}
use Rattle.depth_first.proofs.run_depth_first.Goals as goal

pub returns-in_err-levels : goal.returns-in_err-levels
returns-in_err-levels c =
    let p = err_from_is_err_and c.from_residual.result c.from_residual.ensures.1 in
    let o = rw c.in_err-levels.was at c.open.ensures in
    rw (p.1, p.2) (answers_unopened (deep_refuses (request c.args.session.now c.args.clearance c.args.res.now)) _ o)

pub returns-in_err-lent_refusal : goal.returns-in_err-lent_refusal
returns-in_err-lent_refusal c =
    let q = request c.args.session.now c.args.clearance c.args.res.now in
    let p = err_from_is_err_and c.from_residual-in_err-lent_refusal.result c.from_residual-in_err-lent_refusal.ensures.1 in
    let t = opened (rw c.in_ok-levels.was at c.open.ensures) in
    let l = rw c.in_err-lent_refusal.was at c.lent_refusal.ensures in
    rw (p.1, p.2) (answers_refusal (deep_refuses q) _ (l.number q t.leveled.accepted t.count refl refl) l.place)

pub run-count-requires : goal.run-count-requires
run-count-requires c =
    let s = c.args.session.now in
    let t = opened (rw c.in_ok-levels.was at c.open.ensures) in
    let l = rw c.in_ok-lent_refusal.was at c.lent_refusal.ensures in
    let yes = l.number (request s c.args.clearance c.args.res.now) t.leveled.accepted t.count refl refl in
    (t.leveled.accepted, t.leveled.masks_are, roomy s c.args.clearance c.args.res.now yes)

pub returns : goal.returns
returns c =
    let s = c.args.session.now in
    let t = opened (rw c.in_ok-levels.was at c.open.ensures) in
    let l = rw c.in_ok-lent_refusal.was at c.lent_refusal.ensures in
    let yes = l.number (request s c.args.clearance c.args.res.now) t.leveled.accepted t.count refl refl in
    answered s c.args.clearance c.args.res.now yes c.run-count.result c.run-count.new.res c.run-count.ensures
