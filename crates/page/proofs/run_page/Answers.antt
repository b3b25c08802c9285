use mathlib.Core.Path.{refl}
use native.Mathlib.Omega.{arith}
use Rattle.std.proofs.lemmas.Result.{err_from_is_err_and}
use Rattle.opening.proofs.Laws.Opening.{opened}
use Rattle.depth_first.proofs.Laws.Answers.{roomy}
use Rattle.page.proofs.Laws.Answers.{request, answers_unopened, answers_refusal, answers-16, page_room, bytes_few, page-small, answers-finished}
use Rattle.page.proofs.run_page.Goals as goal

pub returns-in_err-levels : goal.returns-in_err-levels
returns-in_err-levels c =
    let p = err_from_is_err_and c.from_residual.result c.from_residual.ensures.1 in
    let o = rw c.in_err-levels.was at c.open.ensures in
    rw (p.1, p.2) (answers_unopened (request c.args.session.now c.args.clearance c.args.res.now) c.args.page.now _ o)

pub returns-in_err-lent_refusal : goal.returns-in_err-lent_refusal
returns-in_err-lent_refusal c =
    let s = c.args.session.now in
    let b = c.args.res.now in
    let t = opened (rw c.in_ok-levels.was at c.open.ensures) in
    let q = request s c.args.clearance b in
    let p = err_from_is_err_and c.from_residual-in_err-lent_refusal.result c.from_residual-in_err-lent_refusal.ensures.1 in
    let l = rw c.in_err-lent_refusal.was at c.lent_refusal.ensures in
    rw (p.1, p.2) (answers_refusal q c.args.page.now _ (l.number q t.leveled.accepted t.count refl refl) l.place)

pub returns-then-page-lt-PAGE_BYTES : goal.returns-then-page-lt-PAGE_BYTES
returns-then-page-lt-PAGE_BYTES c =
    let s = c.args.session.now in
    let b = c.args.res.now in
    let t = opened (rw c.in_ok-levels.was at c.open.ensures) in
    let l = rw c.in_ok-lent_refusal.was at c.lent_refusal.ensures in
    let yes = l.number (request s c.args.clearance b) t.leveled.accepted t.count refl refl in
    answers-16 (request s c.args.clearance b) c.args.page.now yes c.if-page-lt-PAGE_BYTES.true

pub run-count-requires : goal.run-count-requires
run-count-requires c =
    let s = c.args.session.now in
    let b = c.args.res.now in
    let t = opened (rw c.in_ok-levels.was at c.open.ensures) in
    let l = rw c.in_ok-lent_refusal.was at c.lent_refusal.ensures in
    let yes = l.number (request s c.args.clearance b) t.leveled.accepted t.count refl refl in
    (t.leveled.accepted, t.leveled.masks_are, roomy s c.args.clearance b yes)

pub write_page-characters-requires : goal.write_page-characters-requires
write_page-characters-requires c =
    let s = c.args.session.now in
    let b = c.args.res.now in
    let t = opened (rw c.in_ok-levels.was at c.open.ensures) in
    let l = rw c.in_ok-lent_refusal.was at c.lent_refusal.ensures in
    let yes = l.number (request s c.args.clearance b) t.leveled.accepted t.count refl refl in
    let r = c.run-count in (
      page_room s c.args.clearance b c.args.page.now yes c.if-page-lt-PAGE_BYTES.false r.result r.new.res r.ensures,
      bytes_few s c.args.clearance b c.args.page.now yes r.result r.new.res r.ensures,
    )

pub returns : goal.returns
returns c =
    let s = c.args.session.now in
    let b = c.args.res.now in
    let t = opened (rw c.in_ok-levels.was at c.open.ensures) in
    let l = rw c.in_ok-lent_refusal.was at c.lent_refusal.ensures in
    let yes = l.number (request s c.args.clearance b) t.leveled.accepted t.count refl refl in
    let r = c.run-count in
    let w = c.write_page-characters in
    answers-finished s c.args.clearance b c.args.page.now yes c.if-page-lt-PAGE_BYTES.false r.result r.new.res r.ensures w.result w.new.page w.ensures

pub overflow_cast-result-2 : goal.overflow_cast-result-2
overflow_cast-result-2 c =
    let s = c.args.session.now in
    let b = c.args.res.now in
    let t = opened (rw c.in_ok-levels.was at c.open.ensures) in
    let l = rw c.in_ok-lent_refusal.was at c.lent_refusal.ensures in
    let yes = l.number (request s c.args.clearance b) t.leveled.accepted t.count refl refl in
    let r = c.run-count in
    let w = c.write_page-characters in
    record { fits = omega (arith, page-small s c.args.clearance b c.args.page.now yes r.result r.new.res r.ensures w.result w.new.page w.ensures) }
