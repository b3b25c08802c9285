use Rattle.std.proofs.Common.{◌≡◌, suc, ◌+◌, ◌-◌, ◌*◌, get_or, sym, ap, ◌∙◌, arith}
use Rattle.model.specs.Level.{newest}
use Rattle.versions.specs.Log.{version_numbers, log_start, log_of}
use Rattle.versions.proofs.Laws.Scan.{distance_of, near_is, far_is_not, scan_none, scan_found, scan_past}
use Rattle.versions.proofs.Laws.Order.{newest_before}
use Rattle.versions.proofs.newest_to.Goals as goal

pub loop-n-init : goal.loop-n-init
loop-n-init c =
    let a = c.args in
    newest_before a.work.now (log_start a.level) a.bound a.initial a.object a.field a.count _ c.count_to-n.ensures

pub returns-then-packed-key-lt-FIELD : goal.returns-then-packed-key-lt-FIELD
returns-then-packed-key-lt-FIELD c =
    let a = c.args in
    let at = c.loop-n in
    let n = at.n - 1 in
    let place = log_start a.level + version_numbers * n in
    let last : at.n ≡ suc n = omega arith in
    let far = distance_of (get_or a.work.now place 0) a.object a.field c.key_of-key.result (omega arith) (omega arith) (omega (arith, c.type_inv.work place)) c.key_of-key.ensures in
    c.value_at.ensures
    ∙ sym (scan_found a.work.now (log_start a.level) n a.initial a.object a.field
    (near_is _ _ a.object a.field _ far c.if-packed-key-lt-FIELD.true))
    ∙ ap (λ m. newest a.initial a.object a.field (log_of a.work.now (log_start a.level) m)) (sym last)
    ∙ at.invariant

pub loop-n-preserved : goal.loop-n-preserved
loop-n-preserved c =
    let a = c.args in
    let at = c.loop-n in
    let n = at.n - 1 in
    let place = log_start a.level + version_numbers * n in
    let last : at.n ≡ suc n = omega arith in
    let far = distance_of (get_or a.work.now place 0) a.object a.field c.key_of-key.result (omega arith) (omega arith) (omega (arith, c.type_inv.work place)) c.key_of-key.ensures in
    sym (scan_past a.work.now (log_start a.level) n a.initial a.object a.field
    (far_is_not _ _ a.object a.field _ far c.if-packed-key-lt-FIELD.false))
    ∙ ap (λ m. newest a.initial a.object a.field (log_of a.work.now (log_start a.level) m)) (sym last)
    ∙ at.invariant

pub returns : goal.returns
returns c =
    let a = c.args in
    let at = c.loop-n in
    let none : 0 ≡ at.n = omega arith in
    sym (scan_none a.work.now (log_start a.level) 0 a.initial a.object a.field)
    ∙ ap (λ m. newest a.initial a.object a.field (log_of a.work.now (log_start a.level) m)) none
    ∙ at.invariant
