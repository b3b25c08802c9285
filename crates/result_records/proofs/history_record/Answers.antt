use Rattle.std.proofs.Common.{◌+◌, ◌%◌, ◌^◌, ◌∙◌, ap, get_or}
use Rattle.std.proofs.lemmas.Nat.{and_mask}
use Rattle.histories.specs.Limits.{writes_place}
use Rattle.histories.specs.Histories.{history_place}
use Rattle.result_records.proofs.Laws.Bytes.{history_bytes_lem}
use Rattle.result_records.proofs.history_record.Goals as goal

pub returns : goal.returns
returns c =
    let g = c.args in
    let stamp = c.four in
    let stamps = c.two in
    let steps = c.two-2 in
    let ending = c.ending_byte in
    let at = c.place_of-at.ensures in
    c.record_of.ensures
    ∙ history_bytes_lem g.histories.now (history_place g.level g.i) g.level ending.result _ stamp.result stamps.result steps.result
    (rw at at ending.ensures) (and_mask _ 8 ∙ ap (λ k. get_or g.histories.now (k + writes_place) 0 % 2 ^ 8) at) (rw at at stamp.ensures) (rw at at stamps.ensures) (rw at at steps.ensures)
