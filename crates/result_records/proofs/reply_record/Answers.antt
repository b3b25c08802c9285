use mathlib.Core.Path.{◌∙◌, ap}
use Rattle.model.specs.Result.{bytes4}
use Rattle.result_records.proofs.Laws.Bytes.{reply_bytes}
use Rattle.result_records.proofs.reply_record.Goals as goal

pub returns : goal.returns
returns c =
    let g = c.args in
    let tag = c.tag_of-tag in
    let number = c.four-number in
    let none = c.four in
    let nothing = c.four-2 in
    c.record_of.ensures
    ∙ reply_bytes g.level tag.result g.reply number.result none.result nothing.result tag.ensures.0 (number.ensures ∙ ap bytes4 c.number_in.ensures) none.ensures nothing.ensures
