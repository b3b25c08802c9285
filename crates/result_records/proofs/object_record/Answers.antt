use mathlib.Core.Path.{◌∙◌, ap}
use Rattle.scripts.specs.Value.{tag, number_in}
use Rattle.fields.specs.Fields.{field_at}
use Rattle.model.specs.Result.{bytes4}
use Rattle.result_records.proofs.Laws.Bytes.{object_bytes}
use Rattle.result_records.proofs.object_record.Goals as goal

pub returns : goal.returns
returns c =
    let g = c.args in
    let get0 = c.get-v0.ensures in
    let get1 = c.get-v1.ensures in
    let get2 = c.get-v2.ensures in
    let tag0 = c.tag_of in
    let tag1 = c.tag_of-2 in
    let tag2 = c.tag_of-3 in
    let four0 = c.four in
    let four1 = c.four-2 in
    let four2 = c.four-3 in
    c.record_of.ensures
    ∙ object_bytes g.object g.level (field_at g.fields.now g.object) tag0.result tag1.result tag2.result four0.result four1.result four2.result
    (tag0.ensures.0 ∙ ap tag get0) (tag1.ensures.0 ∙ ap tag get1) (tag2.ensures.0 ∙ ap tag get2)
    (four0.ensures ∙ ap bytes4 (c.number_in.ensures ∙ ap number_in get0))
    (four1.ensures ∙ ap bytes4 (c.number_in-2.ensures ∙ ap number_in get1))
    (four2.ensures ∙ ap bytes4 (c.number_in-3.ensures ∙ ap number_in get2))
