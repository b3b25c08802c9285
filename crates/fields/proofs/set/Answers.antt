use Rattle.fields.proofs.Laws.Fields.{field_set}
use Rattle.fields.proofs.set.Goals as goal

pub returns : goal.returns
returns c =
    let g = c.args in
    let t = c.tag_of in
    let n = c.number_in in
    let w = c.store in
    field_set g.fields.now w.new.fields g.object g.k t.result n.result g.value c.requires w.ensures n.ensures t.ensures.0
