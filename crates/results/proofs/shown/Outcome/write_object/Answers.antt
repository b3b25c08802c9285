use mathlib.Core.Path.{sym, ◌∙◌}
use native.Mathlib.Omega.{arith}
use Rattle.session.specs.Program.{program_of}
use Rattle.session.proofs.Laws.Accepted.{level_present}
use Rattle.session.proofs.Laws.Contents.{level_limit}
use Rattle.session.proofs.Laws.Numbers.{number_few}
use Rattle.fields.specs.Fields.{field_at}
use Rattle.results.proofs.Laws.Shown.{object_shown, object_hidden, object_absent}
use Rattle.results.proofs.shown.Outcome.write_object.Goals as goal

pub is_there-requires : goal.is_there-requires
is_there-requires c =
    record {
      room = c.args.self.now.fields_ready.room;
      object = number_few c.args.self.now.session.bytes.now c.args.self.now.fields_ready.accepted c.args.object c.requires.0;
      field = omega arith;
    }

pub returns-then-not-is_there : goal.returns-then-not-is_there
returns-then-not-is_there c =
    let g = c.args in
    let o = g.self.now in
    object_absent (program_of o.session.bytes.now) (field_at o.fields.now) o.clearance g.object 0 g.res.now
    (sym c.is_there.ensures ∙ c.if-not-is_there.true) (omega (arith, c.requires.1))

pub object_record-made-requires : goal.object_record-made-requires
object_record-made-requires c =
    let t = c.args.self.now.session.bytes.now in
    let a = c.args.self.now.fields_ready.accepted in
    omega (arith, c.args.self.now.fields_ready.room, number_few t a c.args.object c.requires.0, level_limit t a, level_present t a c.args.object, c.level_of-level.ensures)

pub returns-then-dominates : goal.returns-then-dominates
returns-then-dominates c =
    let g = c.args in
    let o = g.self.now in
    let level = c.level_of-level in
    let there = c.is_there in
    let made = c.object_record-made in
    object_shown o.session.bytes.now o.session.masks.now (field_at o.fields.now) o.clearance g.object level.result 0 c.put.result
    g.res.now c.put.new.res o.fields_ready.table level.ensures made.result
    (sym there.ensures ∙ c.if-not-is_there.false)
    (sym c.dominates.ensures ∙ c.if-dominates.true) made.ensures c.put.ensures

pub returns-else-dominates : goal.returns-else-dominates
returns-else-dominates c =
    let g = c.args in
    let o = g.self.now in
    object_hidden o.session.bytes.now o.session.masks.now (field_at o.fields.now) o.clearance g.object c.level_of-level.result 0 0
    g.res.now g.res.now o.fields_ready.table c.level_of-level.ensures (sym c.dominates.ensures ∙ c.if-dominates.false) (omega (arith, c.requires.1))
