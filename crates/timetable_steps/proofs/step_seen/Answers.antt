-- Existence is told, then a field of the same object if it is asked for, and all of it is forgotten.
use mathlib.Core.Path.{◌∙◌}
use Rattle.level_state.proofs.Laws.Tables.{tables}
use Rattle.level_state.proofs.Laws.Script.{readable}
use Rattle.level_state.proofs.Laws.Told.{tells, unseen_able, unseen_forgets, unseen_made, seen_field, seen_tells, seen_able, seen_forgets, seen_made}
use Rattle.timetable_steps.proofs.step_seen.Goals as goal

pub answer_existence-requires : goal.answer_existence-requires
answer_existence-requires c =
    record { readable = readable (tables c.args.session.now) c.requires.waits.runs; read_ready = tells (tables c.args.session.now) c.requires.waits c.requires.there }

pub step-n-requires : goal.step-n-requires
step-n-requires c = unseen_able (tables c.args.session.now) c.requires c.answer_existence.ensures

pub answer_read-requires : goal.answer_read-requires
answer_read-requires c =
    let first = c.answer_existence.ensures in
    let d = c.step-n.ensures in
    let is = c.in-Read.is in
    record { readable = readable (tables c.args.session.now) c.requires.waits.runs; read_ready = (seen_tells (tables c.args.session.now) c.requires first d is, (seen_field (tables c.args.session.now) c.requires first d is).1) }

pub step-r-requires : goal.step-r-requires
step-r-requires c =
    seen_able (tables c.args.session.now) c.requires c.answer_existence.ensures c.step-n.ensures c.in-Read.is c.answer_read.ensures

pub forget-requires : goal.forget-requires
forget-requires c =
    seen_forgets (tables c.args.session.now) c.requires c.answer_existence.ensures c.step-n.ensures c.in-Read.is c.answer_read.ensures

pub forget-requires-in-Read : goal.forget-requires-in-Read
forget-requires-in-Read c =
    let there = unseen_forgets (tables c.args.session.now) c.requires c.answer_existence.ensures in
    record {
      room = rw (c.forget.auto.fields ∙ c.answer_read.auto.cache) there.room;
      object = there.object;
      field = there.field;
    }

pub returns-in-Read : goal.returns-in-Read
returns-in-Read c =
    seen_made (tables c.args.session.now) c.requires c.answer_existence.ensures c.step-n.ensures c.in-Read.is c.answer_read.ensures c.step-r.ensures c.forget.ensures c.forget-in-Read.ensures

pub forget-requires-2 : goal.forget-requires-2
forget-requires-2 c = unseen_forgets (tables c.args.session.now) c.requires c.answer_existence.ensures

pub returns : goal.returns
returns c =
    let step = c.step-n in
    unseen_made (tables c.args.session.now) c.requires c.answer_existence.ensures step.ensures c.in_default.not-Read c.forget-2.ensures
