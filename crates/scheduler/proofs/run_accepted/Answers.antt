use Rattle.std.proofs.Common.{refl}
use Rattle.std.proofs.lemmas.Result.{err_from_is_err_and}
use Rattle.std.specs.Prelude.{option_copied}
use Rattle.fields.specs.Limits.{field_words}
use Rattle.histories.specs.Limits.{history_words}
use Rattle.queues.specs.Queue.{queue_words}
use Rattle.contents.proofs.Laws.Session.{leveled}
use Rattle.level_state.specs.Representation.{words_of}
use Rattle.scheduler.specs.Runs.{list_of}
use Rattle.scheduler.proofs.Laws.Answers.{zeros-long, zeros-are, finished-by, show-ready, list_refused, list-finished}
use Rattle.scheduler.proofs.run_accepted.Goals as goal

pub read_in-level-requires : goal.read_in-level-requires
read_in-level-requires c =
    record { fields_room = zeros-long field_words; fields_none = zeros-are field_words; counts = c.first.ensures; forks_room = zeros-long queue_words }

pub make_steps-end-requires : goal.make_steps-end-requires
make_steps-end-requires c =
    c.read_in-level.ensures.initial.quiescent c.read_in-level.new.state.ended c.args.work.now (rw c.read_in-level.ensures.rest (zeros-long history_words)) c.requires.work_room

pub returns-in_err-end : goal.returns-in_err-end
returns-in_err-end c =
    let r = c.make_steps-end in
    let p = err_from_is_err_and c.from_residual.result c.from_residual.ensures.1 in
    rw (p.1, p.2) (list_refused c.args.session.now.bytes.now c.args.session.now.accepted (list_of c.args.session.now.bytes.now (option_copied c.args.timetable)) c.args.clearance c.args.work.now r.new.work c.clear.new.work c.args.res.now c.args.res.now r.ensures.1 c.clear.ensures (words_of r.new.state r.new.work) r.result _ r.ensures.0 c.in_err-end.was refl)

pub show-requires : goal.show-requires
show-requires c =
    let r = c.make_steps-end in
    show-ready c.args.session.now.bytes.now c.args.session.now.masks.now (list_of c.args.session.now.bytes.now (option_copied c.args.timetable)) (words_of r.new.state r.new.work) _ c.args.res.now (leveled c.args.session.now) (finished-by c.args.session.now.bytes.now (list_of c.args.session.now.bytes.now (option_copied c.args.timetable)) (words_of r.new.state r.new.work) r.result c.in_ok-end.was r.ensures.0) c.read_in-level.ensures.initial.level_is c.requires.result_room

pub returns : goal.returns
returns c =
    let r = c.make_steps-end in
    let x = c.show in
    list-finished c.args.session.now.bytes.now c.args.session.now.accepted (list_of c.args.session.now.bytes.now (option_copied c.args.timetable)) c.args.clearance c.args.work.now r.new.work c.clear.new.work c.args.res.now x.new.res r.ensures.1 c.clear.ensures (words_of r.new.state r.new.work) _ x.result (finished-by c.args.session.now.bytes.now (list_of c.args.session.now.bytes.now (option_copied c.args.timetable)) (words_of r.new.state r.new.work) r.result c.in_ok-end.was r.ensures.0) c.read_in-level.ensures.initial.level_is x.ensures
