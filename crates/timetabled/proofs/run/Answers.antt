use mathlib.Core.Path.{refl, sym, ◌∙◌, ap}
use Rattle.scripts.specs.Ending.{is_running}
use Rattle.contents.proofs.Laws.Session.{leveled}
use Rattle.level_state.specs.Representation.{words_of}
use Rattle.level_state.proofs.Laws.Tables.{tables}
use Rattle.level_state.proofs.Laws.Asks.{asks_nothing}
use Rattle.level_state.proofs.Laws.Made.{held_fits}
use Rattle.timetabled.proofs.Laws.Listed.{Permitted, Turn, list_start, list_askable, list_ends, list_refused, permitted, list_present, list_starts, list_started, list_able, list_made, list_unseen, list_seen, list_reads, list_told, list_answered, list_changes, list_settles, list_changed, list_performs, list_done}
use Rattle.timetabled.proofs.run.Invariants.{none}
use Rattle.timetabled.proofs.run.Goals as goal
use Rattle.timetabled.proofs.run.Goals.{In-Given, After-step-n}

-- the next step is permitted
here : (c : In-Given) → Permitted c.args.session.now.bytes.now c.args.session.now.masks.now c.args.session.now.index.now c.args.timetable.now none (words_of c.args.state.now c.args.work.now) (words_of c.loop-i.state c.loop-i.work) c.loop-i.managers c.loop-i.cache c.loop-i.i
here c =
    permitted (tables c.args.session.now) c.loop-i.invariant c.loop-i-test.true c.ask-permit.ensures c.in-Given.is

-- the manager that runs at its level has made a script step, or asks
turn : (c : After-step-n) → Turn c.args.session.now.bytes.now c.args.session.now.masks.now c.args.session.now.index.now c.args.timetable.now none (words_of c.args.state.now c.args.work.now) (words_of c.loop-i.state c.loop-i.work) c.loop-i.managers c.loop-i.cache c.loop-i.i c.is_unchanged-unchanged.result c.step-n.result
turn c =
    record {
      here = permitted (tables c.args.session.now) c.loop-i.invariant c.loop-i-test.true c.ask-permit.ensures c.in-Given.is;
      busy = sym c.is_busy.ensures ∙ c.if-not-is_busy.false;
      flag = c.is_unchanged-unchanged.ensures;
      step = c.step-n.ensures;
    }

pub loop-i-init : goal.loop-i-init
loop-i-init c =
    list_start c.args.timetable.now none (leveled c.args.session.now) (ap (λ m. is_running m.core.ending) c.none-managers.ensures) c.requires

pub ask-permit-requires : goal.ask-permit-requires
ask-permit-requires c = list_askable (leveled c.args.session.now) c.loop-i.invariant

pub returns-in_default : goal.returns-in_default
returns-in_default c =
    let a = c.ask-permit in
    let l = c.loop-i in
    (list_refused (leveled c.args.session.now) l.invariant c.loop-i-test.true a.ensures c.in_default.not-Given (words_of l.state l.work) c.refused_at.ensures (λ x n. rw n at c.map.ensures.cases), l.invariant.rest)

pub is_busy-requires : goal.is_busy-requires
is_busy-requires c =
    list_present (here (goal.at.is_busy-requires c).In-Given)

pub start-requires : goal.start-requires
start-requires c =
    list_starts (here (goal.at.start-requires c).In-Given) (sym c.is_busy.ensures ∙ c.if-not-is_busy.true)

pub bounds-managers-level : goal.bounds-managers-level
bounds-managers-level c =
    list_present (here (goal.at.bounds-managers-level c).In-Given)

pub loop-i-preserved-then-not-is_busy : goal.loop-i-preserved-then-not-is_busy
loop-i-preserved-then-not-is_busy c =
    let r = c.start in
    rw (r.ensures.rest.0, r.ensures.rest.1) (list_started (here (goal.at.loop-i-preserved-then-not-is_busy c).In-Given) (sym c.is_busy.ensures ∙ c.if-not-is_busy.true) r.ensures.started)

pub bounds-managers-level-in-loop-i : goal.bounds-managers-level-in-loop-i
bounds-managers-level-in-loop-i c =
    list_present (here (goal.at.bounds-managers-level-in-loop-i c).In-Given)

pub step-n-requires : goal.step-n-requires
step-n-requires c =
    list_able (here (goal.at.step-n-requires c).In-Given) (sym c.is_busy.ensures ∙ c.if-not-is_busy.false) c.is_unchanged-unchanged.ensures

pub step_seen-r-requires : goal.step_seen-r-requires
step_seen-r-requires c =
    list_unseen (turn (goal.at.step_seen-r-requires c).After-step-n) c.in-Read.is c.if-field-eq-EXISTENCE.true

pub bounds-managers-level-then-field-eq-EXISTENCE : goal.bounds-managers-level-then-field-eq-EXISTENCE
bounds-managers-level-then-field-eq-EXISTENCE c =
    list_present (here (goal.at.bounds-managers-level-then-field-eq-EXISTENCE c).In-Given)

pub done-requires : goal.done-requires
done-requires c =
    let q = list_performs (turn (goal.at.done-requires c).After-step-n) (list_seen (turn (goal.at.done-requires c).After-step-n) c.in-Read.is c.step_seen-r.ensures) in
    record { perform_ready = q.0; settle_ready = q.1 }

pub loop-i-preserved-then-field-eq-EXISTENCE : goal.loop-i-preserved-then-field-eq-EXISTENCE
loop-i-preserved-then-field-eq-EXISTENCE c =
    let r = c.done in
    list_done (turn (goal.at.loop-i-preserved-then-field-eq-EXISTENCE c).After-step-n) (list_seen (turn (goal.at.loop-i-preserved-then-field-eq-EXISTENCE c).After-step-n) c.in-Read.is c.step_seen-r.ensures) r.ensures c.step_seen-r.auto.cache

pub answer_read-requires : goal.answer_read-requires
answer_read-requires c =
    let q = list_reads (turn (goal.at.answer_read-requires c).After-step-n) c.in-Read.is c.if-field-eq-EXISTENCE.false in
    record { readable = q.0; read_ready = q.1 }

pub step-r-requires : goal.step-r-requires
step-r-requires c =
    list_told (turn (goal.at.step-r-requires c).After-step-n) c.in-Read.is c.if-field-eq-EXISTENCE.false c.answer_read.ensures

pub bounds-managers-level-in-Read : goal.bounds-managers-level-in-Read
bounds-managers-level-in-Read c =
    list_present (here (goal.at.bounds-managers-level-in-Read c).In-Given)

pub done-requires-in-Read : goal.done-requires-in-Read
done-requires-in-Read c =
    let q = list_performs (turn (goal.at.done-requires-in-Read c).After-step-n) (list_answered (turn (goal.at.done-requires-in-Read c).After-step-n) c.in-Read.is c.if-field-eq-EXISTENCE.false c.answer_read.ensures c.step-r.ensures c.forget.ensures) in
    record { perform_ready = q.0; settle_ready = q.1 }

pub loop-i-preserved-in-Read : goal.loop-i-preserved-in-Read
loop-i-preserved-in-Read c =
    let r = c.done-in-Read in
    list_done (turn (goal.at.loop-i-preserved-in-Read c).After-step-n) (list_answered (turn (goal.at.loop-i-preserved-in-Read c).After-step-n) c.in-Read.is c.if-field-eq-EXISTENCE.false c.answer_read.ensures c.step-r.ensures c.forget.ensures) r.ensures (c.forget.auto.fields ∙ c.answer_read.auto.cache)

pub change-r-requires : goal.change-r-requires
change-r-requires c =
    list_changes (turn (goal.at.change-r-requires c).After-step-n) c.in-Change.is

pub bounds-managers-level-in-Change : goal.bounds-managers-level-in-Change
bounds-managers-level-in-Change c =
    list_present (here (goal.at.bounds-managers-level-in-Change c).In-Given)

pub settle-requires : goal.settle-requires
settle-requires c =
    let made = c.change-r.ensures in
    record {
      settle_ready = rw (made.rest.0, made.rest.1) (list_settles (turn (goal.at.settle-requires c).After-step-n) c.in-Change.is made.changed_by);
      forks_bound = held_fits made.changed_by.held;
    }

pub loop-i-preserved-in-Change : goal.loop-i-preserved-in-Change
loop-i-preserved-in-Change c =
    let made = c.change-r.ensures in
    let r = c.settle.ensures in
    rw (r.rest.0, r.rest.1, made.rest.1) (list_changed (turn (goal.at.loop-i-preserved-in-Change c).After-step-n) c.in-Change.is made.changed_by (rw (made.rest.0, made.rest.1) at r.settled))

pub bounds-managers-level-in-loop-i-2 : goal.bounds-managers-level-in-loop-i-2
bounds-managers-level-in-loop-i-2 c =
    list_present (here (goal.at.bounds-managers-level-in-loop-i-2 c).In-Given)

pub done-requires-in-loop-i : goal.done-requires-in-loop-i
done-requires-in-loop-i c =
    let q = list_performs (turn (goal.at.done-requires-in-loop-i c).After-step-n) (list_made (turn (goal.at.done-requires-in-loop-i c).After-step-n) (asks_nothing c.step-n.result.core.effect c.in_default-effect.not-Read c.in_default-effect-2.not-Change)) in
    record { perform_ready = q.0; settle_ready = q.1 }

pub loop-i-preserved : goal.loop-i-preserved
loop-i-preserved c =
    let r = c.done-in-loop-i in
    list_done (turn (goal.at.loop-i-preserved c).After-step-n) (list_made (turn (goal.at.loop-i-preserved c).After-step-n) (asks_nothing c.step-n.result.core.effect c.in_default-effect.not-Read c.in_default-effect-2.not-Change)) r.ensures refl

pub at_end-requires : goal.at_end-requires
at_end-requires c =
    (list_askable (leveled c.args.session.now) c.loop-i.invariant).countable

pub returns : goal.returns
returns c =
    (list_ends (leveled c.args.session.now) c.loop-i.invariant c.loop-i-test.false c.at_end.ensures, c.loop-i.invariant.rest)
