use mathlib.Core.Path.{refl, sym, ◌∙◌, ap}
use Rattle.scripts.specs.Ending.{is_running}
use Rattle.level_state.specs.Representation.{words_of}
use Rattle.level_state.specs.Steps.{parts_of}
use Rattle.level_state.proofs.Laws.Tables.{tables}
use Rattle.level_state.proofs.Laws.Asks.{asks_nothing}
use Rattle.fork_runs.proofs.Laws.Next.{Gone, goes, starts, next_start, next_able, next_flags, next_reads, asks-existence, asks_field, next_performs, told_less, told_again, done_settles, done_less, done_again, next_changing, changed_settles, changed_less, changed_again, next_done}
use Rattle.fork_runs.proofs.run_next.Goals as goal
use Rattle.fork_runs.proofs.run_next.Goals.{After-advance-m}

pub start-m-requires : goal.start-m-requires
start-m-requires c =
    starts (tables c.args.session.now) c.requires

pub loop-cache-init : goal.loop-cache-init
loop-cache-init c =
    (rw (c.start-m.ensures.rest.0, c.start-m.ensures.rest.1) (next_start (tables c.args.session.now) c.requires c.start-m.ensures.started.0 c.start-m.ensures.started.1), refl)

-- the manager has made its steps
gone : (c : After-advance-m) → Gone c.args.session.now.bytes.now c.args.session.now.masks.now c.args.session.now.index.now (words_of c.args.state.now c.args.work.now) (words_of c.loop-cache.state c.loop-cache.work) c.args.level c.start-m.new.state.ended c.start-m.new.state.tallies c.start-m.result c.loop-cache.m c.loop-cache.cache c.is_unchanged-unchanged.result c.advance-m.result
gone c =
    record {
      going = goes (tables c.args.session.now) c.requires c.start-m.ensures.started c.loop-cache.invariant c.is_running.ensures c.loop-cache-test.true;
      flag = c.is_unchanged-unchanged.ensures;
      steps = c.advance-m.ensures;
    }

pub advance-m-requires : goal.advance-m-requires
advance-m-requires c =
    let q = next_able (goes (tables c.args.session.now) c.requires c.start-m.ensures.started c.loop-cache.invariant c.is_running.ensures c.loop-cache-test.true) in
    record { advanceable = q.0; steps_lt_limit = q.1 }

pub answer_existence-requires : goal.answer_existence-requires
answer_existence-requires c =
    let q = next_reads (gone (goal.at.answer_existence-requires c).After-advance-m) (asks-existence (gone (goal.at.answer_existence-requires c).After-advance-m) c.in-Read.is c.if-field-eq-EXISTENCE.true) in
    record { readable = q.0; read_ready = q.1 }

pub loop-cache-smaller-then-field-eq-EXISTENCE : goal.loop-cache-smaller-then-field-eq-EXISTENCE
loop-cache-smaller-then-field-eq-EXISTENCE c =
    told_less (gone (goal.at.loop-cache-smaller-then-field-eq-EXISTENCE c).After-advance-m) (asks-existence (gone (goal.at.loop-cache-smaller-then-field-eq-EXISTENCE c).After-advance-m) c.in-Read.is c.if-field-eq-EXISTENCE.true) c.answer_existence.ensures

pub loop-cache-preserved-then-field-eq-EXISTENCE : goal.loop-cache-preserved-then-field-eq-EXISTENCE
loop-cache-preserved-then-field-eq-EXISTENCE c =
    (told_again (gone (goal.at.loop-cache-preserved-then-field-eq-EXISTENCE c).After-advance-m) (asks-existence (gone (goal.at.loop-cache-preserved-then-field-eq-EXISTENCE c).After-advance-m) c.in-Read.is c.if-field-eq-EXISTENCE.true) c.answer_existence.ensures c.answer_existence.auto.cache, refl)

pub answer_read-requires : goal.answer_read-requires
answer_read-requires c =
    let e = c.in-Read.is in
    let q = next_reads (gone (goal.at.answer_read-requires c).After-advance-m) e in
    record { readable = q.0; read_ready = (q.1, asks_field (gone (goal.at.answer_read-requires c).After-advance-m) e c.if-field-eq-EXISTENCE.false) }

pub loop-cache-smaller-in-Read : goal.loop-cache-smaller-in-Read
loop-cache-smaller-in-Read c =
    told_less (gone (goal.at.loop-cache-smaller-in-Read c).After-advance-m) c.in-Read.is c.answer_read.ensures

pub loop-cache-preserved-in-Read : goal.loop-cache-preserved-in-Read
loop-cache-preserved-in-Read c =
    (told_again (gone (goal.at.loop-cache-preserved-in-Read c).After-advance-m) c.in-Read.is c.answer_read.ensures c.answer_read.auto.cache, refl)

pub change-m-requires : goal.change-m-requires
change-m-requires c =
    next_changing (gone (goal.at.change-m-requires c).After-advance-m) c.in-Change.is

pub settle-requires : goal.settle-requires
settle-requires c =
    let q = changed_settles (gone (goal.at.settle-requires c).After-advance-m) c.in-Change.is c.change-m.ensures.changed_by in
    record { settle_ready = rw (c.change-m.ensures.rest.0, c.change-m.ensures.rest.1) q.0; forks_bound = q.1 }

pub loop-cache-smaller-in-Change : goal.loop-cache-smaller-in-Change
loop-cache-smaller-in-Change c =
    let x = c.change-m in
    let d = c.settle in
    changed_less (gone (goal.at.loop-cache-smaller-in-Change c).After-advance-m) c.in-Change.is x.ensures.changed_by (words_of d.new.state x.new.work)

pub loop-cache-preserved-in-Change : goal.loop-cache-preserved-in-Change
loop-cache-preserved-in-Change c =
    let x = c.change-m in
    let d = c.settle in
    (rw (d.ensures.rest.0, d.ensures.rest.1, x.ensures.rest.1) (changed_again (gone (goal.at.loop-cache-preserved-in-Change c).After-advance-m) c.in-Change.is x.ensures.changed_by (rw (x.ensures.rest.0, x.ensures.rest.1) at d.ensures.settled)), refl)

pub perform-requires : goal.perform-requires
perform-requires c =
    next_performs (gone (goal.at.perform-requires c).After-advance-m)

pub settle-requires-in-loop-cache : goal.settle-requires-in-loop-cache
settle-requires-in-loop-cache c =
    let p = c.perform in
    let q = done_settles (gone (goal.at.settle-requires-in-loop-cache c).After-advance-m) (asks_nothing c.advance-m.result.core.effect c.in_default.not-Read c.in_default-effect.not-Change) (parts_of (words_of p.new.state p.new.work)) p.ensures.performed in
    record { settle_ready = rw p.ensures.rest q.0; forks_bound = q.1 }

pub loop-cache-smaller : goal.loop-cache-smaller
loop-cache-smaller c =
    let p = c.perform in
    let d = c.settle-in-loop-cache in
    done_less (gone (goal.at.loop-cache-smaller c).After-advance-m) (asks_nothing c.advance-m.result.core.effect c.in_default.not-Read c.in_default-effect.not-Change) (parts_of (words_of p.new.state p.new.work)) p.ensures.performed (words_of d.new.state p.new.work)

pub loop-cache-preserved : goal.loop-cache-preserved
loop-cache-preserved c =
    let p = c.perform in
    let d = c.settle-in-loop-cache in
    (rw (d.ensures.rest.0, d.ensures.rest.1) (done_again (gone (goal.at.loop-cache-preserved c).After-advance-m) (asks_nothing c.advance-m.result.core.effect c.in_default.not-Read c.in_default-effect.not-Change) (parts_of (words_of p.new.state p.new.work)) p.ensures.performed (rw p.ensures.rest at d.ensures.settled)), refl)

pub returns : goal.returns
returns c =
    let i = c.loop-cache.invariant in
    next_done (tables c.args.session.now) c.requires c.start-m.ensures.started.0 c.start-m.ensures.started.1 i.0 (ap is_running (sym i.1) ∙ sym c.is_running.ensures ∙ c.loop-cache-test.false)
