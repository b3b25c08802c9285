use Rattle.contents.proofs.Laws.Session.{leveled}
use Rattle.plain.proofs.Laws.Plain.{plain_start, plain-counted, plain_ready, plain_less, plain_again, plain_over}
use Rattle.plain.proofs.run.Goals as goal

pub loop-level-init : goal.loop-level-init
loop-level-init c =
    plain_start c.requires

pub first_lowest-requires : goal.first_lowest-requires
first_lowest-requires c =
    plain-counted (leveled c.args.session.now) c.loop-level.invariant

pub run_level-requires : goal.run_level-requires
run_level-requires c =
    plain_ready (leveled c.args.session.now) c.loop-level.invariant c.in-Some.ensures.0 c.in-Some.ensures.1

pub loop-level-smaller : goal.loop-level-smaller
loop-level-smaller c =
    plain_less (leveled c.args.session.now) c.loop-level.invariant c.in-Some.ensures.0 c.in-Some.ensures.1 c.run_level.ensures

pub loop-level-preserved : goal.loop-level-preserved
loop-level-preserved c =
    plain_again (leveled c.args.session.now) c.loop-level.invariant c.in-Some.ensures.0 c.in-Some.ensures.1 c.run_level.ensures

pub returns : goal.returns
returns c =
    let l = c.loop-level in
    (plain_over (leveled c.args.session.now) l.invariant c.in_default.ensures, l.invariant.rest)
