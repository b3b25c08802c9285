use native.Mathlib.Omega.{arith}
use Rattle.level_state.specs.Representation.{words_of}
use Rattle.fork_runs.proofs.Laws.Next.{turns_small, turns_start, turns_next, turns_less, turns_done}
use Rattle.plain.proofs.run_level.Goals as goal

pub loop-state-init : goal.loop-state-init
loop-state-init c =
    turns_start c.args.session.now.bytes.now c.args.session.now.accepted (words_of c.args.state.now c.args.work.now) c.args.level c.requires

pub waiting-requires : goal.waiting-requires
waiting-requires c =
    omega (arith, turns_small c.args.session.now.bytes.now c.args.session.now.accepted (words_of c.args.state.now c.args.work.now) c.args.level c.requires)

pub run_next-requires : goal.run_next-requires
run_next-requires c =
    let l = c.loop-state in
    turns_next c.args.session.now.bytes.now c.args.session.now.accepted (words_of c.args.state.now c.args.work.now) c.args.level c.requires (words_of l.state l.work) l.invariant (rw c.waiting.ensures at c.loop-state-test.true)

pub loop-state-smaller : goal.loop-state-smaller
loop-state-smaller c =
    let l = c.loop-state in
    let r = c.run_next in
    turns_less c.args.session.now.bytes.now c.args.session.now.accepted (words_of c.args.state.now c.args.work.now) c.args.level c.requires (words_of l.state l.work) l.invariant (words_of r.new.state r.new.work) r.ensures

pub returns : goal.returns
returns c =
    let l = c.loop-state in
    turns_done c.args.session.now.bytes.now c.args.session.now.accepted (words_of c.args.state.now c.args.work.now) c.args.level c.requires (words_of l.state l.work) l.invariant (omega (arith, c.waiting.ensures, c.loop-state-test.false))
