-- The fork is a child of the one behind those that have ended, and is dropped or arrives among those that wait.
use native.Mathlib.Omega.{arith}
use Rattle.level_state.proofs.Laws.Made.{forked_dropped}
use Rattle.level_steps.proofs.fork.Goals as goal

pub returns-then-drops : goal.returns-then-drops
returns-then-drops g c =
    let stamp = c.stamp_at in
    let depth = c.depth_at-depth in
    forked_dropped (g.C.Counts.numbers c.args.tallies.now) c.args.queue.now c.args.level c.args.forks c.args.above depth.result stamp.result (λ n. rw c.ended-i.ensures at depth.ensures n) (λ n. rw c.ended-i.ensures at stamp.ensures n) c.args.stamp c.child_stamp-child.result c.args.message c.child_stamp-child.ensures (record { deep = omega (arith, c.requires.shallow, rw c.ended-i.ensures at depth.ensures 0); object = omega (arith, c); name = omega (arith, c) }) (omega (arith, c)) c.requires c.drops.result (λ n. rw (c.started-started.ensures, c.waiting-waiting.ensures) at c.drops.ensures n) c.if-drops.true
