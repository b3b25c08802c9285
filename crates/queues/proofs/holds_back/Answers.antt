use mathlib.Core.Path.{sym}
use Rattle.queues.specs.Queue.{fork_at}
use Rattle.queues.proofs.Laws.Stamp.{holds_is}
use Rattle.queues.proofs.holds_back.Goals as goal

pub overflow_sub-place : goal.overflow_sub-place
overflow_sub-place c = rw (c.depth_at-depth.ensures 0) at (c.requires.1 0)

pub returns : goal.returns
returns c n =
    let g = c.args in
    rw (sym (c.stamp_at.ensures n), sym (c.depth_at-depth.ensures n)) (holds_is (fork_at n g.queue.now g.level g.i) g.stamp)
