-- A full level drops a fork unless the last one that waits, at the last place, has a greater stamp.
use mathlib.Core.Path.{sym}
use native.Mathlib.Omega.{arith}
use Rattle.queues.proofs.Laws.Queue.{dropped_roomy, dropped_started, dropped_last}
use Rattle.queues.proofs.drops.Goals as goal

pub returns-then-started-waiting-lt-MAX_MANAGERS : goal.returns-then-started-waiting-lt-MAX_MANAGERS
returns-then-started-waiting-lt-MAX_MANAGERS c =
    let g = c.args in
    λ n. dropped_roomy n g.queue.now g.level g.started g.stamp g.waiting (omega arith)

pub returns-then-waiting-eq0 : goal.returns-then-waiting-eq0
returns-then-waiting-eq0 c =
    let g = c.args in
    λ n. dropped_started n g.queue.now g.level g.started g.stamp g.waiting c.if-started-waiting-lt-MAX_MANAGERS.false c.if-waiting-eq0.true

pub returns : goal.returns
returns c =
    let g = c.args in
    λ n.
    rw (sym (c.stamp_at.ensures n))
    (dropped_last n g.queue.now g.level g.started g.stamp g.waiting (omega (arith, c.requires.kept, c.if-started-waiting-lt-MAX_MANAGERS.false)) c.if-waiting-eq0.false)
