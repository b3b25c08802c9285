use mathlib.Core.Path.{◌≡◌}
use native.Mathlib.Omega.{arith}
use lib.ListN.{length}
use Rattle.queues.specs.Queue.{fork_words}
use Rattle.queues.proofs.Laws.Queue.{arrived}
use Rattle.queues.proofs.arrive.Goals as goal

pub returns : goal.returns
returns c =
    let g = c.args in
    let w : length g.row.now ≡ fork_words = omega arith in
    arrived g.queue.now c.insert.new.words g.level g.started g.waiting g.row.now c.insert.result c.requires w
    (rw c.place_of.ensures at c.insert.ensures)
