use Rattle.std.proofs.Common.{sym, ◌∙◌}
use Rattle.std.proofs.lemmas.Nat.{and_mask}
use Rattle.queues.proofs.Laws.Queue.{carried_is}
use Rattle.queues.proofs.carried_at.Goals as goal

pub returns : goal.returns
returns c =
    let g = c.args in
    rw c.place_of.ensures (λ n h. carried_is n g.queue.now g.level g.i g.j h c.requires.1 ∙ sym (and_mask _ 16))
