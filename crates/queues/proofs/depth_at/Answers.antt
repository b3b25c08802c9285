use Rattle.std.proofs.Common.{sym}
use Rattle.std.proofs.lemmas.Nat.{and_mask}
use Rattle.lists.specs.Lists.{tab}
use Rattle.rows.specs.Rows.{row_at}
use Rattle.queues.specs.Queue.{fork_of_row, fork_at}
use Rattle.queues.proofs.depth_at.Goals as goal

pub returns : goal.returns
unfolding fork_at fork_of_row row_at tab
returns c = rw c.place_of.ensures (λ n. sym (and_mask _ 8))
