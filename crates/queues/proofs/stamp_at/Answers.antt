use mathlib.Core.Path.{refl}
use Rattle.lists.specs.Lists.{tab}
use Rattle.rows.specs.Rows.{row_at}
use Rattle.queues.specs.Queue.{fork_of_row, fork_at}
use Rattle.queues.proofs.stamp_at.Goals as goal

pub returns : goal.returns
unfolding fork_at fork_of_row row_at tab
returns c = rw c.place_of.ensures (λ n. refl)
