-- `is_free`: the test of each level is that its first manager does not hold back.
use Rattle.std.proofs.Common.{rules, tests, refl, sym, ◌∙◌, ap, ◌&&◌, not, length}
use Rattle.dominance.specs.Table.{dominates}
use Rattle.model.specs.Schedule.{holds_back}
use Rattle.lists.proofs.Laws.Ranges.{all_below}
use Rattle.queues.specs.Queue.{fork_at}
use Rattle.tallies.specs.Places.{managed}
use Rattle.permits.specs.Permits.{first_at}
use Rattle.permits.proofs.Laws.Permits.{first_there, spares_all}
use Rattle.permits.proofs.is_free.Goals as goal

pub stamp_at-stamp-requires : goal.stamp_at-stamp-requires
stamp_at-stamp-requires c =
    let g = c.args in
    rw c.ended.ensures (first_there g.masks.now g.tallies.now g.queue.now c.requires.0 g.level c.requires.1 c.requires.2)

pub returns : goal.returns
returns c =
    let g = c.args in
    let n = length g.masks.now in
    let stamp = c.stamp_at-stamp.result in
    all_below n (λ j. not (managed g.tallies.now j && (dominates g.masks.now g.level j && holds_back (first_at g.masks.now g.tallies.now g.queue.now j) stamp))) _ _ _ _ refl c.all.ensures.ran (λ x b q k. search (rules, tests))
    ∙ spares_all g.masks.now g.tallies.now g.queue.now g.level n stamp (ap (λ i. (fork_at n g.queue.now g.level i).stamp) (sym c.ended.ensures) ∙ c.stamp_at-stamp.ensures n)
