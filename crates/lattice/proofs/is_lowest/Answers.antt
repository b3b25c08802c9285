use Rattle.std.proofs.Common.{rules, tests, refl, length}
use Rattle.dominance.specs.Meet.{is_lowest}
use Rattle.dominance.specs.Table.{dominates}
use Rattle.lists.proofs.Laws.Ranges.{all_below}
use Rattle.lattice.proofs.is_lowest.Goals as goal

pub returns : goal.returns
unfolding is_lowest
returns c =
    let masks = c.args.masks.now in
    all_below (length masks) (λ i. dominates masks i c.args.l) _ _ _ _ refl c.all.ensures.ran (λ x b q k. search (rules, tests))
