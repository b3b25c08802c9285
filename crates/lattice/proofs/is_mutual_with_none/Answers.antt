use Rattle.std.proofs.Common.{rules, tests, refl, not, ◌&&◌}
use Rattle.dominance.specs.Table.{dominates}
use Rattle.lists.proofs.Laws.Ranges.{all_below}
use Rattle.lattice.proofs.is_mutual_with_none.Goals as goal

pub returns : goal.returns
returns c =
    let masks = c.args.masks.now in
    all_below c.args.i (λ j. not (dominates masks c.args.i j && dominates masks j c.args.i)) _ _ _ _ refl c.all.ensures.ran (λ x b q k. search (rules, tests))
