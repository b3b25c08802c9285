use Rattle.std.proofs.Common.{rules, tests, refl, ◌∙◌, length, not, ◌&&◌}
use Rattle.lists.specs.Range.{all}
use Rattle.dominance.specs.Table.{dominates}
use Rattle.lists.proofs.Laws.Ranges.{all_below}
use Rattle.lattice.proofs.Laws.Tables.{antisymmetric_once}
use Rattle.lattice.proofs.no_two_mutual.Goals as goal

pub returns : goal.returns
returns c =
    let masks = c.args.masks.now in
    all_below (length masks) (λ i. all i (λ j. not (dominates masks i j && dominates masks j i))) _ _ _ _ refl c.all.ensures.ran (λ x b q k. search (rules, tests))
    ∙ antisymmetric_once (length masks) (dominates masks)
