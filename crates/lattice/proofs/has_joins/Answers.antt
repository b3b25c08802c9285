use Rattle.std.proofs.Common.{rules, tests, refl, ◌∙◌, length, not, eqb}
use Rattle.lists.specs.Range.{all}
use Rattle.dominance.specs.Table.{join_of}
use Rattle.lists.proofs.Laws.Ranges.{all_below}
use Rattle.lattice.proofs.Laws.Tables.{joined_once}
use Rattle.lattice.proofs.has_joins.Goals as goal

pub returns : goal.returns
returns c =
    let masks = c.args.masks.now in
    all_below (length masks) (λ a. all a (λ b. not (eqb (join_of masks a b) (length masks)))) _ _ _ _ refl c.all.ensures.ran (λ x b q k. search (rules, tests))
    ∙ joined_once masks c.requires
