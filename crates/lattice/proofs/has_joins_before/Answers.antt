use Rattle.std.proofs.Common.{rules, tests, refl, length, not, eqb}
use Rattle.dominance.specs.Table.{join_of}
use Rattle.lists.proofs.Laws.Ranges.{all_below}
use Rattle.lattice.proofs.has_joins_before.Goals as goal

pub returns : goal.returns
returns c =
    let masks = c.args.masks.now in
    all_below c.args.a (λ b. not (eqb (join_of masks c.args.a b) (length masks))) _ _ _ _ refl c.all.ensures.ran (λ x b q k. search (rules, tests))
