-- `all_ended`: the test of each level is that it has no manager.
use Rattle.std.proofs.Common.{rules, tests, refl, not, length}
use Rattle.lists.proofs.Laws.Ranges.{all_below}
use Rattle.tallies.specs.Places.{managed}
use Rattle.permits.proofs.all_ended.Goals as goal

pub returns : goal.returns
returns c =
    let g = c.args in
    all_below (length g.masks.now) (λ j. not (managed g.tallies.now j)) _ _ _ _ refl c.all.ensures.ran (λ x b q k. search (rules, tests))
