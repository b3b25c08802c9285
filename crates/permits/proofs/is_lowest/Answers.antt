-- `is_lowest`: the test of each level is that nothing there stands against the rule.
use Rattle.std.proofs.Common.{rules, tests, refl, sym, ◌∙◌, ◌&&◌, eqb, not, length}
use Rattle.dominance.specs.Table.{dominates}
use Rattle.lists.proofs.Laws.Ranges.{all_below}
use Rattle.tallies.specs.Places.{managed}
use Rattle.permits.proofs.Laws.Permits.{passes_all}
use Rattle.permits.proofs.is_lowest.Goals as goal

pub returns-then-has_manager : goal.returns-then-has_manager
returns-then-has_manager c =
    let g = c.args in
    let n = length g.masks.now in
    rw (sym c.has_manager.ensures ∙ c.if-has_manager.true)
    (all_below n (λ j. not (not (eqb g.level j) && managed g.tallies.now j && dominates g.masks.now g.level j)) _ _ _ _ refl c.all.ensures.ran (λ x b q k. search (rules, tests))
    ∙ passes_all g.masks.now g.tallies.now g.level n)
