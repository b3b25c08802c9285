use Rattle.std.proofs.Common.{rules, tests, refl, sym, ◌∙◌, length}
use Rattle.lists.specs.Range.{implies}
use Rattle.lists.proofs.Laws.Range.{and_taken, and_fails_left}
use Rattle.dominance.specs.Join.{is_upper, is_least}
use Rattle.dominance.specs.Table.{dominates}
use Rattle.lists.proofs.Laws.Ranges.{all_below}
use Rattle.lattice.proofs.is_least.Goals as goal

pub returns-then-is_upper : goal.returns-then-is_upper
unfolding is_least
returns-then-is_upper c =
    let g = c.args in
    let dom = dominates g.masks.now in
    and_taken _ _ _ (sym c.is_upper.ensures ∙ c.if-is_upper.true)
    (all_below (length g.masks.now) (λ v. implies (is_upper dom g.a g.b v) (dom v g.u)) _ _ _ _ refl c.all.ensures.ran (λ x b q k. search (rules, tests)))

pub returns-else-is_upper : goal.returns-else-is_upper
unfolding is_least
returns-else-is_upper c = c.if-is_upper.false ∙ sym (and_fails_left _ _ (sym c.is_upper.ensures ∙ c.if-is_upper.false))
