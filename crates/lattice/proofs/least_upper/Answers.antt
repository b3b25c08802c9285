use Rattle.std.proofs.Common.{rules, tests, ◌≡◌, true, false, length, ◌∙◌}
use Rattle.std.proofs.lemmas.Iterator.{first_from_Range}
use Rattle.dominance.specs.Join.{join, is_least}
use Rattle.dominance.specs.Table.{dominates}
use Rattle.lists.proofs.Laws.Ranges.{first_found_or}
use Rattle.lattice.proofs.least_upper.Goals as goal

pub returns : goal.returns
unfolding join
returns c =
    let g = c.args in
    let n = length g.masks.now in
    let p = is_least n (dominates g.masks.now) g.a g.b in
    c.unwrap_or.ensures
    ∙ first_found_or n p c.find.result
    (first_from_Range _ _ _ c.find.result (λ k. p k ≡ true) (λ k. p k ≡ false) c.find.ensures.ran (λ x q k. search (rules, tests)) (λ x q k. search (rules, tests)))
