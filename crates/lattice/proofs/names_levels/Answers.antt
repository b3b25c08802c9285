use Rattle.std.proofs.Common.{rules, tests, refl, sym, ◌∙◌, ◌^◌, ltb, length}
use Rattle.std.proofs.lemmas.Iterator.{YieldsList-from_slice}
use Rattle.std.proofs.lemmas.Iterator.Search.{all_from_yields_List}
use Rattle.lists.proofs.Laws.Range.{and_taken, and_fails_left}
use Rattle.dominance.specs.Order.{reflexive}
use Rattle.dominance.specs.Table.{dominates, names_present}
use Rattle.lists.proofs.Laws.Ranges.{all_items, all_below}
use Rattle.lattice.proofs.names_levels.Goals as goal

pub returns-then-all : goal.returns-then-all
unfolding names_present reflexive
returns-then-all c =
    let masks = c.args.masks.now in
    let n = length masks in
    let named = all_from_yields_List (λ m. ltb m (2 ^ n)) _ _ c.all.result c.all.ensures.ran (YieldsList-from_slice masks (cc)) (λ x b q k. search (rules, tests)) in
    and_taken _ _ _ (sym (named ∙ all_items masks _) ∙ c.if-all.true)
    (all_below n (λ i. dominates masks i i) _ _ _ _ refl c.all-then-all.ensures.ran (λ x b q k. search (rules, tests)))

pub returns-else-all : goal.returns-else-all
unfolding names_present
returns-else-all c =
    let masks = c.args.masks.now in
    let n = length masks in
    let named = all_from_yields_List (λ m. ltb m (2 ^ n)) _ _ c.all.result c.all.ensures.ran (YieldsList-from_slice masks (cc)) (λ x b q k. search (rules, tests)) in
    c.if-all.false ∙ sym (and_fails_left _ _ (sym (named ∙ all_items masks _) ∙ c.if-all.false))
