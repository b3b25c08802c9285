use Rattle.std.proofs.Common.{rules, tests, refl, sym, ◌∙◌, length, eq-eqb}
use Rattle.dominance.specs.Meet.{is_lowest}
use Rattle.dominance.specs.Table.{dominates}
use Rattle.lists.proofs.Laws.Ranges.{any_below}
use Rattle.lattice.proofs.Laws.Tables.{met_where_any, met_of_none}
use Rattle.lattice.proofs.has_meets.Goals as goal

pub returns-then-n-eq0 : goal.returns-then-n-eq0
returns-then-n-eq0 c = eq-eqb _ _ c.if-n-eq0.true ∙ sym (met_of_none c.args.masks.now c.requires.0 c.requires.1 c.if-n-eq0.true)

pub returns-else-n-eq0 : goal.returns-else-n-eq0
returns-else-n-eq0 c =
    let masks = c.args.masks.now in
    any_below (length masks) (λ l. is_lowest (length masks) (dominates masks) l) _ _ _ _ refl c.any.ensures.ran (λ x b q k. search (rules, tests))
    ∙ met_where_any masks c.requires.0 c.requires.1 c.if-n-eq0.false
