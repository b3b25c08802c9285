-- Of two comparable levels the upper one is the join.
use mathlib.Core.Path.{◌≡◌, sym, ◌∙◌}
use mathlib.Core.Bool.{true}
use lib.ListN.{length}
use Rattle.dominance.specs.Table.{dominates}
use Rattle.dominance.proofs.Laws.Join.{join_left, join_right}
use Rattle.dominance.proofs.Laws.Table.{partial_order, upper_present}
use Rattle.lattice.proofs.join.Goals as goal

pub returns-then-dominates : goal.returns-then-dominates
returns-then-dominates c =
    let masks = c.args.masks.now in
    let e : dominates masks c.args.a c.args.b ≡ true = sym c.dominates.ensures ∙ c.if-dominates.true in
    sym (join_left (length masks) (dominates masks) (partial_order masks c.requires)
    c.args.a c.args.b (upper_present masks c.requires c.args.a c.args.b e) e)

pub returns-then-dominates-2 : goal.returns-then-dominates-2
returns-then-dominates-2 c =
    let masks = c.args.masks.now in
    let e : dominates masks c.args.b c.args.a ≡ true = sym c.dominates-2.ensures ∙ c.if-dominates-2.true in
    sym (join_right (length masks) (dominates masks) (partial_order masks c.requires)
    c.args.a c.args.b (upper_present masks c.requires c.args.b c.args.a e) e)
