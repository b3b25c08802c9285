use mathlib.Core.Path.{sym, ◌∙◌}
use native.Mathlib.Omega.{arith}
use borrow.Author.Tests.{not-true}
use lib.ListN.{length}
use Rattle.dominance.specs.Table.{dominates}
use Rattle.dominance.proofs.Laws.Order.{transitive_fails, transitive-every}
use Rattle.lattice.proofs.carries_through.Goals as goal

pub returns-after-levels : goal.returns-after-levels
returns-after-levels c =
    let masks = c.args.masks.now in
    c.levels.invariant.1
    ∙ sym (transitive-every (length masks) (dominates masks) (λ x h. c.levels.invariant.2 x (omega arith)))

pub returns-then-is_gap : goal.returns-then-is_gap
returns-then-is_gap c =
    let masks = c.args.masks.now in
    sym (transitive_fails (length masks) (dominates masks)
    c.levels.i
    c.loop-j.j
    c.loop-k.k
    c.levels-test.true
    c.loop-j-test.true
    c.loop-k-test.true
    (not-true _ (sym c.is_gap.ensures ∙ c.if-is_gap.true)))
