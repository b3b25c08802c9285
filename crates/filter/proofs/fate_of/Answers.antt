-- The definition's case, by the answers of `lattice`.
use mathlib.Core.Path.{◌≡◌, sym, ◌∙◌}
use mathlib.Core.Bool.{true, false}
use lib.ListN.{length}
use Rattle.dominance.specs.Table.{dominates}
use Rattle.dominance.proofs.Laws.Table.{partial_order, upper_present}
use Rattle.fates.proofs.Laws.Fate.{fate_called, fate_blocked, fate_discarded, fate_forked, fate_own}
use Rattle.filter.proofs.fate_of.Goals as goal

pub returns-then-dominates : goal.returns-then-dominates
returns-then-dominates c =
    let g = c.args in
    let masks = g.masks.now in
    fate_called (length masks) (dominates masks) g.manager g.sender g.receiver (sym c.dominates.ensures ∙ c.if-dominates.true)

pub returns-then-not-dominates : goal.returns-then-not-dominates
returns-then-not-dominates c =
    let g = c.args in
    let masks = g.masks.now in
    fate_blocked (length masks) (dominates masks) g.manager g.sender g.receiver
    (sym c.dominates.ensures ∙ c.if-dominates.false)
    (sym c.dominates-2.ensures ∙ c.if-not-dominates.true)

pub returns-then-manager-sender : goal.returns-then-manager-sender
returns-then-manager-sender c =
    let g = c.args in
    let masks = g.masks.now in
    let d : dominates masks g.sender g.receiver ≡ false = sym c.dominates.ensures ∙ c.if-dominates.false in
    let u : dominates masks g.receiver g.sender ≡ true = sym c.dominates-2.ensures ∙ c.if-not-dominates.false in
    rw c.if-manager-sender.true (sym (fate_own (length masks) (dominates masks) (partial_order masks c.requires) g.sender g.receiver (upper_present masks c.requires g.receiver g.sender u) d u))

pub returns-then-bound-manager : goal.returns-then-bound-manager
returns-then-bound-manager c =
    let g = c.args in
    let masks = g.masks.now in
    fate_discarded (length masks) (dominates masks) g.manager g.sender g.receiver
    (sym c.dominates.ensures ∙ c.if-dominates.false)
    (sym c.dominates-2.ensures ∙ c.if-not-dominates.false)
    c.join-bound.result
    c.join-bound.ensures
    c.if-bound-manager.true

pub returns-else-bound-manager : goal.returns-else-bound-manager
returns-else-bound-manager c =
    let g = c.args in
    let masks = g.masks.now in
    fate_forked (length masks) (dominates masks) g.manager g.sender g.receiver
    (sym c.dominates.ensures ∙ c.if-dominates.false)
    (sym c.dominates-2.ensures ∙ c.if-not-dominates.false)
    c.join-bound.result
    c.join-bound.ensures
    c.if-bound-manager.false
