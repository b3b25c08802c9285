-- `holds_back`: a level that has a manager has words for its first one.
use Rattle.std.proofs.Common.{sym, ◌∙◌, length}
use Rattle.permits.proofs.Laws.Permits.{first_there, first_shallow}
use Rattle.permits.proofs.holds_back.Goals as goal

pub holds_back-requires : goal.holds_back-requires
holds_back-requires c =
    let g = c.args in
    let e = sym c.has_manager.ensures ∙ c.if-has_manager.true in
    rw c.ended.ensures (
      first_there g.masks.now g.tallies.now g.queue.now c.requires.askable g.j c.requires.present e,
      first_shallow g.masks.now g.tallies.now g.queue.now c.requires.askable g.j c.requires.present e,
    )

pub returns-then-dominates : goal.returns-then-dominates
returns-then-dominates c =
    let g = c.args in
    rw (sym c.has_manager.ensures ∙ c.if-has_manager.true, sym c.dominates.ensures ∙ c.if-dominates.true)
    (sym (rw (sym c.ended.ensures) (c.holds_back.ensures (length g.masks.now))))
