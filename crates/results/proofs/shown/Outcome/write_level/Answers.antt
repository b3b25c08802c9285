use mathlib.Core.Path.{sym, ◌∙◌}
use native.Mathlib.Omega.{arith}
use Rattle.dominance.specs.Table.{dominates}
use Rattle.histories.specs.Histories.{ended_in}
use Rattle.results.proofs.Laws.Shown.{level_shown, level_hidden}
use Rattle.results.proofs.shown.Outcome.write_level.Goals as goal

pub returns-then-dominates : goal.returns-then-dominates
returns-then-dominates c =
    let g = c.args in
    let o = g.self.now in
    let w = c.write_histories in
    level_shown (dominates o.session.masks.now) (ended_in o.histories.now o.counts.now) o.clearance g.level 0 w.result
    g.res.now w.new.res (sym c.dominates.ensures ∙ c.if-dominates.true) (rw c.ended.ensures at w.ensures)

pub returns-else-dominates : goal.returns-else-dominates
returns-else-dominates c =
    let g = c.args in
    let o = g.self.now in
    level_hidden (dominates o.session.masks.now) (ended_in o.histories.now o.counts.now) o.clearance g.level 0 0
    g.res.now g.res.now (sym c.dominates.ensures ∙ c.if-dominates.false) (omega (arith, c.requires.1))
