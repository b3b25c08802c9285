use mathlib.Core.Path.{sym, ◌∙◌}
use native.Mathlib.Omega.{arith}
use Rattle.dominance.specs.Table.{dominates}
use Rattle.histories.specs.Histories.{ended_in}
use Rattle.results.proofs.Laws.Shown.{reply_shown_lem, reply_hidden}
use Rattle.results.proofs.shown.Outcome.write_reply.Goals as goal

pub returns-then-dominates : goal.returns-then-dominates
returns-then-dominates c =
    let g = c.args in
    let o = g.self.now in
    reply_shown_lem (dominates o.session.masks.now) (ended_in o.histories.now o.counts.now) o.clearance g.root_level 0 c.put.result
    g.res.now c.put.new.res c.reply_record-made.result c.first_reply-reply.result
    (sym c.dominates.ensures ∙ c.if-dominates.true) c.reply_record-made.ensures (rw c.ended.ensures at c.first_reply-reply.ensures) c.put.ensures

pub returns-else-dominates : goal.returns-else-dominates
returns-else-dominates c =
    let g = c.args in
    let o = g.self.now in
    reply_hidden (dominates o.session.masks.now) (ended_in o.histories.now o.counts.now) o.clearance g.root_level 0 0
    g.res.now g.res.now (sym c.dominates.ensures ∙ c.if-dominates.false) (omega (arith, c.requires.1))
