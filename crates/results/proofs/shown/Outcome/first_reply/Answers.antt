use mathlib.Core.Path.{◌∙◌}
use Rattle.results.proofs.Laws.Shown.{reply_none, reply_first}
use Rattle.results.proofs.shown.Outcome.first_reply.Goals as goal

pub returns-then-count-eq0 : goal.returns-then-count-eq0
returns-then-count-eq0 c = reply_none c.args.self.now.histories.now c.args.level c.args.count c.if-count-eq0.true

pub returns : goal.returns
returns c =
    let g = c.args in
    (rw c.place_of-at.ensures at c.value_of.ensures) ∙ reply_first g.self.now.histories.now g.level g.count c.if-count-eq0.false
