use Rattle.std.proofs.Common.{◌∙◌, ap, set}
use Rattle.tallies.proofs.Laws.Numbers.{ended_set}
use Rattle.tallies.proofs.Tallies.set_ended.Goals as goal

pub returns : goal.returns
returns c = ended_set c.self.inside.levels c.self.inside.changed c.self.invariant c.args.level c.requires _ c.args.ended ∙ ap (λ t. set t c.args.level c.args.ended) c.self.view_is
