use Rattle.std.proofs.Common.{◌∙◌, ap, set}
use Rattle.tallies.specs.Places.{busy_place, number_of}
use Rattle.tallies.proofs.Laws.Numbers.{busy_set}
use Rattle.tallies.proofs.Tallies.set_runs.Goals as goal

pub returns : goal.returns
returns c = busy_set c.self.inside.levels c.self.inside.changed c.self.invariant c.args.level c.requires _ c.args.runs ∙ ap (λ t. set t (busy_place c.args.level) (number_of c.args.runs)) c.self.view_is
