use Rattle.std.proofs.Common.{◌∙◌, ap, set}
use Rattle.tallies.specs.Places.{waiting_place}
use Rattle.tallies.proofs.Laws.Numbers.{waiting_set}
use Rattle.tallies.proofs.Tallies.set_waiting.Goals as goal

pub returns : goal.returns
returns c =
    waiting_set c.self.inside.levels c.self.inside.changed c.self.invariant c.args.level c.requires _ c.args.waiting
    ∙ ap (λ t. set t (waiting_place c.args.level) c.args.waiting) c.self.view_is
