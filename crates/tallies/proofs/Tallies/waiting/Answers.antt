use Rattle.std.proofs.Common.{◌∙◌, ap, get_or}
use Rattle.tallies.specs.Places.{waiting_place}
use Rattle.tallies.proofs.Laws.Numbers.{waiting_at}
use Rattle.tallies.proofs.Tallies.waiting.Goals as goal

pub returns : goal.returns
returns c =
    waiting_at c.self.inside.levels c.self.inside.changed c.self.invariant c.args.level c.requires _
    ∙ ap (λ t. get_or t (waiting_place c.args.level) 0) c.self.view_is
