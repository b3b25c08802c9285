use Rattle.std.proofs.Common.{◌∙◌, ap, get_or}
use Rattle.tallies.specs.Places.{next_place}
use Rattle.tallies.proofs.Laws.Numbers.{next_at}
use Rattle.tallies.proofs.Tallies.next.Goals as goal

pub returns : goal.returns
returns c =
    next_at c.self.inside.levels c.self.inside.changed c.self.invariant c.args.level c.requires _
    ∙ ap (λ t. get_or t (next_place c.args.level) 0) c.self.view_is
