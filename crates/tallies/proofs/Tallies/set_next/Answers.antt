use Rattle.std.proofs.Common.{◌∙◌, ap, set}
use Rattle.tallies.specs.Places.{next_place}
use Rattle.tallies.proofs.Laws.Numbers.{next_set}
use Rattle.tallies.proofs.Tallies.set_next.Goals as goal

pub returns : goal.returns
returns c = next_set c.self.inside.levels c.self.inside.changed c.self.invariant c.args.level c.requires _ c.args.next ∙ ap (λ t. set t (next_place c.args.level) c.args.next) c.self.view_is
