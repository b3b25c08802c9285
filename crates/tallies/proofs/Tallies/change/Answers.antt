use Rattle.std.proofs.Common.{◌∙◌, ap, set}
use Rattle.tallies.specs.Places.{all_changes_place}
use Rattle.tallies.proofs.Laws.Numbers.{all_set}
use Rattle.tallies.proofs.Tallies.change.Goals as goal

pub returns : goal.returns
returns c =
    all_set c.self.inside.levels c.self.inside.changed c.self.invariant
    ∙ ap (λ t. set t all_changes_place 1) (c.self.view_is ∙ c.set_changed.ensures)
