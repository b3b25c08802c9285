use Rattle.std.proofs.Common.{◌∙◌, ap, set, true}
use Rattle.tallies.specs.Places.{changes_place}
use Rattle.tallies.proofs.Laws.Numbers.{changed_set}
use Rattle.tallies.proofs.Tallies.set_changed.Goals as goal

pub returns : goal.returns
returns c = changed_set c.self.inside.levels c.self.inside.changed c.self.invariant c.args.level c.requires _ true ∙ ap (λ t. set t (changes_place c.args.level) 1) c.self.view_is
