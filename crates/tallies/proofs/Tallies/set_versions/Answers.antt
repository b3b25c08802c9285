use Rattle.std.proofs.Common.{◌∙◌, ap, set}
use Rattle.tallies.specs.Places.{versions_place}
use Rattle.tallies.proofs.Laws.Numbers.{versions_set}
use Rattle.tallies.proofs.Tallies.set_versions.Goals as goal

pub returns : goal.returns
returns c =
    versions_set c.self.inside.levels c.self.inside.changed c.self.invariant c.args.level c.requires _ c.args.versions
    ∙ ap (λ t. set t (versions_place c.args.level) c.args.versions) c.self.view_is
