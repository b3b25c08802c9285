use Rattle.std.proofs.Common.{◌∙◌, ap, eqb, get_or}
use Rattle.tallies.specs.Places.{changes_place}
use Rattle.tallies.proofs.Laws.Numbers.{changed_at, clear_flag}
use Rattle.tallies.proofs.Tallies.is_level_unchanged.Goals as goal

pub returns : goal.returns
returns c =
    clear_flag _
    ∙ ap (λ n. eqb n 0) (changed_at c.self.inside.levels c.self.inside.changed c.self.invariant c.args.level c.requires _ ∙ ap (λ t. get_or t (changes_place c.args.level) 0) c.self.view_is)
