use Rattle.std.proofs.Common.{◌∙◌, ap, ltb, get_or}
use Rattle.tallies.specs.Places.{busy_place}
use Rattle.tallies.proofs.Laws.Numbers.{busy_at, busy_flag}
use Rattle.tallies.proofs.Tallies.is_busy.Goals as goal

pub returns : goal.returns
returns c =
    busy_flag _
    ∙ ap (λ n. ltb 0 n) (busy_at c.self.inside.levels c.self.inside.changed c.self.invariant c.args.level c.requires _ ∙ ap (λ t. get_or t (busy_place c.args.level) 0) c.self.view_is)
