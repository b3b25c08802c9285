use Rattle.std.proofs.Common.{rules, refl, ◌+◌}
use Rattle.session.specs.Record.{record_at}
use Rattle.session.specs.Questions.{object_valid}
use Rattle.session_records.proofs.Laws.Chains.{all_ran}
use Rattle.checks.proofs.objects.are_valid.Goals as goal

pub returns : goal.returns
returns c = all_ran _ _ _ c.args.count (λ i. object_valid c.args.levels (record_at c.args.session.now (c.args.first + i))) refl c.all.ensures.ran (λ x b q k. search rules)
