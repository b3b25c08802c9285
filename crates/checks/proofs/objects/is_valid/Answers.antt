use mathlib.Core.Path.{refl, ◌≡◌}
use native.Mathlib.Omega.{arith}
use Rattle.std.proofs.Common.{rules}
use Rattle.std.proofs.lemmas.Grind.{common_steps}
use Rattle.lists.specs.Range.{all}
use Rattle.session.specs.Record.{record_at}
use Rattle.session.specs.Questions.{field_valid, object_valid}
use Rattle.session_records.proofs.Laws.Chains.{all_ran}
use Rattle.checks.proofs.objects.is_valid.Goals as goal

pub returns-then-byte_at-lt-FIELD_MASKS : goal.returns-then-byte_at-lt-FIELD_MASKS
unfolding object_valid
returns-then-byte_at-lt-FIELD_MASKS c =
    let rec = record_at c.args.session.now c.args.r in
    let right : c.all.result ≡ all 3 (field_valid rec) = all_ran _ _ _ 3 (field_valid rec) refl c.all.ensures.ran (λ x b q k. search rules) in
    grind (arith, common_steps)
