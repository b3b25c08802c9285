use Rattle.std.proofs.Common.{rules, refl}
use Rattle.lists.specs.Lists.{tab}
use Rattle.session.specs.Record.{record_at, zero_at, from}
use Rattle.session_records.specs.Words.{joined_from, kept, Masks}
use Rattle.session_records.proofs.Laws.Chains.{all_ran}
use Rattle.checks.proofs.levels.is_padded.Goals as goal

pub returns : goal.returns
unfolding joined_from kept tab
returns c =
    let chosen : Masks (from 3) 18446744073692774400 18446744073709551615 = record { first_is = refl; second_is = refl } in
    all_ran _ _ _ c.args.count (λ i. zero_at (from 3) (record_at c.args.session.now i)) refl c.all.ensures.ran (λ x b q k. search (rules, chosen))
