use Rattle.std.proofs.Common.{rules, refl, ◌+◌}
use lib.Dec.{eqb}
use native.Mathlib.Omega.{arith}
use borrow.Author.Tests.{tests}
use Rattle.session.specs.Record.{record_at, number_of}
use Rattle.session_records.proofs.Laws.Chains.{all_ran}
use Rattle.checks.proofs.levels.is_numbered.Goals as goal

pub returns : goal.returns
returns c = all_ran _ _ _ c.args.count (λ i. eqb (number_of (record_at c.args.session.now (c.args.first + i))) i) refl c.all.ensures.ran (λ x b q k. search (rules, tests, arith))
