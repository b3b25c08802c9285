-- The two words, masked.
use native.Mathlib.Omega.{arith}
use Rattle.session.specs.Record.{record_at}
use Rattle.session_records.proofs.Laws.Words.{record_small, first_says, second_says}
use Rattle.session_records.proofs.record.are_unused.Goals as goal

pub returns-then-long_at-first-eq0 : goal.returns-then-long_at-first-eq0
returns-then-long_at-first-eq0 c =
    rw c.long_at-then-long_at-first-eq0.ensures
    (second_says (record_at c.args.session.now c.args.r) c.args.first c.args.second
    (record_small c.args.session.now c.args.r (λ i. omega (arith, c.type_inv.session i)))
    (rw c.long_at.ensures at c.if-long_at-first-eq0.true))

pub returns-else-long_at-first-eq0 : goal.returns-else-long_at-first-eq0
returns-else-long_at-first-eq0 c =
    rw c.long_at.ensures
    (first_says (record_at c.args.session.now c.args.r) c.args.first c.args.second
    (record_small c.args.session.now c.args.r (λ i. omega (arith, c.type_inv.session i)))
    (rw c.long_at.ensures at c.if-long_at-first-eq0.false))
