use mathlib.Core.Path.{refl, ◌∙◌}
use Rattle.session.specs.Record.{between}
use Rattle.lists.specs.Lists.{tab}
use Rattle.session_records.specs.Words.{joined_from, kept}
use borrow.Author.Tests.{ne_eqb}
use Rattle.checks.proofs.root.is_parameter_valid.Goals as goal

pub returns-else-byte_at-eq-NUMBER_TAG : goal.returns-else-byte_at-eq-NUMBER_TAG
unfolding joined_from kept tab
returns-else-byte_at-eq-NUMBER_TAG c =
    simp (ne_eqb _ _ (λ e. c.if-byte_at-eq-NUMBER_TAG.false (c.byte_at.ensures ∙ e))) (c.are_unused.ensures (between 4 8) (record { first_is = refl; second_is = refl }))
