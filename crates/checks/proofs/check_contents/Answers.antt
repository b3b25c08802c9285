-- Questions 6 to 8, each put where the one before says yes.
use mathlib.Core.Path.{sym, ◌∙◌}
use native.Mathlib.Omega.{arith}
use Rattle.session.specs.Questions.{first_no}
use Rattle.checks.proofs.Laws.Counted.{question6_is, question7_is, question8_is, records_fit}
use Rattle.session.proofs.Laws.Numbering.{few_levels}
use Rattle.checks.proofs.check_contents.Goals as goal

pub overflow_add-first : goal.overflow_add-first
overflow_add-first c = omega (arith, records_fit c.requires.session_value c.requires.counted)

pub overflow_add-root : goal.overflow_add-root
overflow_add-root c = omega (arith, records_fit c.requires.session_value c.requires.counted)

pub are_valid-requires : goal.are_valid-requires
are_valid-requires c = omega (arith, records_fit c.requires.session_value c.requires.counted)

pub returns-then-not-are_valid : goal.returns-then-not-are_valid
unfolding first_no
returns-then-not-are_valid c =
    rw (sym (question6_is c.requires.session_value c.requires.counted) ∙ sym c.are_valid.ensures ∙ c.if-not-are_valid.true)

pub are_valid-requires-2 : goal.are_valid-requires-2
are_valid-requires-2 c =
    omega (arith, records_fit c.requires.session_value c.requires.counted, c.requires.counted.levels_are, few_levels c.args.session.now c.requires.session_value_2)

pub returns-then-not-are_valid-2 : goal.returns-then-not-are_valid-2
unfolding first_no
returns-then-not-are_valid-2 c =
    rw (
      sym (question6_is c.requires.session_value c.requires.counted) ∙ sym c.are_valid.ensures ∙ c.if-not-are_valid.false,
      sym (question7_is c.requires.session_value c.requires.counted) ∙ sym c.are_valid-2.ensures ∙ c.if-not-are_valid-2.true,
    )

pub is_valid-requires : goal.is_valid-requires
is_valid-requires c = omega (arith, records_fit c.requires.session_value c.requires.counted)

pub returns-then-is_valid : goal.returns-then-is_valid
unfolding first_no
returns-then-is_valid c =
    rw (
      sym (question6_is c.requires.session_value c.requires.counted) ∙ sym c.are_valid.ensures ∙ c.if-not-are_valid.false,
      sym (question7_is c.requires.session_value c.requires.counted) ∙ sym c.are_valid-2.ensures ∙ c.if-not-are_valid-2.false,
      sym (question8_is c.requires.session_value c.requires.counted) ∙ sym c.is_valid.ensures ∙ c.if-is_valid.true,
    )

pub returns-else-is_valid : goal.returns-else-is_valid
unfolding first_no
returns-else-is_valid c =
    rw (
      sym (question6_is c.requires.session_value c.requires.counted) ∙ sym c.are_valid.ensures ∙ c.if-not-are_valid.false,
      sym (question7_is c.requires.session_value c.requires.counted) ∙ sym c.are_valid-2.ensures ∙ c.if-not-are_valid-2.false,
      sym (question8_is c.requires.session_value c.requires.counted) ∙ sym c.is_valid.ensures ∙ c.if-is_valid.false,
    )
