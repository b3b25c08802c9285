-- Questions 1 to 3, then those of the levels and the contents.
use mathlib.Core.Path.{sym, ◌∙◌}
use Rattle.session.proofs.Laws.Parts.{question2_falls}
use Rattle.checks.proofs.Laws.Checked.{not_whole, not_kinds, not_numbered, checked}
use Rattle.checks.proofs.check_into.Goals as goal

pub returns-then-not-is_whole : goal.returns-then-not-is_whole
returns-then-not-is_whole c =
    not_whole _ _ (sym c.is_whole.ensures ∙ c.if-not-is_whole.true) _ c.untabled.ensures

pub returns-then-not-kinds_rise : goal.returns-then-not-kinds_rise
returns-then-not-kinds_rise c =
    not_kinds _ _ (sym c.is_whole.ensures ∙ c.if-not-is_whole.false) (question2_falls _ (sym c.kinds_rise.ensures ∙ c.if-not-kinds_rise.true)) _ c.untabled-then-not-kinds_rise.ensures

pub returns-then-not-are_present : goal.returns-then-not-are_present
returns-then-not-are_present c =
    not_kinds _ _ (sym c.is_whole.ensures ∙ c.if-not-is_whole.false) (sym c.are_present.ensures ∙ c.if-not-are_present.true) _ c.untabled-then-not-are_present.ensures

pub returns-then-not-are_numbered : goal.returns-then-not-are_numbered
returns-then-not-are_numbered c =
    not_numbered _ _ (sym c.is_whole.ensures ∙ c.if-not-is_whole.false) (sym c.are_present.ensures ∙ c.if-not-are_present.false) (sym c.are_numbered.ensures ∙ c.if-not-are_numbered.true) _ c.untabled-then-not-are_numbered.ensures

pub returns-in-Ok : goal.returns-in-Ok
returns-in-Ok c =
    let whole = checked _ (sym c.is_whole.ensures ∙ c.if-not-is_whole.false) (sym c.are_present.ensures ∙ c.if-not-are_present.false) (sym c.are_numbered.ensures ∙ c.if-not-are_numbered.false) _ _ _ _ c.check_levels.ensures.0 c.count_kinds-layout.ensures.levels_are c.check_levels.ensures.1 in
    rw c.in-Ok.is at whole

pub returns-in-Err : goal.returns-in-Err
returns-in-Err c =
    let whole = checked _ (sym c.is_whole.ensures ∙ c.if-not-is_whole.false) (sym c.are_present.ensures ∙ c.if-not-are_present.false) (sym c.are_numbered.ensures ∙ c.if-not-are_numbered.false) _ _ _ _ c.check_levels.ensures.0 c.count_kinds-layout.ensures.levels_are c.check_levels.ensures.1 in
    rw c.in-Err.is at whole
