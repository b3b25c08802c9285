use mathlib.Core.Path.{sym, ◌∙◌}
use Rattle.session.specs.Questions.{unused_bytes}
use Rattle.methods.specs.Methods.{is_fit}
use Rattle.methods.proofs.is_fit.Goals as goal

pub returns-then-operands_fit : goal.returns-then-operands_fit
unfolding is_fit
returns-then-operands_fit c =
    let fits = sym c.operands_fit.ensures ∙ c.if-operands_fit.true in
    rw (← c.step_in-step.ensures, fits) (c.are_unused.ensures (unused_bytes c.step_in-step.result) c.unused_masks-first.ensures)

pub returns-else-operands_fit : goal.returns-else-operands_fit
unfolding is_fit
returns-else-operands_fit c =
    let unfit = sym c.operands_fit.ensures ∙ c.if-operands_fit.false in
    rw (← c.step_in-step.ensures, unfit) c.if-operands_fit.false
