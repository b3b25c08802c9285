use mathlib.Core.Path.{sym, ◌∙◌, ap}
use Rattle.scripts.specs.Value.{is_nil_or0}
use Rattle.cores.proofs.Laws.Makes.{moves_jumped, moves_stayed}
use Rattle.cores.proofs.Core.jump.Goals as goal

pub returns-then-is_nil_or_0 : goal.returns-then-is_nil_or_0
returns-then-is_nil_or_0 c =
    moves_jumped c.args.self c.step_to.result c.args.a c.args.b
    (sym (ap is_nil_or0 c.register.ensures) ∙ sym c.is_nil_or_0.ensures ∙ c.if-is_nil_or_0.true) c.requires.1 c.step_to.ensures

pub returns : goal.returns
returns c =
    moves_stayed c.args.self c.pass.result c.args.a c.args.b
    (sym (ap is_nil_or0 c.register.ensures) ∙ sym c.is_nil_or_0.ensures ∙ c.if-is_nil_or_0.false) c.pass.ensures
