-- A step stands so far behind the first as its number says.
use mathlib.Core.Path.{◌∙◌}
use native.Mathlib.Omega.{arith}
use Rattle.contents.proofs.Laws.Methods.{method_ends, step_there}
use Rattle.contents.proofs.Session.step_in_method.Goals as goal

pub overflow_add-start : goal.overflow_add-start
overflow_add-start c =
    let (o, (m, x)) = c.requires (omega arith) in
    omega (arith, method_ends c.args.self.now.bytes.now c.args.self.now.accepted o m c.args.start c.args.count x)

pub step_in-requires : goal.step_in-requires
step_in-requires c =
    let (o, (m, x)) = c.requires (omega arith) in
    omega (arith, method_ends c.args.self.now.bytes.now c.args.self.now.accepted o m c.args.start c.args.count x)

pub returns-then-j-count : goal.returns-then-j-count
returns-then-j-count c = (
  λ o m x. c.step_in.ensures ∙ step_there c.args.self.now.bytes.now c.args.self.now.accepted o m c.args.start c.args.count x c.args.j (omega arith),
  λ z. absurd (omega (arith, z)),
)
