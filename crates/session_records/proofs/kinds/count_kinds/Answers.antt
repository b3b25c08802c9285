use Prim.Native.Nat.{◌-◌}
use mathlib.Core.Path.{◌≡◌, ◌∙◌}
use native.Mathlib.Omega.{arith}
use Rattle.session.specs.Parts.{level_count, object_count, step_count}
use Rattle.session.proofs.Laws.Parts.{below_2, below_3, below_4}
use Rattle.session_records.proofs.kinds.count_kinds.Goals as goal

pub overflow_sub-result : goal.overflow_sub-result
overflow_sub-result c =
    let t = c.args.session.now in
    omega (arith, below_2 t c.requires, below_3 t c.requires)

pub overflow_sub-result-2 : goal.overflow_sub-result-2
overflow_sub-result-2 c =
    let t = c.args.session.now in
    omega (arith, below_3 t c.requires, below_4 t c.requires)

pub returns : goal.returns
returns c =
    let t = c.args.session.now in
    let a = c.count_below-objects.result in
    let b = c.count_below-steps.result in
    let d = c.count_below-root.result in
    let levels : a ≡ level_count t = c.count_below-objects.ensures ∙ below_2 t c.requires in
    let objects : b - a ≡ object_count t = omega (arith, below_2 t c.requires, below_3 t c.requires) in
    let steps : d - b ≡ step_count t = omega (arith, below_3 t c.requires, below_4 t c.requires) in
    record { levels_are = levels; objects_are = objects; steps_are = steps }
