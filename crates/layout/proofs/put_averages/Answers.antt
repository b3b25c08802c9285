use Prim.Native.Nat.{◌<◌}
use mathlib.Core.Path.{◌≡◌}
use native.Mathlib.Omega.{arith}
use lib.ListN.{length}
use Rattle.session.specs.Limits.{max_levels}
use Rattle.lists.proofs.Laws.Placed.{placed-length, groups_none, groups_more}
use Rattle.layout.specs.Shown.{average_in}
use Rattle.layout.proofs.Laws.Shown.{groups_room}
use Rattle.layout.proofs.put_averages.Goals as goal

pub loop-level-init : goal.loop-level-init
loop-level-init c =
    let g = c.args in
    (omega arith, groups_none (average_in g.steps.now g.managers.now) g.at g.page.now (omega (arith, c.requires)))

pub put_shown_average-next-requires : goal.put_shown_average-next-requires
put_shown_average-next-requires c =
    let g = c.args in
    let at = c.loop-level in
    let here : at.level < max_levels = omega arith in
    let n : length at.page ≡ length g.page.now = placed-length g.page.now at.page _ g.at at.next at.invariant.1 in
    omega (arith, c.requires, at.invariant.1.ends, n, groups_room max_levels at.level (average_in g.steps.now g.managers.now) here)

pub loop-level-preserved : goal.loop-level-preserved
loop-level-preserved c =
    let g = c.args in
    let at = c.loop-level in
    let put = c.put_shown_average-next in
    (omega arith, groups_more (average_in g.steps.now g.managers.now) at.level g.at at.next put.result g.page.now at.page put.new.page at.invariant.1 put.ensures)
