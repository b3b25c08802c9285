use Prim.Native.Nat.{◌<◌}
use mathlib.Core.Path.{◌≡◌, sym, ap}
use native.Mathlib.Omega.{arith}
use lib.ListN.{length}
use Rattle.session.specs.Limits.{max_levels}
use Rattle.lists.specs.Lists.{tab, joined}
use Rattle.session.specs.Record.{record_count}
use Rattle.lists.specs.Placed.{Placed}
use Rattle.lists.proofs.Laws.Placed.{placed-length, placed_then, placed-written, groups_none, groups_more}
use Rattle.text.specs.Text.{total_line, sum_of}
use Rattle.layout.specs.Shown.{Tallied}
use Rattle.text.proofs.Laws.Lengths.{total_length}
use Rattle.layout.proofs.Laws.Shown.{record_line, record_steps, level_line, levels_tallied, above_levels, page_is, sum_none, sum_more, page_room, levels_room}
use Rattle.layout.proofs.Laws.Levels.{tallied_none}
use Rattle.layout.proofs.write_page.Goals as goal

pub loop-number-init : goal.loop-number-init
loop-number-init c =
    let g = c.args in
    (omega arith, groups_none (record_line g.bytes.now) 0 g.page.now (omega arith), sym (sum_none (record_steps g.bytes.now)), omega arith, tallied_none g.bytes.now)

pub put_shown-at-requires : goal.put_shown-at-requires
put_shown-at-requires c =
    let at = c.loop-number in
    let bytes = c.args.bytes.now in
    let here : at.number < record_count bytes = omega arith in
    let n : length at.page ≡ length c.args.page.now = placed-length c.args.page.now at.page _ 0 at.at at.invariant.1 in
    (omega (arith, c.requires.0, at.invariant.1.ends, n, page_room bytes at.number here), here)

pub loop-number-preserved : goal.loop-number-preserved
loop-number-preserved c =
    let g = c.args in
    let at = c.loop-number in
    let put = c.put_shown-at in
    let steps = c.steps_shown-total in
    let bytes = g.bytes.now in (
      omega arith,
      groups_more (record_line bytes) at.number 0 at.at put.result g.page.now at.page put.new.page at.invariant.1 put.ensures,
      omega (arith, at.invariant.2, steps.ensures.0, sum_more at.number (record_steps bytes)),
      omega (arith, at.invariant.3, steps.ensures.1),
      c.tally.ensures,
    )

pub put_total-next-requires : goal.put_total-next-requires
put_total-next-requires c =
    let at = c.loop-number in
    let bytes = c.args.bytes.now in
    let z : at.number ≡ record_count bytes = omega arith in
    let p : Placed (joined (tab (record_count bytes) (record_line bytes))) 0 c.args.page.now at.page at.at = rw z at at.invariant.1 in
    let n : length at.page ≡ length c.args.page.now = placed-length c.args.page.now at.page _ 0 at.at p in
    omega (arith, c.requires.0, p.ends, n, levels_room bytes)

pub put_averages-requires : goal.put_averages-requires
put_averages-requires c =
    let at = c.loop-number in
    let put = c.put_total-next in
    let bytes = c.args.bytes.now in
    let all = record_count bytes in
    let z : at.number ≡ all = omega arith in
    let p : Placed (joined (tab all (record_line bytes))) 0 c.args.page.now at.page at.at = rw z at at.invariant.1 in
    let n : length at.page ≡ length c.args.page.now = placed-length c.args.page.now at.page _ 0 at.at p in
    let t : Tallied bytes all at.steps at.managers = rw z at at.invariant.4 in
    let same = ap (λ ls. length (joined ls)) (levels_tallied bytes at.steps at.managers t) in
    omega (arith, c.requires.0, p.ends, n, put.auto.page, put.ensures.ends, total_length at.total, same, levels_room bytes)

pub returns : goal.returns
returns c =
    let g = c.args in
    let at = c.loop-number in
    let put = c.put_total-next in
    let averages = c.put_averages in
    let bytes = g.bytes.now in
    let all = record_count bytes in
    let z : at.number ≡ all = omega arith in
    let lines = joined (tab all (record_line bytes)) in
    let p : Placed lines 0 g.page.now at.page at.at = rw z at at.invariant.1 in
    let total : at.total ≡ sum_of (tab all (record_steps bytes)) = rw z at at.invariant.2 in
    let t : Tallied bytes all at.steps at.managers = rw z at at.invariant.4 in
    let q : Placed (total_line (sum_of (tab all (record_steps bytes)))) at.at at.page put.new.page put.result = rw total at put.ensures in
    let r : Placed (joined (tab max_levels (level_line bytes))) put.result put.new.page averages.new.page averages.result = rw (levels_tallied bytes at.steps at.managers t) at averages.ensures in
    let above : Placed (above_levels bytes) 0 g.page.now put.new.page put.result = placed_then g.page.now at.page lines 0 at.at p put.new.page (total_line (sum_of (tab all (record_steps bytes)))) put.result q in
    rw (page_is bytes)
    (placed-written _ g.page.now averages.new.page averages.result
    (placed_then g.page.now put.new.page (above_levels bytes) 0 put.result above averages.new.page (joined (tab max_levels (level_line bytes))) averages.result r))
