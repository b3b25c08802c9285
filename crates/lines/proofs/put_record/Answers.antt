use mathlib.Core.Path.{◌≡◌}
use mathlib.Core.List.{[], ◌∷◌}
use native.Mathlib.Omega.{arith}
use lib.ListN.{length}
use Rattle.lists.specs.Lists.{tab, joined}
use Rattle.lists.specs.Placed.{Placed}
use Rattle.lists.proofs.Laws.Placed.{placed_then, groups_none, groups_more}
use Rattle.text.specs.Lines.{line_feed}
use Rattle.lines.proofs.Laws.Lines.{hex_at, line_is}
use Rattle.lines.proofs.put_record.Goals as goal

pub loop-byte-init : goal.loop-byte-init
loop-byte-init c =
    let g = c.args in
    (omega arith, omega arith, groups_none (hex_at g.record.now) g.at g.text.now (omega arith))

pub loop-byte-preserved : goal.loop-byte-preserved
loop-byte-preserved c =
    let g = c.args in
    let at = c.loop-byte in
    let put = c.put_byte-next in (
      omega arith,
      omega (arith, at.invariant.1, put.ensures.ends),
      groups_more (hex_at g.record.now) at.byte-index g.at at.next put.result g.text.now at.text put.new.text at.invariant.2 put.ensures,
    )

pub returns : goal.returns
returns c =
    let g = c.args in
    let at = c.loop-byte in
    let put = c.put in
    let long : length g.record.now ≡ 16 = omega arith in
    let z : at.byte-index ≡ 16 = omega arith in
    let p : Placed (joined (tab 16 (hex_at g.record.now))) g.at g.text.now at.text at.next = rw z at at.invariant.2 in
    rw (line_is g.record.now long)
    (placed_then g.text.now at.text (joined (tab 16 (hex_at g.record.now))) g.at at.next p put.new.text (line_feed ∷ []) put.result put.ensures)
