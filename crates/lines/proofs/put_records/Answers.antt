use Prim.Native.Nat.{◌<◌}
use mathlib.Core.Path.{◌≡◌, ◌∙◌, ap}
use native.Mathlib.Omega.{arith}
use lib.ListN.{length}
use Rattle.lists.specs.Lists.{tab, joined}
use Rattle.session.specs.Record.{record_count}
use Rattle.session.proofs.Laws.Record.{records_length, record_is}
use Rattle.lists.specs.Placed.{Placed}
use Rattle.lists.proofs.Laws.Placed.{placed-written, groups_none, groups_more}
use Rattle.lines.proofs.Laws.Lines.{line_at, line_length, lines_are}
use Rattle.lines.proofs.put_records.Goals as goal

pub loop-record-init : goal.loop-record-init
loop-record-init c =
    let g = c.args in
    (omega arith, omega arith, groups_none (line_at g.bytes.now) 0 g.text.now (omega arith))

pub put_record-at-requires : goal.put_record-at-requires
put_record-at-requires c =
    let many = ap length c.records-record-items.ensures ∙ records_length c.args.bytes.now in
    omega (arith, many, c.requires, c.loop-record.invariant.1)

pub loop-record-preserved : goal.loop-record-preserved
loop-record-preserved c =
    let g = c.args in
    let at = c.loop-record in
    let put = c.put_record-at in
    let many = ap length c.records-record-items.ensures ∙ records_length g.bytes.now in
    let here : at.record-index < record_count g.bytes.now = omega (arith, many) in
    let placed = rw (c.records-record-items.ensures, record_is g.bytes.now at.record-index here) at put.ensures in (
      omega arith,
      omega (arith, at.invariant.1, placed.ends, line_length g.bytes.now at.record-index here),
      groups_more (line_at g.bytes.now) at.record-index 0 at.at put.result g.text.now at.text put.new.text at.invariant.2 placed,
    )

pub returns : goal.returns
returns c =
    let g = c.args in
    let at = c.loop-record in
    let many = ap length c.records-record-items.ensures ∙ records_length g.bytes.now in
    let z : at.record-index ≡ record_count g.bytes.now = omega (arith, many) in
    let p : Placed (joined (tab (record_count g.bytes.now) (line_at g.bytes.now))) 0 g.text.now at.text at.at = rw z at at.invariant.2 in
    rw (lines_are g.bytes.now) (placed-written _ g.text.now at.text at.at p)
