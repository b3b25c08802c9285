use mathlib.Core.Path.{◌≡◌, sym, ◌∙◌, ap}
use native.Mathlib.Omega.{arith}
use lib.ListN.{length}
use Rattle.session.specs.Record.{record_at}
use Rattle.model.specs.Limits.{line_bytes}
use Rattle.lists.proofs.Laws.Placed.{placed_none}
use Rattle.layout.specs.Shown.{shown_line}
use Rattle.text.proofs.Laws.Lengths.{line_length}
use Rattle.layout.proofs.Laws.Shown.{line_shown, line_hidden}
use Rattle.layout.proofs.put_shown.Goals as goal

pub returns-then-byte_at-ne-HISTORY : goal.returns-then-byte_at-ne-HISTORY
returns-then-byte_at-ne-HISTORY c =
    let g = c.args in
    let byte = c.byte_at in
    rw (sym (line_hidden (record_at g.bytes.now g.number) byte.result byte.ensures c.if-byte_at-ne-HISTORY.true))
    (placed_none g.at g.page.now (omega (arith, c.requires.0)))

pub put_line-requires : goal.put_line-requires
put_line-requires c =
    let byte = c.byte_at in
    let rec = record_at c.args.bytes.now c.args.number in
    let n : length (shown_line rec) ≡ line_bytes = ap length (sym (line_shown rec byte.result byte.ensures c.if-byte_at-ne-HISTORY.false)) ∙ line_length rec in
    (omega (arith, c.requires.0, n), c.requires.1)

pub returns : goal.returns
returns c =
    let g = c.args in
    let byte = c.byte_at in
    rw (sym (line_shown (record_at g.bytes.now g.number) byte.result byte.ensures c.if-byte_at-ne-HISTORY.false)) c.put_line.ensures
