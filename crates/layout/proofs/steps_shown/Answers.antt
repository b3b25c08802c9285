use mathlib.Core.Path.{◌∙◌}
use native.Mathlib.Omega.{arith}
use Rattle.session.specs.Record.{record_at}
use Rattle.layout.proofs.Laws.Shown.{steps_shown, steps_hidden}
use Rattle.layout.proofs.steps_shown.Goals as goal

pub returns-then-byte_at-ne-HISTORY : goal.returns-then-byte_at-ne-HISTORY
returns-then-byte_at-ne-HISTORY c =
    let g = c.args in
    let byte = c.byte_at in
    (steps_hidden (record_at g.bytes.now g.number) byte.result byte.ensures c.if-byte_at-ne-HISTORY.true, omega arith)

pub returns : goal.returns
returns c =
    let g = c.args in
    let byte = c.byte_at in
    let rec = record_at g.bytes.now g.number in
    (c.half_in.ensures.0 ∙ steps_shown rec byte.result byte.ensures c.if-byte_at-ne-HISTORY.false, c.half_in.ensures.1)
