use mathlib.Core.Path.{◌≡◌, sym, ◌∙◌, ap}
use native.Mathlib.Omega.{arith}
use lib.ListN.{length}
use Rattle.model.specs.Limits.{line_bytes}
use Rattle.lists.proofs.Laws.Placed.{placed_none}
use Rattle.layout.specs.Shown.{shown_average}
use Rattle.text.proofs.Laws.Lengths.{average_length}
use Rattle.layout.proofs.Laws.Levels.{average_hidden, average_shown}
use Rattle.layout.proofs.put_shown_average.Goals as goal

pub returns-then-managers-eq0 : goal.returns-then-managers-eq0
returns-then-managers-eq0 c =
    let g = c.args in
    rw (sym (average_hidden g.level g.steps g.managers c.if-managers-eq0.true)) (placed_none g.at g.page.now (omega (arith, c.requires)))

pub put_average-requires : goal.put_average-requires
put_average-requires c =
    let g = c.args in
    let n : length (shown_average g.level g.steps g.managers) ≡ line_bytes = ap length (sym (average_shown g.level g.steps g.managers c.if-managers-eq0.false)) ∙ average_length g.level _ _ in
    omega (arith, c.requires, n)

pub returns : goal.returns
returns c =
    let g = c.args in
    rw (sym (average_shown g.level g.steps g.managers c.if-managers-eq0.false)) c.put_average.ensures
