use mathlib.Core.Path.{◌≡◌}
use native.Mathlib.Omega.{arith}
use Rattle.rows.proofs.Laws.Kept.{kept_more, kept_none, room_before, full_kept_last, full_kept_before}
use Rattle.rows.proofs.insert.Goals as goal

pub returns-then-count-cap : goal.returns-then-count-cap
returns-then-count-cap c =
    let g = c.args in
    kept_more g.words.now c.put.new.words g.base g.row.now g.count g.cap c.requires c.if-count-cap.true c.put.ensures

pub returns-then-count-eq0 : goal.returns-then-count-eq0
returns-then-count-eq0 c =
    let g = c.args in
    let z : g.count ≡ 0 = c.if-count-eq0.true in
    let y : g.cap ≡ 0 = omega (arith, c.if-count-cap.false) in
    rw (z, y) (kept_none g.words.now g.base g.row.now)

pub returns-then-words-base : goal.returns-then-words-base
returns-then-words-base c =
    let g = c.args in
    full_kept_last g.words.now g.words.now g.base g.row.now g.count g.cap (omega (arith, c.if-count-eq0.false)) c.if-count-cap.false c.requires c.if-words-base.true

pub put-requires-2 : goal.put-requires-2
put-requires-2 c =
    let g = c.args in
    room_before g.words.now g.words.now g.base g.row.now g.count g.cap (omega (arith, c.if-count-eq0.false)) c.requires

pub returns : goal.returns
returns c =
    let g = c.args in
    full_kept_before g.words.now c.put-2.new.words g.base g.row.now g.count g.cap (omega (arith, c.if-count-eq0.false)) c.if-count-cap.false c.requires
    c.if-words-base.false c.put-2.ensures
