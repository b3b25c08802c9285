use Rattle.std.proofs.Common.{◌+◌, ◌*◌, ◌≤◌, ◌≡◌, length, arith}
use native.Mathlib.Nat.{mul-le-mul_left}
use Rattle.rows.proofs.Laws.Moves.{shifted_is, store_all}
use Rattle.rows.proofs.Laws.Kept.{put_in}
use Rattle.rows.proofs.put.Goals as goal

pub returns : goal.returns
returns c =
    let g = c.args in
    let w = length g.row.now in
    let at = g.base + w * c.place.result in
    let moved = c.copy_within.ensures in
    let loop = c.loop-i in
    let within = c.place.ensures.within in
    let from : at ≤ g.base + w * g.count = omega (arith, mul-le-mul_left w within) in
    let all : loop.i ≡ w = omega (arith, loop.invariant.0, c.loop-i-test.false) in
    put_in g.words.now c.copy_within.new.self _ g.base g.count c.place.result g.row.now c.requires.wide c.place.ensures
    (shifted_is g.words.now _ at (g.base + w * g.count) w from moved.len moved.by_index.0 moved.by_index.1 moved.by_index.2)
    (store_all c.copy_within.new.self loop.words at g.row.now loop.i all loop.invariant.1)
