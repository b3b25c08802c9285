use Prim.Native.Nat.{◌^◌, ◌<◌}
use native.Mathlib.Omega.{arith}
use Rattle.histories.proofs.Laws.Histories.{first_place_lem, room_for, added}
use Rattle.histories.proofs.add.Goals as goal

pub insert-requires : goal.insert-requires
insert-requires c =
    let g = c.args in
    rw (c.place_of.ensures, first_place_lem g.level, c.row_of-row.ensures) (room_for g.histories.now g.level g.count g.ended c.requires)

pub returns : goal.returns
returns c =
    let g = c.args in
    let small : g.ended.writes < 2 ^ 8 = omega (arith, c) in
    added g.histories.now c.insert.new.words g.level g.count c.insert.result g.ended c.requires small
    (rw (c.place_of.ensures, first_place_lem g.level, c.row_of-row.ensures) at c.insert.ensures)
