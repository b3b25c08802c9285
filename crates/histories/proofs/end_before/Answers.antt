use Prim.Native.Nat.{◌-◌}
use mathlib.Core.Path.{◌≡◌, sym, ◌∙◌}
use native.Mathlib.Omega.{arith}
use Rattle.rows.specs.Change.{Place}
use Rattle.histories.specs.Limits.{row_words}
use Rattle.histories.specs.Histories.{level_place}
use Rattle.histories.proofs.Laws.Histories.{first_place_lem, rows_rise}
use Rattle.histories.proofs.Laws.EndBefore.{end_none, end_last}
use Rattle.histories.proofs.end_before.Goals as goal

pub returns-in_default : goal.returns-in_default
returns-in_default c =
    let g = c.args in
    end_none g.histories.now g.level g.count g.stamp c.requires.rises (λ h. omega (arith, c.in_default.ensures))

pub place-smaller-requires : goal.place-smaller-requires
place-smaller-requires c =
    let g = c.args in
    rw (c.place_of-start.ensures, first_place_lem g.level)
    (omega arith, omega (arith, c.requires.room, c.requires.level, c.requires.count), sym (rows_rise g.histories.now g.level g.count) ∙ c.requires.rises)

pub returns-in_default-checked_sub : goal.returns-in_default-checked_sub
returns-in_default-checked_sub c =
    let g = c.args in
    let none : c.place-smaller.result ≡ 0 = omega (arith, c.in_default-checked_sub.ensures) in
    let first : Place g.histories.now (level_place g.level) row_words g.count c.in-Some.largest 0 =
    rw (c.place_of-start.ensures, first_place_lem g.level, none) at c.place-smaller.ensures in
    end_none g.histories.now g.level g.count g.stamp c.requires.rises (λ h. omega (arith, first.after h, c.in-Some.ensures))

pub returns : goal.returns
returns c =
    let g = c.args in
    let below : c.in-Some.largest ≡ g.stamp - 1 = omega (arith, c.in-Some.ensures) in
    let last : c.in-Some-checked_sub.last ≡ c.place-smaller.result - 1 = omega (arith, c.in-Some-checked_sub.ensures) in
    let found = rw (c.place_of-start.ensures, first_place_lem g.level, below) at c.place-smaller.ensures in
    rw (c.place_of.ensures, last)
    (end_last g.histories.now g.level g.count g.stamp c.requires.rises c.place-smaller.result (omega (arith, c.in-Some.ensures)) (omega (arith, c.in-Some-checked_sub.ensures)) found)
