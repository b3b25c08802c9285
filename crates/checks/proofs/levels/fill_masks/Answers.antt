use Prim.Native.Nat.{◌<◌}
use mathlib.Core.Path.{refl}
use native.Mathlib.Omega.{arith}
use lib.ListN.{length, length-set}
use Rattle.session.specs.Record.{record_at, mask_of}
use Rattle.lists.proofs.Laws.Fill.{tab_fill_none, tab_fill_more}
use Rattle.checks.proofs.levels.fill_masks.Goals as goal

pub loop-i-init : goal.loop-i-init
loop-i-init c = (omega arith, tab_fill_none _ _, refl)

pub loop-i-preserved : goal.loop-i-preserved
loop-i-preserved c =
    let g = c.args in
    let at = c.loop-i in
    let room : at.i < length g.masks.now = omega arith in (
      omega arith,
      rw (at.invariant.1, c.byte_at.ensures) (tab_fill_more at.i (λ k. mask_of (record_at g.session.now k)) g.masks.now room),
      simp length-set at.invariant.2,
    )
