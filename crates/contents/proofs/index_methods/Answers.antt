use Prim.Native.Nat.{◌+◌, ◌≤◌, ◌<◌}
use mathlib.Core.Path.{◌≡◌, refl, ◌∙◌}
use native.Mathlib.Omega.{arith}
use lib.ListN.{length, length-set}
use Rattle.contents.specs.Reading.{method_start, index_of}
use Rattle.lists.proofs.Laws.Fill.{tab_fill_none, tab_fill_more}
use Rattle.session.proofs.Laws.Contents.{rises, counts, step_limit, object_limit, level_limit}
use Rattle.contents.proofs.Laws.Methods.{start_first, start_last, start_mono}
use Rattle.contents.proofs.index_methods.Invariants.{slot_key}
use Rattle.contents.proofs.index_methods.Goals as goal

pub count_kinds-layout-requires : goal.count_kinds-layout-requires
count_kinds-layout-requires c = rises c.args.session.now c.requires.0

pub overflow_add-at : goal.overflow_add-at
overflow_add-at c =
    let n = c.count_kinds-layout.ensures in
    omega (arith, n.levels_are, n.objects_are, counts c.args.session.now c.requires.0)

pub overflow_add-end : goal.overflow_add-end
overflow_add-end c =
    let n = c.count_kinds-layout.ensures in
    omega (arith, n.levels_are, n.objects_are, n.steps_are, counts c.args.session.now c.requires.0)

pub loop-slot-init : goal.loop-slot-init
loop-slot-init c =
    let t = c.args.session.now in
    let n = c.count_kinds-layout.ensures in (
      omega arith,
      tab_fill_none (λ i. method_start t (slot_key i)) c.args.index.now,
      refl,
      omega (arith, n.levels_are, n.objects_are),
      omega (arith, n.levels_are, n.objects_are, start_first t c.requires.0 (slot_key 0)),
      omega (arith, n.levels_are, n.objects_are, n.steps_are),
    )

pub overflow_cast-index : goal.overflow_cast-index
overflow_cast-index c =
    let t = c.args.session.now in
    omega (arith, c.method_start-at.ensures, start_last t c.requires.0 (slot_key c.loop-slot.slot), step_limit t c.requires.0, object_limit t c.requires.0, level_limit t c.requires.0)

pub loop-slot-preserved : goal.loop-slot-preserved
loop-slot-preserved c =
    let t = c.args.session.now in
    let at = c.loop-slot in
    let start : c.method_start-at.result ≡ method_start t (slot_key at.slot) = c.method_start-at.ensures in
    let room : at.slot < length c.args.index.now = omega (arith, c.requires.1) in
    let next : slot_key at.slot ≤ slot_key (at.slot + 1) = omega arith in (
      omega arith,
      rw (at.invariant.1, start) (tab_fill_more at.slot (λ i. method_start t (slot_key i)) c.args.index.now room),
      length-set at.index at.slot c.method_start-at.result ∙ at.invariant.2,
      omega (arith, start, start_first t c.requires.0 (slot_key at.slot)),
      omega (arith, start, start_mono t c.requires.0 (slot_key at.slot) (slot_key (at.slot + 1)) next),
      at.invariant.5,
    )

pub returns : goal.returns
unfolding index_of
returns c =
    let z : c.loop-slot.slot ≡ 513 = omega arith in
    rw z at c.loop-slot.invariant.1
