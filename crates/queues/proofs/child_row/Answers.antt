use Rattle.std.proofs.Common.{◌+◌, ◌∙◌, ap, set, arith}
use Rattle.queues.specs.Queue.{carried_place, carried_at}
use Rattle.queues.proofs.Laws.Row.{set_carried, carried_copied, child_row}
use Rattle.queues.proofs.child_row.Goals as goal

pub returns : goal.returns
returns c =
    let g = c.args in
    let ws = g.queue.now in
    let all = carried_copied ws g.level g.i g.stamp g.depth g.message _ _ _ _ (omega arith) c.row_of-row.ensures c.copy_from_slice.ensures.after (omega (arith, c.place_of-from.ensures)) (omega arith) in
    let e = ap (λ row. set row (carried_place + g.level) g.carried) all ∙ set_carried g.stamp g.depth g.message (carried_at ws g.level g.i) g.level g.carried in (
      e,
      rw e (child_row ws g.level g.i g.stamp g.depth g.carried g.message c.requires.level
          (record { deep = omega (arith, c); object = omega (arith, c); name = omega (arith, c) }) (omega (arith, c))),
    )
