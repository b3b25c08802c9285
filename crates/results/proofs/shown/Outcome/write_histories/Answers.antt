use Prim.Native.Nat.{◌-◌}
use mathlib.Core.Path.{◌≡◌}
use native.Mathlib.Omega.{arith}
use lib.ListN.{length}
use borrow.Rule.Slice.PartMut.{mid_of}
use Rattle.lists.specs.Lists.{tab, joined}
use Rattle.lists.specs.Placed.{Placed}
use Rattle.lists.proofs.Laws.Placed.{groups_none}
use Rattle.results.proofs.Laws.Behind.{groups_behind}
use Rattle.results.proofs.Laws.Shown.{history_bytes, histories_rows}
use Rattle.results.proofs.shown.Outcome.write_histories.Goals as goal

pub loop-i-init : goal.loop-i-init
loop-i-init c =
    let g = c.args in
    (omega arith, omega arith, groups_none (history_bytes g.self.now.histories.now g.level) 0 g.res.now (omega arith))

pub loop-i-preserved : goal.loop-i-preserved
loop-i-preserved c =
    let g = c.args in
    let at = c.loop-i in
    let bytes = history_bytes g.self.now.histories.now g.level in
    let made : c.history_record-made.result ≡ bytes at.i = c.history_record-made.ensures in
    let p : Placed (bytes at.i) 0 (mid_of at.at (length at.res - at.at) at.res) c.put-at.new.res c.put-at.result = rw made at c.put-at.ensures in (
      omega arith,
      omega (arith, at.invariant.1, p.ends),
      groups_behind bytes at.i at.at c.put-at.result g.res.now at.res c.put-at.new.res at.invariant.2 p,
    )

pub returns : goal.returns
returns c =
    let g = c.args in
    let at = c.loop-i in
    let z : at.i ≡ g.count = omega arith in
    let p : Placed (joined (tab g.count (history_bytes g.self.now.histories.now g.level))) 0 g.res.now at.res at.at = rw z at at.invariant.2 in
    rw (histories_rows g.self.now.histories.now g.level g.count) p
