use Prim.Native.Nat.{◌+◌, ◌-◌}
use native.Mathlib.Omega.{arith}
use lib.ListN.{length}
use borrow.Rule.Slice.PartMut.{put_mid}
use Rattle.session.proofs.Laws.Contents.{level_limit}
use Rattle.lists.proofs.Laws.Placed.{placed_then}
use Rattle.results.proofs.Laws.Behind.{rest_length, placed_behind}
use Rattle.results.proofs.Laws.Written.{objects_few, levels_few, all-written}
use Rattle.results.proofs.write.Goals as goal

pub write_levels-requires : goal.write_levels-requires
write_levels-requires c =
    let g = c.args in
    let o = c.write_objects-levels in
    omega (
      arith,
      c.requires.room,
      o.ensures.ends,
      objects_few g.session.now.bytes.now g.session.now.masks.now g.fields.now g.histories.now g.counts.now g.clearance c.requires.fields_ready c.requires.histories_ready,
      rest_length g.res.now o.new.res _ o.result o.ensures,
    )

pub write_reply-requires : goal.write_reply-requires
write_reply-requires c =
    let g = c.args in
    let f = c.requires.fields_ready in
    let h = c.requires.histories_ready in
    let o = c.write_objects-levels in
    let l = c.write_levels in
    let b2 = put_mid o.result (length o.new.res - o.result) o.new.res l.new.res in
    let both =
    placed_then g.res.now o.new.res _ 0 o.result o.ensures b2 _ (o.result + l.result) (placed_behind g.res.now o.new.res _ o.result o.ensures l.new.res _ l.result l.ensures) in (
      omega (arith, c.requires.root, level_limit g.session.now.bytes.now f.accepted),
      omega (
        arith,
        c.requires.room,
        o.ensures.ends,
        l.ensures.ends,
        objects_few g.session.now.bytes.now g.session.now.masks.now g.fields.now g.histories.now g.counts.now g.clearance f h,
        levels_few g.session.now.bytes.now g.session.now.masks.now g.fields.now g.histories.now g.counts.now g.clearance f h,
        rest_length g.res.now b2 _ (o.result + l.result) both,
      ),
    )

pub returns : goal.returns
returns c =
    let g = c.args in
    let o = c.write_objects-levels in
    let l = c.write_levels in
    let r = c.write_reply in
    let b2 = put_mid o.result (length o.new.res - o.result) o.new.res l.new.res in
    let levels = placed_behind g.res.now o.new.res _ o.result o.ensures l.new.res _ l.result l.ensures in
    let both = placed_then g.res.now o.new.res _ 0 o.result o.ensures b2 _ (o.result + l.result) levels in
    all-written g.session.now.bytes.now g.session.now.masks.now g.fields.now g.histories.now g.counts.now g.clearance c.requires.fields_ready c.requires.histories_ready
    g.root_level o.result (o.result + l.result) (o.result + l.result + r.result) g.res.now o.new.res b2 _
    o.ensures levels (placed_behind g.res.now b2 _ (o.result + l.result) both r.new.res _ r.result r.ensures)
