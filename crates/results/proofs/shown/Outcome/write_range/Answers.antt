use Prim.Native.Nat.{◌+◌}
use native.Mathlib.Omega.{arith}
use Rattle.session.specs.Program.{program_of}
use Rattle.session.proofs.Laws.Numbers.{number_few}
use Rattle.fields.specs.Fields.{field_at}
use Rattle.lists.proofs.Laws.Placed.{groups_none}
use Rattle.results.proofs.Laws.Behind.{groups_behind}
use Rattle.results.proofs.Laws.Shown.{shown_from, object_length}
use Rattle.results.proofs.shown.Outcome.write_range.Goals as goal

pub loop-i-init : goal.loop-i-init
loop-i-init c =
    let o = c.args.self.now in
    (omega arith, omega arith, groups_none (shown_from (program_of o.session.bytes.now) (field_at o.fields.now) o.clearance c.args.first) 0 c.args.res.now (omega arith))

pub overflow_add-first : goal.overflow_add-first
overflow_add-first c =
    let o = c.args.self.now in
    let at = c.loop-i in
    omega (arith, number_few o.session.bytes.now o.session.accepted (c.args.first + at.i) (c.requires.0 at.i c.loop-i-test.true))

pub loop-i-preserved : goal.loop-i-preserved
loop-i-preserved c =
    let o = c.args.self.now in
    let g = c.args in
    let at = c.loop-i in
    let w = c.write_object-at in (
      omega (arith, c.loop-i-test.true),
      omega (arith, at.invariant.1, w.ensures.ends, object_length (program_of o.session.bytes.now) (field_at o.fields.now) o.clearance (g.first + at.i)),
      groups_behind (shown_from (program_of o.session.bytes.now) (field_at o.fields.now) o.clearance g.first) at.i at.at w.result g.res.now at.res w.new.res at.invariant.2 w.ensures,
    )
