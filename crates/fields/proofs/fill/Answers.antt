use Rattle.std.proofs.Common.{◌≡◌, ◌+◌, ◌*◌, refl, sym, arith, add-zero, add_assoc}
use Rattle.fields.specs.Limits.{object_values}
use Rattle.session.proofs.Laws.Contents.{object_limit}
use Rattle.fields.proofs.Laws.Fields.{fill_none, fill_more, fill_all}
use Rattle.fields.proofs.fill.Goals as goal

pub loop-object-init : goal.loop-object-init
loop-object-init c = fill_none c.args.session.now.bytes.now c.args.fields.now

pub set-requires : goal.set-requires
set-requires c =
    record {
      room = omega (arith, c.requires, c.loop-k.auto.fields, c.loop-object.auto.fields);
      object = omega (arith, c.loop-object-test.true, c.object_count-object-end.ensures, object_limit c.args.session.now.bytes.now c.args.session.now.accepted);
      field = c.loop-k-test.true;
    }

pub loop-k-init : goal.loop-k-init
loop-k-init c = rw (add-zero (object_values * c.loop-object.object)) c.loop-object.invariant

pub loop-k-preserved : goal.loop-k-preserved
loop-k-preserved c =
    let at = c.loop-k in
    rw (sym (add_assoc (object_values * c.loop-object.object) at.k 1))
    (fill_more _ _ at.fields c.set.new.fields _ c.loop-object.object at.k c.first_of.result refl at.invariant
    record {
      room = omega (arith, c.requires, c.loop-k.auto.fields, c.loop-object.auto.fields);
      object = omega (arith, c.loop-object-test.true, c.object_count-object-end.ensures, object_limit c.args.session.now.bytes.now c.args.session.now.accepted);
      field = c.loop-k-test.true;
    } c.set.ensures c.first_of.ensures)

pub loop-object-preserved : goal.loop-object-preserved
loop-object-preserved c = let h : object_values * c.loop-object.object + c.loop-k.k ≡ object_values * (c.loop-object.object + 1) = omega arith in rw h at c.loop-k.invariant

pub returns : goal.returns
returns c = fill_all _ _ _ _ (omega (arith, c.object_count-object-end.ensures)) c.loop-object.invariant
