use Prim.Native.Nat.{◌+◌, ◌*◌}
use Rattle.fields.specs.Limits.{object_values}
use Rattle.fields.proofs.Laws.Fields.{Filling}
use Rattle.fields.proofs.fill.Given as goal

abbrev pub invariant-loop-object : goal.invariant-loop-object
invariant-loop-object l = Filling l.session.bytes.now l.initial.fields l.fields (object_values * l.object)

abbrev pub invariant-loop-k : goal.invariant-loop-k
invariant-loop-k l = Filling l.session.bytes.now l.fn.fields l.fields (object_values * l.object + l.k)
