-- The invariant: (object, name) has not fallen, and the steps passed are whole methods, and valid if it never falls.
use Prim.Native.Nat.{◌-◌}
use Rattle.methods.proofs.Laws.Scripts.{Methods}
use Rattle.methods.proofs.are_valid.Given as goal

abbrev pub invariant-loop-at : goal.invariant-loop-at
invariant-loop-at l = Methods l.session l.levels l.objects l.first l.end l.at

abbrev pub decreases-loop-at : goal.decreases-loop-at
decreases-loop-at l = l.end - l.at
