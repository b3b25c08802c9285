-- The invariant: what is shown of the objects passed is placed.
use Prim.Native.Nat.{◌-◌, ◌*◌, ◌≤◌}
use Rattle.lists.specs.Lists.{tab, joined}
use Rattle.session.specs.Program.{program_of}
use Rattle.fields.specs.Fields.{field_at}
use Rattle.lists.specs.Placed.{Placed}
use Rattle.results.proofs.Laws.Shown.{shown_from}
use Rattle.results.proofs.shown.Outcome.write_range.Given as goal

abbrev pub invariant-loop-i : goal.invariant-loop-i
invariant-loop-i l =
    (l.i ≤ l.count)
    × (l.at ≤ 16 * l.i)
    × Placed (joined (tab l.i (shown_from (program_of l.self.session.bytes.now) (field_at l.self.fields.now) l.self.clearance l.first))) 0 l.initial.res l.res l.at

abbrev pub decreases-loop-i : goal.decreases-loop-i
decreases-loop-i l = l.count - l.i
