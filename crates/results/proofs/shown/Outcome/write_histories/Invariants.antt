-- The invariant: the histories passed are placed.
use Prim.Native.Nat.{◌-◌, ◌*◌, ◌≤◌}
use mathlib.Core.Path.{◌≡◌}
use Rattle.lists.specs.Lists.{tab, joined}
use Rattle.lists.specs.Placed.{Placed}
use Rattle.results.proofs.Laws.Shown.{history_bytes}
use Rattle.results.proofs.shown.Outcome.write_histories.Given as goal

abbrev pub invariant-loop-i : goal.invariant-loop-i
invariant-loop-i l = (l.i ≤ l.count) × (l.at ≡ 16 * l.i) × Placed (joined (tab l.i (history_bytes l.self.histories.now l.level))) 0 l.initial.res l.res l.at

abbrev pub decreases-loop-i : goal.decreases-loop-i
decreases-loop-i l = l.count - l.i
