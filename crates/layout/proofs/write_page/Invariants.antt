-- The invariant: the lines of the records passed are placed, their steps summed, and those of each level counted.
use Prim.Native.Nat.{◌*◌, ◌-◌, ◌^◌, ◌≤◌}
use mathlib.Core.Path.{◌≡◌}
use Rattle.lists.specs.Lists.{tab, joined}
use Rattle.session.specs.Record.{record_count}
use Rattle.lists.specs.Placed.{Placed}
use Rattle.text.specs.Text.{sum_of}
use Rattle.layout.specs.Shown.{Tallied}
use Rattle.layout.proofs.Laws.Shown.{record_line, record_steps}
use Rattle.layout.proofs.write_page.Given as goal

abbrev pub invariant-loop-number : goal.invariant-loop-number
invariant-loop-number l =
    (l.number ≤ record_count l.bytes)
    × Placed (joined (tab l.number (record_line l.bytes))) 0 l.initial.page l.page l.at
    × (l.total ≡ sum_of (tab l.number (record_steps l.bytes)))
    × (l.total ≤ 2 ^ 16 * l.number)
    × Tallied l.bytes l.number l.steps l.managers

abbrev pub decreases-loop-number : goal.decreases-loop-number
decreases-loop-number l =
    record_count l.bytes - l.number
