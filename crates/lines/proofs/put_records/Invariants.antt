-- The invariant: the lines of the records passed are placed.
use Prim.Native.Nat.{◌*◌, ◌≤◌}
use mathlib.Core.Path.{◌≡◌}
use Rattle.lists.specs.Lists.{tab, joined}
use Rattle.session.specs.Record.{record_count}
use Rattle.lists.specs.Placed.{Placed}
use Rattle.lines.proofs.Laws.Lines.{line_at}
use Rattle.lines.proofs.put_records.Given as goal

abbrev pub invariant-loop-record : goal.invariant-loop-record
invariant-loop-record l =
    (l.record-index ≤ record_count l.bytes) × (l.at ≡ 33 * l.record-index) × Placed (joined (tab l.record-index (line_at l.bytes))) 0 l.initial.text l.text l.at
