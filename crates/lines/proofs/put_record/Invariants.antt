-- The invariant: the digits of the bytes passed are placed.
use Prim.Native.Nat.{◌+◌, ◌*◌, ◌≤◌}
use mathlib.Core.Path.{◌≡◌}
use Rattle.lists.specs.Lists.{tab, joined}
use Rattle.lists.specs.Placed.{Placed}
use Rattle.lines.proofs.Laws.Lines.{hex_at}
use Rattle.lines.proofs.put_record.Given as goal

abbrev pub invariant-loop-byte : goal.invariant-loop-byte
invariant-loop-byte l =
    (l.byte-index ≤ 16) × (l.next ≡ l.at + 2 * l.byte-index) × Placed (joined (tab l.byte-index (hex_at l.record))) l.at l.initial.text l.text l.next
