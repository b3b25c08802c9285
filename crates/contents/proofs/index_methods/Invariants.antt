-- The invariant: the slots passed hold where their methods start.
use Prim.Native.Nat.{ℕ, ◌+◌, ◌-◌, ◌/◌, ◌%◌, ◌≤◌}
use mathlib.Core.Path.{◌≡◌}
use mathlib.Core.List.{◌++◌}
use lib.ListN.{length, drop}
use Rattle.session.specs.Limits.{names}
use Rattle.lists.specs.Lists.{tab}
use Rattle.session.specs.Parts.{level_count, object_count, step_count, key}
use Rattle.contents.specs.Reading.{method_start}
use Rattle.contents.proofs.index_methods.Given as goal

-- the key that a slot of the index stands for
abbrev pub slot_key : ℕ → ℕ
slot_key i = key (i / names) (i % names)

abbrev pub invariant-loop-slot : goal.invariant-loop-slot
invariant-loop-slot l =
    (l.slot ≤ 513)
    × (l.index ≡ tab l.slot (λ i. method_start l.session (slot_key i)) ++ drop l.slot l.initial.index)
    × (length l.index ≡ length l.initial.index)
    × (level_count l.session + object_count l.session ≤ l.at)
    × (l.at ≤ method_start l.session (slot_key l.slot))
    × (l.end ≡ level_count l.session + object_count l.session + step_count l.session)

abbrev pub decreases-loop-slot : goal.decreases-loop-slot
decreases-loop-slot l = 513 - l.slot
