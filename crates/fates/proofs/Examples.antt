-- Messages in document 01's diamond, 3 over 1 and 2, these over 0, computed by the definition. Assumes nothing.
use Prim.Native.Nat.{ℕ}
use mathlib.Core.Path.{◌≡◌, refl}
use mathlib.Core.List.{[], ◌∷◌}
use Rattle.lists.specs.Range.{all, first}
use Rattle.dominance.specs.Join.{is_least, join}
use Rattle.dominance.specs.Table.{dominates}
use Rattle.fates.specs.Filter.{fate_of}
use Rattle.fates.specs.declared.Fate.{Fate}
use Rattle.fates.specs.declared.Fate.TheVariants.{Call, Discard, Block, Fork}

-- by the levels of the manager, the sender and the receiver
abbrev sent : ℕ → ℕ → ℕ → Fate
sent = fate_of 4 (dominates (0x01 ∷ 0x03 ∷ 0x05 ∷ 0x0F ∷ []))

pub record Examples : Type 0 where
  -- "Equal levels, or o1 strictly above o2", whatever the manager's level
  equal : sent 1 1 1 ≡ Call
  equal_within : sent 3 1 1 ≡ Call
  down : sent 1 1 0 ≡ Call
  down_within : sent 3 1 0 ≡ Call
  -- "Incomparable", of a manager above both too
  incomparable : sent 1 1 2 ≡ Block
  incomparable_within : sent 3 1 2 ≡ Block
  -- "o1 strictly below o2": from the manager's own level a fork
  up : sent 0 0 1 ≡ Fork 1
  -- a manager at 3 runs what its frame at 0 sends up to 1: the bound of 3 and 1 is 3. So does one at 1
  up_within : sent 3 0 1 ≡ Discard
  up_to_own : sent 1 0 1 ≡ Discard
  -- a manager at 1 with a frame at 0 that sends up to 2 forks at their bound
  up_beside : sent 1 0 2 ≡ Fork 3
  up_above : sent 1 0 3 ≡ Fork 3

pub examples : Examples
unfolding all first is_least join dominates fate_of
examples =
    record {
      equal = refl;
      equal_within = refl;
      down = refl;
      down_within = refl;
      incomparable = refl;
      incomparable_within = refl;
      up = refl;
      up_within = refl;
      up_to_own = refl;
      up_beside = refl;
      up_above = refl;
    }
