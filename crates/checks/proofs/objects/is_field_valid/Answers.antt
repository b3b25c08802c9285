use Prim.Native.Nat.{ℕ, zero, suc, ◌+◌, ◌*◌, ◌<◌}
use mathlib.Core.Path.{◌≡◌, refl}
use mathlib.Core.Bool.{false}
use mathlib.Core.List.{[], ◌∷◌}
use native.Mathlib.Omega.{arith}
use borrow.Author.Tests.{ne_eqb}
use lib.ListN.{get_or}
use Rattle.session.specs.Limits.{fields}
use Rattle.lists.specs.Lists.{tab}
use Rattle.session.specs.Record.{record_at, holds, between}
use Rattle.session_records.specs.Words.{joined_from, kept, Masks}
use Rattle.checks.proofs.objects.is_field_valid.Goals as goal

-- the masks of each field
field_masks : (k : ℕ) → k < fields
    → Masks (between (4 + 4 * k) (4 + 4 * k + 4)) (get_or (18446744069414584320 ∷ 0 ∷ 0 ∷ []) k 0) (get_or (0 ∷ 4294967295 ∷ 18446744069414584320 ∷ []) k 0)
unfolding joined_from kept tab
field_masks zero h = record { first_is = refl; second_is = refl }
field_masks (suc zero) h = record { first_is = refl; second_is = refl }
field_masks (suc (suc zero)) h = record { first_is = refl; second_is = refl }
field_masks (suc (suc (suc k))) h = absurd (omega arith)

pub returns-else-mask-k-eq1 : goal.returns-else-mask-k-eq1
returns-else-mask-k-eq1 c =
    let g = c.args in
    let h : holds (record_at g.session.now g.r) g.k ≡ false = ne_eqb _ 1 (rw c.byte_at-mask.ensures at c.if-mask-k-eq1.false) in
    rw h (c.are_unused.ensures (between (4 + 4 * g.k) (4 + 4 * g.k + 4)) (field_masks g.k c.requires.1))
