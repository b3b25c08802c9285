-- What is counted once existence was written at a level. Assumes nothing.
use Prim.Native.Nat.{ℕ, ◌≤◌, ◌<◌}
use mathlib.Core.Path.{◌≡◌, ◌∙◌, ap}
use mathlib.Core.Bool.{false}
use mathlib.Core.List.{List}
use native.Mathlib.Omega.{arith}
use lib.Dec.{eqb}
use lib.ListN.{length, get_or, set, length-set}
use lib.Seq.{get_or-set_same, get_or-set_other}
use Rattle.session.specs.Limits.{max_levels}
use Rattle.tallies.specs.Places.{changes_place, all_changes_place, tally_numbers, changed, unchanged_at, unchanged}

module _ (l : ℕ) (t : List ℕ) where
  pub changed-length : length (changed l t) ≡ length t
  changed-length = length-set (set t (changes_place l) 1) all_changes_place 1 ∙ length-set t (changes_place l) 1

  -- nothing else is counted anew
  pub changed_other : (j : ℕ) → (j ≡ changes_place l → ⊥) → (j ≡ all_changes_place → ⊥) → get_or (changed l t) j 0 ≡ get_or t j 0
  changed_other j d e = get_or-set_other (set t (changes_place l) 1) all_changes_place j 1 0 e ∙ get_or-set_other t (changes_place l) j 1 0 d

  module _ (small : l < max_levels) (room : tally_numbers ≤ length t) where
    pub changed_here : unchanged_at (changed l t) l ≡ false
    changed_here =
        ap (λ n. eqb n 0)
        (get_or-set_other (set t (changes_place l) 1) all_changes_place (changes_place l) 1 0 (λ e. omega (arith, e, small))
        ∙ get_or-set_same t (changes_place l) 1 0 (omega (arith, small, room)))

    pub changed-all : unchanged (changed l t) ≡ false
    changed-all =
        ap (λ n. eqb n 0)
        (get_or-set_same (set t (changes_place l) 1) all_changes_place 1 0 (rw (length-set t (changes_place l) 1) (omega (arith, room))))
