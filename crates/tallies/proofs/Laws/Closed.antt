-- What is counted once a manager has ended. Assumes nothing.
use Prim.Native.Nat.{ℕ, ◌≤◌, ◌<◌}
use mathlib.Core.Path.{◌≡◌, ◌∙◌}
use mathlib.Core.List.{List}
use native.Mathlib.Omega.{arith}
use lib.ListN.{length, get_or, set, length-set}
use lib.Seq.{get_or-set_same, get_or-set_other}
use Rattle.session.specs.Limits.{max_levels}
use Rattle.tallies.specs.Places.{next_place, tally_numbers, tallied}

module _ (l count next : ℕ) (t : List ℕ) where
  pub tallied-length : length (tallied l count next t) ≡ length t
  tallied-length = length-set (set t l count) (next_place l) next ∙ length-set t l count

  -- nothing else is counted anew
  pub tallied_other : (j : ℕ) → (j ≡ l → ⊥) → (j ≡ next_place l → ⊥) → get_or (tallied l count next t) j 0 ≡ get_or t j 0
  tallied_other j d e = get_or-set_other (set t l count) (next_place l) j next 0 e ∙ get_or-set_other t l j count 0 d

  module _ (small : l < max_levels) (room : tally_numbers ≤ length t) where
    pub tallied_count : get_or (tallied l count next t) l 0 ≡ count
    tallied_count =
        get_or-set_other (set t l count) (next_place l) l next 0 (λ e. omega (arith, e))
        ∙ get_or-set_same t l count 0 (omega (arith, small, room))

    pub tallied_next : get_or (tallied l count next t) (next_place l) 0 ≡ next
    tallied_next =
        get_or-set_same (set t l count) (next_place l) next 0 (rw (length-set t l count) (omega (arith, small, room)))
