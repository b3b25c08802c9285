-- What `scripts` says of each version that a step writes. Assumes nothing.
use mathlib.Core.List.{List, [], ◌∷◌}
use Rattle.scripts.specs.Valid as valid
use Rattle.lists.specs.Each.{Each}

module _ {A : Type 0} where
  -- as `scripts` says it of what a step writes
  pub each_seen : (P : A → Type 0) (xs : List A) → valid.Each P xs → Each P xs
  unfolding Each
  each_seen P [] e = tt
  each_seen P (x ∷ xs) e = (e.0, each_seen P xs e.1)
