-- The conservative rule, asked of every level. No meaning rests on it. Assumes nothing.
use Rattle.std.specs.Prelude.{ℕ, ◌<◌, ◌≡◌, false, List, length}
use Rattle.permits.specs.Permits.{lowest_of}

-- no level may step by it
abbrev pub NoneLowest : List ℕ → List ℕ → Type 0
NoneLowest masks tallies = (l : ℕ) → l < length masks → lowest_of masks tallies l ≡ false
