-- Laws of the cleared work slice. Assumes nothing.
use Rattle.std.proofs.Common.{◌≡◌, ℕ, List, ◌++◌, drop, replicate, ap}
use Rattle.model.specs.Limits.{work_numbers}
use Rattle.calls.specs.Entries.{cleared}

-- only what lies beyond the logs counts
pub cleared_rest : (v w : List ℕ) → drop work_numbers w ≡ drop work_numbers v → cleared w ≡ cleared v
unfolding cleared
cleared_rest v w e = ap (λ t. replicate work_numbers 0 ++ t) e
