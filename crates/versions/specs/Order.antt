-- The order of a log by write stamp. Assumes nothing.
-- Laws (`proofs/Laws/Order`): a log whose versions, newest first, never rise in write stamp is in order (`stamps_rise`); in it the newest
-- version up to a bound is the newest of those before the partition point (`newest_before`).
use Rattle.std.specs.Prelude.{ℕ, ◌+◌, ◌*◌, ◌<◌, ◌≤◌, List}
use Rattle.versions.specs.Log.{version_numbers, version_at}

-- the write stamp of version i, counted from the oldest on, of the log that starts at a place
abbrev pub stamp_at : List ℕ → ℕ → ℕ → ℕ
stamp_at work start i = (version_at work (start + version_numbers * i)).stamp

-- the write stamps of its n versions, from the oldest on, never fall
abbrev pub StampsRise : List ℕ → ℕ → ℕ → Type 0
StampsRise work start n = (i j : ℕ) → i ≤ j → j < n → stamp_at work start i ≤ stamp_at work start j

-- the r oldest of its n versions are not above a write stamp, and the others are
pub record PartitionPoint (work : List ℕ) (start n bound r : ℕ) : Type 0 where
  pub within : r ≤ n
  pub before : (i : ℕ) → i < r → stamp_at work start i ≤ bound
  pub after : (i : ℕ) → r ≤ i → i < n → bound < stamp_at work start i
