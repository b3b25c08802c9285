-- Which words a change may touch. Assumes nothing.
-- Laws (`proofs/Laws/Outside`): a store is a change within a range; changes within a range are changes within a wider one, and follow each
-- other.
use Rattle.std.specs.Prelude.{ℕ, ◌≤◌, ◌<◌, ◌≡◌, List, length, get_or}

-- of the words ws only those from a up to e may have become others in ws'
pub record Outside (ws ws' : List ℕ) (a e : ℕ) : Type 0 where
  pub length_same : length ws' ≡ length ws
  pub below : (k : ℕ) → k < a → get_or ws' k 0 ≡ get_or ws k 0
  pub above : (k : ℕ) → e ≤ k → get_or ws' k 0 ≡ get_or ws k 0
