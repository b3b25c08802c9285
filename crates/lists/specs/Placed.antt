-- Bytes written to a buffer. Assumes nothing.
-- Laws (`proofs/Laws/Placed`): bytes placed behind bytes (`placed_then`).
use Rattle.std.specs.Prelude.{ℕ, ◌+◌, ◌≤◌, ◌≡◌, List, ◌++◌, length, take, drop}

-- "beyond the result written, nothing changes"
abbrev pub written_over : List ℕ → List ℕ → List ℕ
written_over bytes buffer = bytes ++ drop (length bytes) buffer

-- bytes stand in a buffer from `at` up to `next`, and nothing else is touched
pub record Placed (bytes : List ℕ) (at : ℕ) (before after : List ℕ) (next : ℕ) : Type 0 where
  pub buffer : after ≡ take at before ++ bytes ++ drop next before
  pub ends : next ≡ at + length bytes
  pub fits : next ≤ length before

-- "the count of result bytes written"; "beyond the result written, nothing changes"
pub record Written (bytes before after : List ℕ) (count : ℕ) : Type 0 where
  pub number : count ≡ length bytes
  pub buffer : after ≡ written_over bytes before
