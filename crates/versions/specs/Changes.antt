-- What a write to a log changes, and what it leaves. Assumes nothing.
use Rattle.std.specs.Prelude.{◌≡◌, ℕ, ◌+◌, ◌*◌, ◌≤◌, List, ◌∷◌, drop, ◌≢◌, slice_set}
use Rattle.lists.specs.Outside.{Outside}
use Rattle.model.specs.Limits.{work_numbers}
use Rattle.model.specs.Level.{Version}
use Rattle.versions.specs.Log.{version_numbers, number_place, max_versions, log_start, first_of, second_of, log_of}

-- two numbers stored at a place
abbrev pub stored : List ℕ → ℕ → ℕ → ℕ → List ℕ
stored work at first second = slice_set (slice_set work at first) (at + number_place) second

-- the numbers of a version are stored behind the log of a level, which had n versions. So the log has one more, the newest, and the
-- logs of the other levels, what lies beyond all logs, and all but the two numbers are as they were
pub record Appended (before after : List ℕ) (level n : ℕ) (v : Version) : Type 0 where
  pub numbers : after ≡ stored before (log_start level + version_numbers * n) (first_of v) (second_of v)
  pub log : log_of after (log_start level) (n + 1) ≡ v ∷ log_of before (log_start level) n
  pub others : (k m : ℕ) → (k ≢ level) → m ≤ max_versions → log_of after (log_start k) m ≡ log_of before (log_start k) m
  pub rest : drop work_numbers after ≡ drop work_numbers before
  pub outside : Outside before after (log_start level + version_numbers * n) (log_start level + version_numbers * n + version_numbers)
