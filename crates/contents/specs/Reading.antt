-- How the code finds its way through an accepted session: where the steps of each method stand. No meaning rests on these. Assumes nothing.
-- Laws (`proofs/Laws/Methods`): the steps of a method of which it is known where they stand are within the session
-- (`method_ends`); which step is there (`step_there`), and that the script's end is behind them (`step_over`).
use Rattle.std.specs.Prelude.{ℕ, ◌+◌, ◌/◌, ◌%◌, ◌<◌, ◌≡◌, List, length}
use Rattle.session.specs.Limits.{names, max_methods}
use Rattle.lists.specs.Lists.{tab, count_below}
use Rattle.session.specs.Parts.{step_records, level_count, object_count, key, key_of}
use Rattle.session.specs.Meaning.{method_of}
use Rattle.session.specs.Questions.{verdict_of, Accepted}

-- the record at which the steps of a method start: those of the methods before it stand before them
unfoldable pub method_start : List ℕ → ℕ → ℕ
method_start s k = level_count s + object_count s + count_below key_of k (step_records s)

-- where each method starts, by object and then name, and behind them where the last one ends
unfoldable pub index_of : List ℕ → List ℕ
index_of s = tab (max_methods + 1) (λ i. method_start s (key (i / names) (i % names)))

-- where the steps of the method (object, name) stand: the record of the first, and how many there are
pub record MethodAt (s : List ℕ) (object name start count : ℕ) : Type 0 where
  pub start_is : start ≡ method_start s (key object name)
  pub count_is : count ≡ length (method_of s object name)

-- the steps of one of the session's methods stand there, if any do
abbrev pub IsMethod : List ℕ → ℕ → ℕ → Type 0
IsMethod s start count = 0 < count → (object : ℕ) × ((name : ℕ) × MethodAt s object name start count)

-- an accepted session with its method index
pub record Indexed (s index : List ℕ) : Type 0 where
  pub accepted : verdict_of s ≡ Accepted
  pub index_is : index ≡ index_of s
