-- What the code of a page makes of each record, by its kind, and of each level. No meaning rests on these. Assumes nothing.
use Rattle.std.specs.Prelude.{ℕ, ◌*◌, ◌/◌, ◌%◌, ◌^◌, ◌≤◌, ◌<◌, ◌≡◌, Bool, cond, ◌&&◌, List, [], eqb, ltb, length, get_or}
use Rattle.session.specs.Limits.{max_levels}
use Rattle.lists.specs.Lists.{tab}
use Rattle.session.specs.Record.{Record, record_at, kind_of}
use Rattle.model.specs.Result.{level_in, steps_in}
use Rattle.text.specs.Text.{line_of, average_line, sum_of}

-- is it a history's?
abbrev pub is_history : Record → Bool
is_history rec = eqb (kind_of rec) 6

-- its line and its script steps, or nothing
unfoldable pub shown_line : Record → List ℕ
shown_line rec = cond (is_history rec) (line_of rec) []

unfoldable pub shown_steps : Record → ℕ
shown_steps rec = cond (is_history rec) (steps_in rec) 0

-- is it a history's of this level?
abbrev pub is_at : ℕ → Record → Bool
is_at level rec = is_history rec && eqb (level_in rec) level

-- what it adds to the level's steps and managers
unfoldable pub steps_added : ℕ → Record → ℕ
steps_added level rec = cond (is_at level rec) (steps_in rec) 0

unfoldable pub managers_added : ℕ → Record → ℕ
managers_added level rec = cond (is_at level rec) 1 0

-- the steps and managers of each level over the first records of some bytes, which fit a number of 32 bits
pub record Tallied (bytes : List ℕ) (count : ℕ) (steps managers : List ℕ) : Type 0 where
  pub steps_long : length steps ≡ max_levels
  pub managers_long : length managers ≡ max_levels
  pub steps_are : (level : ℕ) → level < max_levels → get_or steps level 0 ≡ sum_of (tab count (λ r. steps_added level (record_at bytes r)))
  pub managers_are : (level : ℕ) → level < max_levels → get_or managers level 0 ≡ sum_of (tab count (λ r. managers_added level (record_at bytes r)))
  pub steps_few : (level : ℕ) → level < max_levels → get_or steps level 0 ≤ 2 ^ 16 * count
  pub managers_few : (level : ℕ) → level < max_levels → get_or managers level 0 ≤ count

-- the line of a level with so many steps and managers, or nothing
unfoldable pub shown_average : ℕ → ℕ → ℕ → List ℕ
shown_average level steps managers = cond (ltb 0 managers) (average_line level (steps / managers) (steps % managers)) []

-- the line of each level, by the lists of their steps and managers
abbrev pub average_in : List ℕ → List ℕ → ℕ → List ℕ
average_in steps managers level = shown_average level (get_or steps level 0) (get_or managers level 0)
