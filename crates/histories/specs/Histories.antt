-- The histories of a run, kept in words: `row_words` for each, by level and fork stamp. Assumes nothing.
-- Laws: histories of other levels, of none, by number (`proofs/Laws/Histories`); the end stamp before a fork stamp, by the place that
-- `rows::place` finds (`EndBefore`: `end_None`, `end_last`).
use Rattle.std.specs.Prelude.{ℕ, ◌+◌, ◌*◌, ◌%◌, ◌^◌, ◌≤◌, ◌<◌, ◌≡◌, true, false, cond, List, [], ◌∷◌, map, eqb, length, get_or}
use Rattle.session.specs.Limits.{max_levels}
use Rattle.lists.specs.Lists.{rising_from}
use Rattle.scripts.specs.Ending.{number_of_ending, is_running}
use Rattle.scripts.specs.declared.Ending.{Ending}
use Rattle.scripts.specs.declared.Ending.TheVariants.{Finished, OutOfSteps, OutOfWrites}
use Rattle.scripts.specs.State.{Manager}
use Rattle.scripts.specs.Value.{tag, number_in}
use Rattle.scripts.specs.declared.Ended.{Ended}
use Rattle.lists.specs.Outside.{Outside}
use Rattle.fields.specs.Fields.{value_of}
use Rattle.model.specs.Limits.{max_managers}
use Rattle.lists.specs.Changed.{inserted}
use Rattle.model.specs.Fork.{Fork}
use Rattle.model.specs.History as model
use Rattle.model.specs.History.{History}
use Rattle.rows.specs.Rows.{rows_at, key_of}
use Rattle.histories.specs.Limits.{stamp_place, ending_place, writes_place, first_place, last_place, steps_place, tag_place, number_place, row_words, level_words, history_words}

-- "Endings: 0 stack empty; 1 the 256th step left frames; 2 a seventeenth write"
abbrev pub ending_of : ℕ → Ending
ending_of n = cond (eqb n 0) Finished (cond (eqb n 1) OutOfSteps OutOfWrites)

-- the history in a row; its writes are a byte
unfoldable pub history_of_row : List ℕ → History
history_of_row row =
    record {
      ending = ending_of (get_or row ending_place 0);
      writes = get_or row writes_place 0 % 2 ^ 8;
      stamp = get_or row stamp_place 0;
      first = get_or row first_place 0;
      last = get_or row last_place 0;
      steps = get_or row steps_place 0;
      reply = value_of (get_or row tag_place 0) (get_or row number_place 0);
    }

-- the row of a manager that has ended
abbrev pub row_of : Ended → List ℕ
row_of e =
    e.stamp
    ∷ number_of_ending e.ending
    ∷ e.writes
    ∷ e.first
    ∷ e.last
    ∷ e.steps
    ∷ tag e.reply
    ∷ number_in e.reply
    ∷ []

-- where the histories of level l stand, and history i of them
abbrev pub level_place : ℕ → ℕ
level_place l = level_words * l

abbrev pub history_place : ℕ → ℕ → ℕ
history_place l i = level_place l + row_words * i

-- the first n histories of level l
unfoldable pub histories_at : List ℕ → ℕ → ℕ → List History
histories_at ws l n = map history_of_row (rows_at ws (level_place l) row_words n)

-- those of each level, as many as are counted
abbrev pub ended_in : List ℕ → List ℕ → ℕ → List History
ended_in ws counts l = histories_at ws l (get_or counts l 0)

-- "in stamp order"
abbrev pub InOrder : List History → Type 0
InOrder hs = rising_from (λ h. h.stamp) 0 hs ≡ true

-- the history of a manager that has ended
abbrev pub history_of : Ended → History
history_of e =
    record {
      ending = e.ending;
      writes = e.writes;
      stamp = e.stamp;
      first = e.first;
      last = e.last;
      steps = e.steps;
      reply = e.reply;
    }

-- the history of the manager of a fork with this stamp
abbrev pub HistoryIs : ℕ → Manager → Ended → Type 0
HistoryIs stamp m e = (x : Fork) → x.stamp ≡ stamp → history_of e ≡ model.history_of x m

-- there are words for the histories of each level, and a number for each of how many it has
pub record HistoriesReady (ws counts : List ℕ) : Type 0 where
  pub room : history_words ≤ length ws
  pub levels : max_levels ≤ length counts
  pub counted : (l : ℕ) → l < max_levels → get_or counts l 0 ≤ max_managers

-- level l has n histories in order
pub record HistoriesThere (ws : List ℕ) (l n : ℕ) : Type 0 where
  pub room : history_words ≤ length ws
  pub level : l < max_levels
  pub count : n ≤ max_managers
  pub rises : InOrder (histories_at ws l n)

-- level l has `count` histories in order, and room for one more; the manager has ended
pub record HistoryRoom (ws : List ℕ) (l count : ℕ) (e : Ended) : Type 0 where
  pub room : history_words ≤ length ws
  pub level : l < max_levels
  pub more : count < max_managers
  pub rises : InOrder (histories_at ws l count)
  pub ended : is_running e.ending ≡ false

-- level l has one row more, put in by its key, and no other word is touched. So it has one history more, in stamp order, and those of
-- other levels stay
pub record Added (ws ws' : List ℕ) (l count : ℕ) (e : Ended) : Type 0 where
  pub rows : rows_at ws' (level_place l) row_words (count + 1) ≡ inserted key_of (row_of e) (rows_at ws (level_place l) row_words count)
  pub histories : histories_at ws' l (count + 1) ≡ inserted (λ h. h.stamp) (history_of e) (histories_at ws l count)
  pub rises : InOrder (histories_at ws' l (count + 1))
  pub others : (l' n : ℕ) → (l' ≡ l → ⊥) → n ≤ max_managers → histories_at ws' l' n ≡ histories_at ws l' n
  pub outside : Outside ws ws' (level_place l) (level_place l + row_words * (count + 1))
