-- What the words of a depth-first run represent. No meaning rests on these. Assumes nothing.
-- Laws: what a write and the end of a manager do to the words (`proofs/Laws/Representation`), and which they leave (`Spared`). What a step
-- reads is what the words say (`Reads`).
use Rattle.std.specs.Prelude.{ℕ, ◌+◌, ◌*◌, ◌≤◌, ◌<◌, ◌≡◌, true, List, length, get_or}
use Rattle.session.specs.Limits.{max_levels, max_objects, made_objects, max_numbers}
use Rattle.session.specs.Parts.{level_count, object_count, masks_of}
use Rattle.session.specs.Questions.{verdict_of, Accepted}
use Rattle.session.specs.Program.{program_of}
use Rattle.contents.specs.Reading.{index_of}
use Rattle.scripts.specs.Existence.{existence, initially}
use Rattle.scripts.specs.Limits.{max_forks}
use Rattle.fields.specs.Limits.{object_values, field_words}
use Rattle.lists.specs.Outside.{Outside}
use Rattle.fields.specs.Fields.{field_place, field_at}
use Rattle.fields.specs.Reads.{Scripted}
use Rattle.model.specs.Limits.{max_managers}
use Rattle.model.specs.DepthFirst.{Progress, tally_at, field_now}
use Rattle.histories.specs.Limits.{history_words}
use Rattle.histories.specs.Histories.{level_place, histories_at, InOrder}
use Rattle.progress.specs.declared.Progress as code
use Rattle.tallies.specs.Places.{next_place, waiting_place, changes_place, tally_numbers, unchanged}

-- an accepted session, its level table and its method index
pub record Tables (s masks index : List ℕ) : Type 0 where
  pub accepted : verdict_of s ≡ Accepted
  pub masks_are : masks ≡ masks_of s
  pub index_is : index ≡ index_of s

-- level l's words: how many managers have ended there, their histories, and the write stamp of the next one
pub record Counted (g : Progress) (ended tallies : List ℕ) (l : ℕ) : Type 0 where
  pub few : length (tally_at g l).ended ≤ max_managers
  pub count : get_or tallies l 0 ≡ length (tally_at g l).ended
  pub histories : histories_at ended l (length (tally_at g l).ended) ≡ (tally_at g l).ended
  pub rises : InOrder (tally_at g l).ended
  pub next : get_or tallies (next_place l) 0 ≡ (tally_at g l).next
  pub pace : (tally_at g l).next ≤ 1 + (max_forks + 1) * length (tally_at g l).ended

-- the words of a run of session s represent g
pub record RepresentedBy (s : List ℕ) (g : Progress) (current ended tallies : List ℕ) : Type 0 where
  pub fields_there : field_words ≤ length current
  pub histories_there : history_words ≤ length ended
  pub tallies_there : tally_numbers ≤ length tallies
  pub counts_few : (l : ℕ) → l < max_levels → get_or tallies l 0 ≤ max_managers
  pub levels : length g.levels ≡ level_count s
  -- the fields and the existence of every object
  pub field : (o k : ℕ) → o < max_numbers → k < object_values → field_at current o k ≡ field_now (program_of s) g o k
  pub scripted : Scripted s current
  -- as long as no existence was written, each is as it was at first
  pub existing : unchanged tallies ≡ true → (o : ℕ) → field_now (program_of s) g o existence ≡ initially (program_of s) o existence
  pub counted : (l : ℕ) → l < level_count s → Counted g ended tallies l

-- a run's words: its fields, its histories, its counts
abbrev pub Words : Type 0
Words = code.Progress

abbrev pub Represents : List ℕ → Progress → Words → Type 0
Represents s g w = RepresentedBy s g w.current w.ended w.tallies

-- some run's
abbrev pub RepresentsSome : List ℕ → Words → Type 0
RepresentsSome s w = (g : Progress) × Represents s g w

-- the words from a up to e are as they were
abbrev pub Untouched : List ℕ → List ℕ → ℕ → ℕ → Type 0
Untouched ws ws' a e = (k : ℕ) → a ≤ k → k < e → get_or ws' k 0 ≡ get_or ws k 0

-- of a run's words only the fields and the existence of objects that have numbers, the histories of present levels, what is counted of managers
-- that have ended and of next write stamps, and whether existence was written may have become others
pub record Spared (s : List ℕ) (w w' : Words) : Type 0 where
  pub current : Outside w.current w'.current 0 (field_place (max_objects + made_objects * level_count s) 0)
  pub unnumbered : Untouched w.current w'.current (field_place (object_count s) 0) (field_place max_objects 0)
  pub ended : Outside w.ended w'.ended 0 (level_place (level_count s))
  pub tallies : Outside w.tallies w'.tallies 0 tally_numbers
  pub uncounted : Untouched w.tallies w'.tallies (waiting_place 0) (changes_place 0)
