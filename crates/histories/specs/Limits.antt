-- How many words keep the histories of a run, and which is what. Assumes nothing.
use Rattle.std.specs.Prelude.{ℕ, ◌+◌, ◌*◌}
use Rattle.session.specs.Limits.{max_levels}
use Rattle.model.specs.Limits.{max_managers}

-- the words of a history: its fork stamp, which is the row's key, ending, writes, first and last write stamp, script steps, and the reply's tag and number
abbrev pub stamp_place : ℕ
stamp_place = 0

abbrev pub ending_place : ℕ
ending_place = 1

abbrev pub writes_place : ℕ
writes_place = 2

abbrev pub first_place : ℕ
first_place = 3

abbrev pub last_place : ℕ
last_place = 4

abbrev pub steps_place : ℕ
steps_place = 5

abbrev pub tag_place : ℕ
tag_place = 6

abbrev pub number_place : ℕ
number_place = 7

-- how many they are
abbrev pub row_words : ℕ
row_words = number_place + 1

-- the histories of one level, and of all
abbrev pub level_words : ℕ
level_words = row_words * max_managers

abbrev pub history_words : ℕ
history_words = level_words * max_levels
