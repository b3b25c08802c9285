-- How many words keep a value, and the fields of a run. Assumes nothing.
use Rattle.std.specs.Prelude.{ℕ, suc, ◌*◌}
use Rattle.session.specs.Limits.{max_numbers, fields}

-- a value: its tag and its number
abbrev pub value_words : ℕ
value_words = 2

-- what is kept of an object: its fields, and its existence
abbrev pub object_values : ℕ
object_values = suc fields

abbrev pub field_words : ℕ
field_words = value_words * (object_values * max_numbers)
