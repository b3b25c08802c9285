-- The numbers that documents 01 and 02 fix for runs. Assumes nothing.
use Rattle.std.specs.Prelude.{ℕ, ◌+◌, ◌*◌}
use Rattle.session.specs.Limits.{record_bytes, max_levels, max_numbers}
use Rattle.scripts.specs.Limits.{max_script_steps, max_writes}

-- "A level keeps the 32 forks of smallest stamp"
abbrev pub max_managers : ℕ
max_managers = 32

-- "k × 16^(7−d)": the digits of a fork stamp, of 4 bits each, after the first
abbrev pub stamp_digits : ℕ
stamp_digits = 7

-- question 10: two numbers for each write of each manager
abbrev pub work_numbers : ℕ
work_numbers = max_levels * max_managers * max_writes * 2

-- question 11: a record for each number of an object, each manager and the reply; "question 11 wants 5,136 bytes" (document 02, job 7)
abbrev pub result_bytes : ℕ
result_bytes = record_bytes * (max_numbers + max_levels * max_managers + 1)

-- document 02, job 3: "27 columns and a line feed each"
abbrev pub line_bytes : ℕ
line_bytes = 27 + 1

-- question 16: a line for each manager, the total and each level
abbrev pub page_bytes : ℕ
page_bytes = line_bytes * (max_levels * max_managers + 1 + max_levels)

-- a plain run is over within so many scheduler steps: a start and the script steps of each manager
abbrev pub max_schedule : ℕ
max_schedule = max_levels * max_managers * (1 + max_script_steps)
