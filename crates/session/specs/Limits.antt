-- The numbers that document 01 fixes. Assumes nothing.
use Rattle.std.specs.Prelude.{ℕ, ◌+◌, ◌*◌}

-- "A record is 16 bytes"
abbrev pub record_bytes : ℕ
record_bytes = 16

-- question 3
abbrev pub max_levels : ℕ
max_levels = 8

abbrev pub max_objects : ℕ
max_objects = 32

abbrev pub max_steps : ℕ
max_steps = 256

-- question 1: the levels, objects and steps of question 3, and the root message
abbrev pub max_records : ℕ
max_records = max_levels + max_objects + max_steps + 1

-- question 7: "at most 16 steps a method"
abbrev pub max_method : ℕ
max_method = 16

-- "message name (0 to 15)"
abbrev pub names : ℕ
names = 16

-- "registers 0 to 3", "three 32-bit fields"
abbrev pub registers : ℕ
registers = 4

abbrev pub fields : ℕ
fields = 3

-- document 02, job 7: "Level n owns numbers 32 + 4n to 35 + 4n": the objects that a level can make
abbrev pub made_objects : ℕ
made_objects = 4

-- the numbers that objects can have: the session's, and those that the levels can make
abbrev pub max_numbers : ℕ
max_numbers = max_objects + made_objects * max_levels

-- the methods that a session can have, one for each object and name
abbrev pub max_methods : ℕ
max_methods = max_objects * names
