-- The numbers that documents 01 and 02 fix for managers. Assumes nothing.
use Rattle.std.specs.Prelude.{ℕ, ◌^◌}

-- "a stack of at most 8 frames"
abbrev pub max_frames : ℕ
max_frames = 8

-- "A manager makes at most 256 script steps and 16 writes that take effect"
abbrev pub max_script_steps : ℕ
max_script_steps = 256

abbrev pub max_writes : ℕ
max_writes = 16

-- "Child k (1 to 15)"
abbrev pub max_forks : ℕ
max_forks = 15

-- "ADD gives NIL when the sum passes 4,294,967,295; at that value it is still a number"
abbrev pub greatest_number : ℕ
greatest_number = 4294967295

-- how many write stamps there are: a result record has two bytes for one, "8 and 9 first write stamp .., 10 and 11 last"
abbrev pub write_stamps : ℕ
write_stamps = 2 ^ 16
