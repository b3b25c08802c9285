-- How a timetable is refused. No meaning rests on these. Assumes nothing.
-- Laws, in `timetabled` (`Laws/Listed`): a timetable step by step (`ListLoop`).
use Rattle.std.specs.Prelude.{ℕ, Bool, true, false, Result, Ok, Err}
use Rattle.calls.specs.declared.Refusal.{Refusal}
use Rattle.calls.specs.declared.Refusal.TheVariants.{Absent, Idle, Blocked, Unended}
use Rattle.permits.specs.declared.Permit.{Permit}
use Rattle.permits.specs.declared.Permit.TheVariants as permit

-- the place of a step that is permitted; one that is not ends a run, at its place
abbrev pub refusal_at : Permit → ℕ → Result ℕ Refusal
refusal_at permit.Given place = Ok place
refusal_at permit.Absent place = Err (Absent place)
refusal_at permit.Idle place = Err (Idle place)
refusal_at permit.Blocked place = Err (Blocked place)

-- "At the timetable's end: have all managers ended?"
abbrev pub end_of : Bool → Result Unit Refusal
end_of true = Ok tt
end_of false = Err Unended
