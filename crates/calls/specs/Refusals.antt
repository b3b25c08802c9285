-- What the results of the entries tell: the documents' number and place of each refusal, and the count. Assumes nothing.
use Rattle.std.specs.Prelude.{ℕ, Result, Ok, Err}
use Rattle.session.specs.Questions.{number_of_question}
use Rattle.calls.specs.declared.Refusal.{Refusal}
use Rattle.calls.specs.declared.Refusal.TheVariants.{Session, Clearance, ShortWork, ShortResult, Absent, Idle, Blocked, Unended, ShortPage}

-- "An answer of no ends the call with the number shown and a place"
abbrev pub number_of_refusal : Refusal → ℕ
number_of_refusal (Session q) = number_of_question q
number_of_refusal Clearance = 9
number_of_refusal ShortWork = 10
number_of_refusal ShortResult = 11
number_of_refusal (Absent place) = 12
number_of_refusal (Idle place) = 13
number_of_refusal (Blocked place) = 14
number_of_refusal Unended = 15
number_of_refusal ShortPage = 16

-- that of a step for 12 to 14, "otherwise 0"
abbrev pub place_of_refusal : Refusal → ℕ
place_of_refusal (Session q) = 0
place_of_refusal Clearance = 0
place_of_refusal ShortWork = 0
place_of_refusal ShortResult = 0
place_of_refusal (Absent place) = place
place_of_refusal (Idle place) = place
place_of_refusal (Blocked place) = place
place_of_refusal Unended = 0
place_of_refusal ShortPage = 0

-- "All yes gives number 0, place 0 and, from a run, the count of result bytes written"; "a refused run gives count 0"
abbrev pub number_told : {T : Type 0} → Result T Refusal → ℕ
number_told (Ok x) = 0
number_told (Err r) = number_of_refusal r

abbrev pub place_told : {T : Type 0} → Result T Refusal → ℕ
place_told (Ok x) = 0
place_told (Err r) = place_of_refusal r

abbrev pub count_told : Result ℕ Refusal → ℕ
count_told (Ok count) = count
count_told (Err r) = 0
