-- What an accepted session says. Assumes nothing.
-- Laws (`proofs/Laws/Accepted`): the levels of an accepted session are a join semilattice (`levels_join`); levels, objects, names,
-- registers, fields, jump and send targets are within their bounds, and a method has at most 16 steps (`level_present`, `root_present`,
-- `root_named`, `step_fits`, `method_short`). `proofs/Laws/Contents` says at which records objects and the root message stand, `contents`
-- `Laws/Methods` at which the steps of a method do.
use Rattle.std.specs.Prelude.{ℕ, ◌+◌, ◌-◌, ◌*◌, ◌/◌, ◌≡◌, List, [], map, true, cond, ◌&&◌, eqb, ltb, get_or}
use Rattle.session.specs.Limits.{max_objects, made_objects}
use Rattle.lists.specs.Lists.{select}
use Rattle.session.specs.Record.{level_byte, field_in, object_of, name_of, step_of, parameter_of}
use Rattle.session.specs.Parts.{object_records, step_records, level_count, object_count, root_record}
use Rattle.session.specs.Questions.{is_number}
use Rattle.session.specs.declared.Message.{Message}
use Rattle.session.specs.Value.{Value}
use Rattle.session.specs.declared.Step.{Step}
use Rattle.session.specs.declared.Step.TheVariants.{End}

-- the level, of so many, that owns the number of a made object: "Level n owns numbers 32 + 4n to 35 + 4n". Nothing is sent to a number of a
-- level that is not present; it is counted to level 0
unfoldable pub owner_of : ℕ → ℕ → ℕ
owner_of levels object =
    let l = (object - max_objects) / made_objects in
    cond (ltb l levels) l 0

-- the number that a level gives to the object that it makes after so many: "handed out upward"
abbrev pub made_number : ℕ → ℕ → ℕ
made_number level made = max_objects + made_objects * level + made

-- messages of the session can be sent to this number
abbrev pub Numbered : List ℕ → ℕ → Type 0
Numbered s n = is_number (level_count s) (object_count s) n ≡ true

-- an object's level, by its number: of the session's objects it is in their records
unfoldable pub level_of : List ℕ → ℕ → ℕ
level_of s object =
    cond (ltb object (object_count s)) (level_byte (get_or (object_records s) object [])) (owner_of (level_count s) object)

-- what a field of an object holds at first
abbrev pub field_of : List ℕ → ℕ → ℕ → Value
field_of s object k = field_in (get_or (object_records s) object []) k

-- the steps of the method (object, name). "A name without steps is an empty method"
unfoldable pub method_of : List ℕ → ℕ → ℕ → List Step
method_of s object name =
    map step_of (select (λ rec. eqb (object_of rec) object && eqb (name_of rec) name) (step_records s))

-- a method's step, counted from 0, or the script's end
abbrev pub step_at : List ℕ → ℕ → ℕ → ℕ → Step
step_at s object name j = get_or (method_of s object name) j End

-- the root message
abbrev pub root_object : List ℕ → ℕ
root_object s = object_of (root_record s)

abbrev pub root_name : List ℕ → ℕ
root_name s = name_of (root_record s)

abbrev pub root_parameter : List ℕ → Value
root_parameter s = parameter_of (root_record s)

abbrev pub root_of : List ℕ → Message
root_of s = record { object = root_object s; name = root_name s; parameter = root_parameter s }
