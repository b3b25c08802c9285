-- The parts of a session: its records of each kind, the level table, the steps of a method. Assumes nothing.
-- Laws, in `lists` (`Laws/Rising`): in a list along which a number never falls the elements below k stand first, then those at k. Records by
-- kind and steps by (object, name) are such lists: so it is known where each kind and each method stands (`proofs/Laws/Parts`).
use Rattle.std.specs.Prelude.{ℕ, ◌+◌, ◌*◌, ◌^◌, List, [], map, eqb, length, get_or}
use Rattle.lists.specs.Lists.{select}
use Rattle.session.specs.Record.{Record, records_of, kind_of, object_of, mask_of, name_of}

-- the records of one kind, in their order
unfoldable pub of_kind : ℕ → List ℕ → List Record
of_kind k s = select (λ rec. eqb (kind_of rec) k) (records_of s)

-- "Kind 1, level", "Kind 2, object", "Kind 3, script step", "Kind 4, root message"
abbrev pub level_records : List ℕ → List Record
level_records = of_kind 1

abbrev pub object_records : List ℕ → List Record
object_records = of_kind 2

abbrev pub step_records : List ℕ → List Record
step_records = of_kind 3

abbrev pub root_records : List ℕ → List Record
root_records = of_kind 4

-- how many levels, objects and steps there are
abbrev pub level_count : List ℕ → ℕ
level_count s = length (level_records s)

abbrev pub object_count : List ℕ → ℕ
object_count s = length (object_records s)

abbrev pub step_count : List ℕ → ℕ
step_count s = length (step_records s)

-- the level table
unfoldable pub masks_of : List ℕ → List ℕ
masks_of s = map mask_of (level_records s)

-- the pair (object, name) of a step, as one number that is ordered as the pairs are: by object, then by name
abbrev pub key : ℕ → ℕ → ℕ
key object name = 2 ^ 8 * object + name

-- the pair of a step
abbrev pub key_of : Record → ℕ
key_of rec = key (object_of rec) (name_of rec)

-- those of some steps that are of one method, in their order
abbrev pub of_method : ℕ → List Record → List Record
of_method k steps = select (λ rec. eqb (key_of rec) k) steps

-- the steps of the method (object, name)
unfoldable pub method_records : List ℕ → ℕ → List Record
method_records s k = of_method k (step_records s)

-- the root message's record
abbrev pub root_record : List ℕ → Record
root_record s = get_or (root_records s) 0 []
