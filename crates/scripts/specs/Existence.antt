-- Which objects there are, and whose methods they have (document 02, job 7). Assumes nothing.
-- Laws: what holds at first (`proofs/Laws/Existence`), and what a script step may write of existence (`Writes`).
use Rattle.std.specs.Prelude.{ℕ, suc, Bool, true, false, not, cond, List, [], ◌∷◌, eqb, ltb}
use Rattle.lists.specs.Range.{first}
use Rattle.session.specs.Limits.{fields, made_objects}
use Rattle.session.specs.Meaning.{made_number}
use Rattle.session.specs.Program.{Program}
use Rattle.session.specs.Value.{Value}
use Rattle.std.specs.Prelude.{None, Some}
use Rattle.scripts.specs.Value.{number_in}
use Rattle.scripts.specs.Effect.{Written}

-- "Existence is versioned like a field": it stands behind an object's fields. NIL says that the object was never made, 0 that it is
-- withdrawn, and any other number that it is there, with the methods of that script
abbrev pub existence : ℕ
existence = fields

-- the script that has an object's own methods. Script 0 has none
abbrev pub own_script : ℕ → ℕ
own_script object = suc object

-- at first the objects of the session are there, with their own methods
abbrev pub there_at_first : Program → ℕ → Value
there_at_first p o = cond (ltb o p.objects) (Some (own_script o)) None

-- "Initial fields are version 0", and so is existence
unfoldable pub initially : Program → ℕ → ℕ → Value
initially p o k = cond (ltb k fields) (p.field o k) (there_at_first p o)

-- the script of an object, by what a READ sees: 0 where it is not there
abbrev pub script_seen : (ℕ → ℕ → Value) → ℕ → ℕ
script_seen read object = number_in (read object existence)

-- an object of this existence is there
abbrev pub is_there : Value → Bool
is_there None = false
is_there (Some n) = not (eqb n 0)

-- was never made
abbrev pub is_unmade : Value → Bool
is_unmade None = true
is_unmade (Some n) = false

-- what a READ of a field sees, and that of an object that is not there: "READ gives NIL"
abbrev pub field_seen : (ℕ → ℕ → Value) → ℕ → ℕ → Value
field_seen read object k = cond (is_there (read object existence)) (read object k) None

-- how many of a level's numbers are used: they are "handed out upward", and "a number is never used twice"
unfoldable pub used_of : (ℕ → ℕ → Value) → ℕ → ℕ
used_of read level = first made_objects (λ i. is_unmade (read (made_number level i) existence))

-- what makes an object: its fields, and its existence, with a script
abbrev pub making : ℕ → Value → Value → Value → ℕ → List Written
making object v0 v1 v2 script =
    record { object = object; field = existence; value = Some script }
    ∷ record { object = object; field = 2; value = v2 }
    ∷ record { object = object; field = 1; value = v1 }
    ∷ record { object = object; field = 0; value = v0 }
    ∷ []

-- what withdraws it
abbrev pub withdrawn : Value
withdrawn = Some 0
