-- What the words answer to a READ, and to the question whether an object is there. Assumes nothing.
use Rattle.std.specs.Prelude.{ℕ, ◌≤◌, ◌<◌, ◌≡◌, Bool, true, not, cond, ◌||◌, List, Result, Ok, Err, eqb, ltb, length}
use Rattle.session.specs.Limits.{fields, max_objects, max_numbers}
use Rattle.session.specs.Parts.{object_count}
use Rattle.session.specs.Meaning.{Numbered, level_of}
use Rattle.session.specs.Value.{Value}
use Rattle.std.specs.Prelude.{None}
use Rattle.fields.specs.Limits.{field_words}
use Rattle.fields.specs.Fields.{field_at, script_in, known_at}
use Rattle.fields.specs.declared.reads.Missing.{Missing}
use Rattle.scripts.specs.Existence.{existence, own_script, script_seen}

-- the script of an object as long as no existence was written
abbrev pub own_script_of : ℕ → ℕ
own_script_of o = cond (ltb o max_objects) (own_script o) 0

-- a script that is not at hand
abbrev pub unknown : ℕ
unknown = 255

-- the script of an object, of the level (`own`) or not, by the words, in a run where no existence was written (`unchanged`) or some was
unfoldable pub script_found : List ℕ → List ℕ → Bool → Bool → ℕ → ℕ
script_found current cache own unchanged o =
    cond unchanged (own_script_of o) (cond own (script_in current o) (cond (known_at cache o existence) (script_in cache o) unknown))

-- a value that is not at hand
abbrev pub lacking : ℕ → Missing
lacking k = record { value = k }

-- what the code answers of a script: one that is not at hand is to be asked for by the object's existence
abbrev pub script_told : ℕ → Result ℕ Missing
script_told script = cond (eqb script unknown) (Err (lacking existence)) (Ok script)

-- what is found of a field: of an object of the level what it holds, of another what was read; NIL where the object is not there
unfoldable pub found_of : List ℕ → List ℕ → Bool → Bool → ℕ → ℕ → Result Value Missing
found_of current cache own unchanged o k =
    let script = script_found current cache own unchanged o in
    cond (eqb script unknown)
    (Err (lacking existence))
    (cond (eqb script 0)
    (Ok None)
    (cond own (Ok (field_at current o k)) (cond (known_at cache o k) (Ok (field_at cache o k)) (Err (lacking k)))))

-- the scripts in words are those of objects of the session, or none
abbrev pub Scripted : List ℕ → List ℕ → Type 0
Scripted s ws = (o : ℕ) → o < max_numbers → script_in ws o ≤ object_count s

abbrev pub Small : List ℕ → Type 0
Small ws = (o : ℕ) → o < max_numbers → script_in ws o ≤ max_objects

-- words for fields and for what was read, of an object's number
pub record Findable (current cache : List ℕ) (o : ℕ) : Type 0 where
  pub fields_there : field_words ≤ length current
  pub cache_there : field_words ≤ length cache
  pub object : o < max_numbers
  pub current_small : Small current
  pub cache_small : Small cache

-- is the object of the level, or is every object taken as such
abbrev pub is_own : List ℕ → Bool → ℕ → ℕ → Bool
is_own s all level o = all || eqb (level_of s o) level

-- what the words say of a field. Where the object is of the level, or every object is shown, it is what the field holds; of any other object it is
-- what was read before
abbrev pub shown_in : List ℕ → List ℕ → List ℕ → Bool → ℕ → ℕ → ℕ → Value
shown_in s current cache all level o k = cond (is_own s all level o) (field_at current o k) (field_at cache o k)

-- whether they say it, so that a READ of it need not pause
abbrev pub is_available : List ℕ → List ℕ → Bool → ℕ → ℕ → ℕ → Bool
is_available s cache all level o k = is_own s all level o || known_at cache o k

-- whether they say whether the object is there
abbrev pub is_seen : List ℕ → List ℕ → List ℕ → Bool → Bool → ℕ → ℕ → Bool
is_seen s current cache all unchanged level o = not (eqb (script_found current cache (is_own s all level o) unchanged o) unknown)

-- `read` gives what the words say of fields and scripts, wherever they say it
pub record Agrees (s current cache : List ℕ) (all unchanged : Bool) (level : ℕ) (read : ℕ → ℕ → Value) : Type 0 where
  pub shown : (o k : ℕ) → Numbered s o → k < fields → is_available s cache all level o k ≡ true → read o k ≡ shown_in s current cache all level o k
  pub existing : (o : ℕ) → Numbered s o → is_seen s current cache all unchanged level o ≡ true → script_seen read o ≡ script_found current cache (is_own s all level o) unchanged o
