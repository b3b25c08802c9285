-- The fields and existence of objects, and what of them a manager has read, kept in words. Assumes nothing.
-- Laws (`proofs/Laws/Fields`): a value is read back from its two words (`value_back`); one field set, remembered or forgotten leaves the
-- others (`field_set`, `field_remembered`, `field_forgotten`); all are filled (`fill_all`).
use Rattle.std.specs.Prelude.{ℕ, ◌+◌, ◌*◌, ◌≤◌, ◌<◌, ◌≡◌, Bool, true, false, not, cond, List, eqb, ltb, length, get_or, set}
use Rattle.session.specs.Limits.{max_objects, max_numbers}
use Rattle.session.specs.Parts.{object_count, masks_of}
use Rattle.session.specs.Questions.{verdict_of, Accepted}
use Rattle.session.specs.Program.{program_of}
use Rattle.session.specs.Value.{Value}
use Rattle.std.specs.Prelude.{None, Some}
use Rattle.scripts.specs.Value.{tag, number_in}
use Rattle.scripts.specs.Existence.{existence, own_script, initially}
use Rattle.fields.specs.Limits.{value_words, object_values, field_words}
use Rattle.lists.specs.Outside.{Outside}

-- a value in two words: "tag (1 number, 0 NIL)", and the number
abbrev pub value_of : ℕ → ℕ → Value
value_of tag n = cond (eqb tag 1) (Some n) None

-- where the two words of a field stand
abbrev pub field_place : ℕ → ℕ → ℕ
field_place o k = value_words * (object_values * o + k)

-- what field k of object o holds
unfoldable pub field_at : List ℕ → ℕ → ℕ → Value
field_at ws o k = value_of (get_or ws (field_place o k) 0) (get_or ws (field_place o k + 1) 0)

-- the script that an object's existence says: 0 where it is not there
abbrev pub script_in : List ℕ → ℕ → ℕ
script_in ws o = number_in (field_at ws o existence)

-- existence at first, by the number alone: below 32 it is one of the session's
abbrev pub existence_at_first : ℕ → Value
existence_at_first o = cond (ltb o max_objects) (Some (own_script o)) None

-- there are words for the fields of an accepted session, with its level table
pub record FieldsReady (s masks ws : List ℕ) : Type 0 where
  pub accepted : verdict_of s ≡ Accepted
  pub table : masks ≡ masks_of s
  pub room : field_words ≤ length ws

-- the words of field k of object o are there
pub record FieldThere (ws : List ℕ) (o k : ℕ) : Type 0 where
  pub room : field_words ≤ length ws
  pub object : o < max_numbers
  pub field : k < object_values

-- the words with the two of one field replaced by a tag and a number
abbrev pub stored_in : List ℕ → ℕ → ℕ → ℕ → ℕ → List ℕ
stored_in ws o k t n = set (set ws (field_place o k) t) (field_place o k + 1) n

-- one field's words are a tag and v's number, so that it holds v, and no other word is touched
pub record Stored (ws ws' : List ℕ) (o k t : ℕ) (v : Value) : Type 0 where
  pub words : ws' ≡ stored_in ws o k t (number_in v)
  pub set : field_at ws' o k ≡ v
  pub others : (o' k' : ℕ) → k' < object_values → (o' ≡ o → k' ≡ k → ⊥) → field_at ws' o' k' ≡ field_at ws o' k'
  pub outside : Outside ws ws' (field_place o k) (field_place o k + value_words)

-- one field gets v
abbrev pub FieldSet : List ℕ → List ℕ → ℕ → ℕ → Value → Type 0
FieldSet ws ws' o k v = Stored ws ws' o k (tag v) v

-- whether field k of object o is known. Words that keep what was read say so by their tag: 0 nothing yet, 1 a number, 2 NIL
abbrev pub known_at : List ℕ → ℕ → ℕ → Bool
known_at ws o k = not (eqb (get_or ws (field_place o k) 0) 0)

-- the tag of a value that was read
abbrev pub known_tag : Value → ℕ
known_tag None = 2
known_tag (Some n) = 1

-- one field is known to hold v, and the others are known as they were
pub record Remembered (ws ws' : List ℕ) (o k : ℕ) (v : Value) : Type 0 where
  pub field : Stored ws ws' o k (known_tag v) v
  pub known : known_at ws' o k ≡ true
  pub others : (o' k' : ℕ) → k' < object_values → (o' ≡ o → k' ≡ k → ⊥) → known_at ws' o' k' ≡ known_at ws o' k'

-- what was read of one field is forgotten, and the others are known, and hold what they held, as before
pub record Forgotten (ws ws' : List ℕ) (o k : ℕ) : Type 0 where
  pub words : ws' ≡ set ws (field_place o k) 0
  pub known : known_at ws' o k ≡ false
  pub others : (o' k' : ℕ) → k' < object_values → (o' ≡ o → k' ≡ k → ⊥) → (known_at ws' o' k' ≡ known_at ws o' k') × (field_at ws' o' k' ≡ field_at ws o' k')

-- the words of field k of object o are v's
abbrev pub WordsAre : List ℕ → ℕ → ℕ → Value → Type 0
WordsAre ws o k v = (get_or ws (field_place o k) 0 ≡ tag v) × (get_or ws (field_place o k + 1) 0 ≡ number_in v)

-- "Initial fields", and existence: of each object of the session, and no word behind them is touched
pub record Filled (s ws ws' : List ℕ) : Type 0 where
  pub words_are : (o k : ℕ) → o < object_count s → k < object_values → WordsAre ws' o k (initially (program_of s) o k)
  pub fields_are : (o k : ℕ) → o < object_count s → k < object_values → field_at ws' o k ≡ initially (program_of s) o k
  pub outside : Outside ws ws' 0 (field_place (object_count s) 0)
