-- Objects made and withdrawn (document 02, job 7): in every state that scheduler steps lead to, and in what a reader is shown. The proofs are
-- in proofs/Existence.antt. Assumes nothing.
use Rattle.std.specs.Prelude.{ℕ, ◌*◌, ◌≤◌, ◌<◌, ◌≡◌, Bool, true, false, cond, ◌&&◌, List, [], ◌∷◌, ◌++◌, ◌⊎◌, eqb, length}
use Rattle.session.specs.Limits.{made_objects}
use Rattle.lists.specs.Lists.{tab}
use Rattle.session.specs.Record.{Record, byte_of}
use Rattle.session.specs.Parts.{of_kind, level_count, object_count}
use Rattle.session.specs.Meaning.{made_number}
use Rattle.session.specs.Program.{Program, program_of}
use Rattle.scripts.specs.Limits.{max_writes}
use Rattle.scripts.specs.Existence.{existence, is_there}
use Rattle.model.specs.Limits.{max_managers}
use Rattle.model.specs.Level.{Version, Level, started_count}
use Rattle.model.specs.Step.{State, level_at, step_at}
use Rattle.model.specs.Schedule.{initial_state, Leads}
use Rattle.model.specs.Result.{Result, object_record, numbers_of, bytes_of}
use Rattle.theorems.specs.Demands.{IsAccepted}

-- the state after scheduler steps at these levels, one after the other, whatever questions 12 to 14 say of them
unfoldable pub stepped_at : Program → List ℕ → State → State
stepped_at p [] st = st
stepped_at p (l ∷ ls) st = stepped_at p ls (step_at p l st)

-- Allowed steps lead to this state too. So what holds below after any steps holds at every step of a run
abbrev pub AllowedSteps : Type 0
AllowedSteps = (p : Program) (a : State) (ls : List ℕ) (b : State) → Leads p a ls b → stepped_at p ls a ≡ b

-- a level of session s after any scheduler steps from the session as read in
abbrev pub level_after : List ℕ → List ℕ → ℕ → Level
level_after s ls l = level_at (stepped_at (program_of s) ls (initial_state s)) l

-- a version that makes an object: it says that the object is there
abbrev pub is_making : Version → Bool
is_making w = eqb w.field existence && is_there w.value

-- the numbers of the objects that versions make, oldest first. Versions stand newest first
unfoldable pub numbers_made : List Version → List ℕ
numbers_made [] = []
numbers_made (w ∷ ws) = numbers_made ws ++ cond (is_making w) (w.object ∷ []) []

-- "Level n owns numbers 32 + 4n to 35 + 4n, handed out upward", "a number is never used twice": the objects that a level has made have the
-- first of its numbers, each once and in their order, and they are four at most
abbrev pub NumbersHandedOut : Type 0
NumbersHandedOut =
    (s : List ℕ) → IsAccepted s
    → (ls : List ℕ) (l : ℕ) → l < level_count s
    → (j : ℕ)
    × ((j ≤ made_objects)
    × (numbers_made (level_after s ls l).versions ≡ tab j (made_number l)))

-- No two objects have the same number: a level's numbers are of objects at that level, no two levels share a number, and no object of the
-- session has one
pub record NumbersApart : Type 0 where
  pub owned : (s : List ℕ) → IsAccepted s → (l i : ℕ) → l < level_count s → i < made_objects → (program_of s).level (made_number l i) ≡ l
  pub apart : (k l i j : ℕ) → i < made_objects → j < made_objects → made_number k i ≡ made_number l j → (k ≡ l) × (i ≡ j)
  pub beyond : (s : List ℕ) → IsAccepted s → (l i : ℕ) → object_count s ≤ made_number l i

-- "A CREATE that works counts as four writes, such a WITHDRAW as one", "Passing 16 is ending 2, and nothing is made, removed or added to the
-- count": each manager that started adds at most 16 versions, and at most 32 start, so the work slice has room for them
abbrev pub VersionsLimited : Type 0
VersionsLimited =
    (s : List ℕ) → IsAccepted s
    → (ls : List ℕ) (l : ℕ) → l < level_count s
    → (length (level_after s ls l).versions ≤ max_writes * started_count (level_after s ls l))
    × (started_count (level_after s ls l) ≤ max_managers)

-- x is one of these
abbrev pub Among : {A : Type 0} → A → List A → Type 0
Among x [] = ⊥
Among x (y ∷ ys) = (x ≡ y) ⊎ Among x ys

-- a record of kind 5 is that of an object that is there at the end, and whose level clearance c dominates
pub record RecordOf (p : Program) (r : Result) (c : ℕ) (rec : Record) : Type 0 where
  pub object : ℕ
  pub numbered : Among object (numbers_of p)
  pub there : is_there (r.field object existence) ≡ true
  pub dominated : p.dom c (p.level object) ≡ true
  pub is : rec ≡ object_record object (p.level object) (r.field object)

-- "[An object] withdrawn by the end is not shown": every record of kind 5 in the bytes of a result is such a record
abbrev pub ShownAreThere : Type 0
ShownAreThere =
    (p : Program) (rootLevel : ℕ) (r : Result) (c : ℕ) (rec : Record) → Among rec (of_kind 5 (bytes_of p rootLevel r c)) → RecordOf p r c rec

-- so none has the number of an object that is withdrawn by the end, or was never made
abbrev pub WithdrawnNotShown : Type 0
WithdrawnNotShown =
    (p : Program) (rootLevel : ℕ) (r : Result) (c : ℕ) (rec : Record) → Among rec (of_kind 5 (bytes_of p rootLevel r c))
    → is_there (r.field (byte_of rec 1) existence) ≡ false → ⊥

-- "Existing made [objects] are shown after the others": every number's object that is there, and whose level c dominates, has its record
abbrev pub ThereAreShown : Type 0
ThereAreShown =
    (p : Program) (rootLevel : ℕ) (r : Result) (c o : ℕ)
    → Among o (numbers_of p) → is_there (r.field o existence) ≡ true → p.dom c (p.level o) ≡ true
    → Among (object_record o (p.level o) (r.field o)) (of_kind 5 (bytes_of p rootLevel r c))
