-- What an operation of the code makes of a core, and what it waits for. No meaning rests on these. Assumes nothing.
-- Laws (`proofs/Laws/Operations`): each operation of the code is one of the definitions.
use Rattle.std.specs.Prelude.{ℕ, suc, ◌+◌, ◌≤◌, ◌<◌, ◌≡◌, Bool, true, false, cond, List, Result, Ok, Err, eqb, length}
use Rattle.dominance.specs.Table.{dominates}
use Rattle.session.specs.Parts.{level_count, masks_of}
use Rattle.session.specs.Meaning.{level_of}
use Rattle.session.specs.Program.{program_of}
use Rattle.session.specs.Value.{Value}
use Rattle.session.specs.declared.Step.{Step}
use Rattle.session.specs.declared.Step.TheVariants as op
use Rattle.fates.specs.Filter.{fate_of}
use Rattle.fates.specs.declared.Fate.{Fate}
use Rattle.fates.specs.declared.Fate.TheVariants as fate
use Rattle.scripts.specs.Existence.{existence}
use Rattle.scripts.specs.Limits.{max_script_steps}
use Rattle.scripts.specs.State as defined
use Rattle.scripts.specs.Manager.{is_end, next_step, operated, stepped}
use Rattle.scripts.specs.Valid.{Leveled}
use Rattle.fields.specs.Limits.{field_words}
use Rattle.fields.specs.Reads.{unknown, script_found, found_of, Scripted, is_own, Agrees}
use Rattle.fields.specs.declared.reads.Missing.{Missing}
use Rattle.frames.specs.Frames.{frame_of}
use Rattle.cores.specs.Core.{standing, comes_to, is_over, is_asking, Present, Sits}
use Rattle.cores.specs.declared.Core.{Core}
use Rattle.cores.specs.declared.Effect.{Effect}
use Rattle.cores.specs.declared.Effect.TheVariants.{Nothing, End, Write, Read, Change, Fork, Call, Pop}
use Rattle.cores.specs.Moves.{passed, counting, causing, ending_as}

-- a core that runs, with what its next step may need: an accepted session, its level table, words for its fields and for what was read
pub record Operable (s masks current cache : List ℕ) (c : Core) : Type 0 where
  pub leveled : Leveled s masks
  pub fields_there : field_words ≤ length current
  pub cache_there : field_words ≤ length cache
  pub current_scripted : Scripted s current
  pub cache_scripted : Scripted s cache
  pub sits : Sits s c
  pub internal : c.effect ≡ Nothing
  pub few : c.steps < max_script_steps

-- what a step waits for: nothing, a value of an object, or that a CREATE or WITHDRAW is made
pub data Pause : Type 0 where
  none : Pause
  on : ℕ → ℕ → Pause
  change : Pause

abbrev pub is_pause : Pause → Bool
is_pause none = false
is_pause (on o k) = true
is_pause change = true

-- a READ of a field of object o, by what is found
abbrev pub missing : ℕ → Result Value Missing → Pause
missing o (Err m) = on o m.value
missing o (Ok v) = none

-- a SEND to object o, by what becomes of its message: a frame needs its script
abbrev pub unseen : ℕ → ℕ → Fate → Pause
unseen o script fate.Call = cond (eqb script unknown) (on o existence) none
unseen o script fate.Discard = cond (eqb script unknown) (on o existence) none
unseen o script fate.Block = none
unseen o script (fate.Fork u) = none

-- does the reply to the message return
abbrev pub is_call : Fate → Bool
is_call fate.Call = true
is_call fate.Discard = false
is_call fate.Block = false
is_call (fate.Fork u) = false

-- what a step of a manager at a level waits for, in a frame of object o: `found` and `script` are what the words say
abbrev pub waits_for : (ℕ → ℕ → Result Value Missing) → (ℕ → ℕ) → (ℕ → ℕ → Fate) → ℕ → Step → Pause
waits_for found script becomes o op.End = none
waits_for found script becomes o (op.Set a n) = none
waits_for found script becomes o (op.Add a b) = none
waits_for found script becomes o (op.Jump a b) = none
waits_for found script becomes o (op.Read a b) = missing o (found o b)
waits_for found script becomes o (op.Write a b) = none
waits_for found script becomes o (op.Send a b c) = unseen c (script c) (becomes o c)
waits_for found script becomes o (op.Quit a) = none
waits_for found script becomes o (op.Create a) = change
waits_for found script becomes o op.Withdraw = change

unfoldable pub pause_on : List ℕ → List ℕ → List ℕ → Bool → Bool → ℕ → ℕ → Step → Pause
pause_on s current cache all unchanged level o i =
    waits_for
    (λ x k. found_of current cache (is_own s all level x) unchanged x k)
    (λ x. script_found current cache (is_own s all level x) unchanged x)
    (λ x y. fate_of (level_count s) (dominates (masks_of s)) level (level_of s x) (level_of s y)) o i

-- what the next step of a core waits for
abbrev pub pause_of : List ℕ → List ℕ → List ℕ → Bool → Bool → Core → Pause
pause_of s current cache all unchanged c =
    pause_on s current cache all unchanged c.level c.top.object (next_step (program_of s) (frame_of c.top))

-- how a core asks for it
abbrev pub asking : Effect → Pause
asking Nothing = none
asking End = none
asking (Write object field value) = none
asking (Read object field) = on object field
asking Change = change
asking (Fork level object name parameter) = none
asking (Call object way parameter) = none
asking (Pop reply) = none

-- the next script step of a core is made
pub record StepMade (s current cache : List ℕ) (all unchanged : Bool) (c r : Core) : Type 0 where
  pub is : (read : ℕ → ℕ → Value) → Agrees s current cache all unchanged c.level read → (gs : List defined.Frame) → suc (length gs) ≡ c.height → comes_to (program_of s) r gs ≡ stepped (program_of s) read (standing c gs)
  pub steps_are : r.steps ≡ c.steps + 1

-- or it waits, and is not made
abbrev pub Asked : Core → Core → Pause → Type 0
Asked c r p = (r ≡ causing c r.effect) × (p ≡ asking r.effect)

-- what the next step of a core makes of it
pub record Operated (s current cache : List ℕ) (all unchanged : Bool) (c r : Core) : Type 0 where
  pub steps : is_end (next_step (program_of s) (frame_of c.top)) ≡ false → is_asking r.effect ≡ false → StepMade s current cache all unchanged c r
  -- at its script's end the top is to pop: no script step is made
  pub ends : is_end (next_step (program_of s) (frame_of c.top)) ≡ true → r ≡ ending_as c
  pub asks : is_asking r.effect ≡ true → Asked c r (pause_of s current cache all unchanged c)
  pub level_is : r.level ≡ c.level
  pub first_is : r.first ≡ c.first
  pub tall : is_over r.effect ≡ false → r.height ≡ c.height
  pub lower : r.height ≤ c.height
  pub flat : (r.height ≡ 0 → ⊥) → r.height ≡ c.height
  pub sits : Sits s r
  pub present : Present s r.effect

-- an operation is made, as one script step, with what the words at hand say; or it waits
pub record OperationMade (s current cache : List ℕ) (all unchanged : Bool) (i : Step) (c r : Core) : Type 0 where
  pub is : is_asking r.effect ≡ false → (read : ℕ → ℕ → Value) → Agrees s current cache all unchanged c.level read → (gs : List defined.Frame) → suc (length gs) ≡ c.height → comes_to (program_of s) r gs ≡ counting (program_of s) (operated (program_of s) read (standing c gs) (passed (standing c gs)) i)
  pub asks : is_asking r.effect ≡ true → Asked c r (pause_on s current cache all unchanged c.level c.top.object i)
  pub level_is : r.level ≡ c.level
  pub first_is : r.first ≡ c.first
  pub steps_are : is_asking r.effect ≡ false → r.steps ≡ c.steps + 1
  pub tall : is_over r.effect ≡ false → r.height ≡ c.height
  pub lower : r.height ≤ c.height
  pub flat : (r.height ≡ 0 → ⊥) → r.height ≡ c.height
  pub sits : Sits s r
  pub present : Present s r.effect
