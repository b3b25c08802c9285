-- What a CREATE or WITHDRAW of the code does to a core. No meaning rests on these. Assumes nothing.
use Rattle.std.specs.Prelude.{ℕ, suc, ◌+◌, ◌≤◌, ◌<◌, ◌≡◌, true, false, Option, Some, None, List, [], ◌∷◌, length}
use Rattle.session.specs.Meaning.{Numbered, level_of}
use Rattle.session.specs.Program.{program_of}
use Rattle.session.specs.Value.{Value}
use Rattle.session.specs.declared.Step.{Step}
use Rattle.session.specs.declared.Step.TheVariants as op
use Rattle.scripts.specs.Existence.{existence, making, withdrawn}
use Rattle.scripts.specs.Limits.{max_script_steps, max_writes}
use Rattle.scripts.specs.Effect.{Written}
use Rattle.scripts.specs.Effect as effect
use Rattle.scripts.specs.State as defined
use Rattle.scripts.specs.Manager.{charged, operated, stepped}
use Rattle.scripts.specs.Valid.{Leveled}
use Rattle.fields.specs.Limits.{field_words}
use Rattle.fields.specs.Fields.{field_at}
use Rattle.fields.specs.Reads.{Scripted}
use Rattle.frames.specs.Frames.{frame_of}
use Rattle.cores.specs.Core.{standing, effect_of, comes_to, is_over, is_asking, is_done, Sits}
use Rattle.cores.specs.Moves.{Makes, passed, counting}
use Rattle.cores.specs.declared.Core.{Core}
use Rattle.changes.specs.declared.Change.{Change}
use Rattle.changes.specs.declared.Change.TheVariants.{Create, Withdraw}
use Rattle.changes.specs.declared.Changed.{Changed}
use Rattle.cores.specs.declared.Effect.TheVariants as outside

-- is a step a CREATE or WITHDRAW
abbrev pub IsChange : Step → Type 0
IsChange op.End = ⊥
IsChange (op.Set a n) = ⊥
IsChange (op.Add a b) = ⊥
IsChange (op.Jump a b) = ⊥
IsChange (op.Read a b) = ⊥
IsChange (op.Write a b) = ⊥
IsChange (op.Send a b c) = ⊥
IsChange (op.Quit a) = ⊥
IsChange (op.Create a) = Unit
IsChange op.Withdraw = Unit

-- what a change does outside its manager, whose top frame was f before
abbrev pub change_of : defined.Frame → Option Change → effect.Effect
change_of f None = effect.Nothing
change_of f (Some (Create o w)) = effect.Write (making o f.r1 f.r2 f.r3 w)
change_of f (Some (Withdraw o)) = effect.Write (record { object = o; field = existence; value = withdrawn } ∷ [])

-- a core that runs, with what a CREATE or WITHDRAW needs
pub record Changeable (s masks current : List ℕ) (c : Core) : Type 0 where
  pub leveled : Leveled s masks
  pub fields_there : field_words ≤ length current
  pub scripted : Scripted s current
  pub sits : Sits s c
  pub internal : c.effect ≡ outside.Nothing
  pub few : c.steps < max_script_steps

-- `read` gives the existence that the words say, of the objects of a level
abbrev pub OwnExistence : List ℕ → List ℕ → ℕ → (ℕ → ℕ → Value) → Type 0
OwnExistence s current level read = (o : ℕ) → Numbered s o → level_of s o ≡ level → read o existence ≡ field_at current o existence

-- what would be too much to write ends the manager
abbrev pub Spends : Core → Core → Type 0
Spends c r =
    (g : defined.Manager → defined.Frame) (ws : defined.Manager → List Written) → ((m : defined.Manager) → max_writes < c.writes + length (ws m)) → Makes (λ _. Unit) c r (λ m. charged m (passed m) (g m) (ws m))

-- how a core stands after a change
pub record Stood (s : List ℕ) (c r : Core) : Type 0 where
  pub level_is : r.level ≡ c.level
  pub first_is : r.first ≡ c.first
  pub forks_are : r.forks ≡ c.forks
  pub steps_are : r.steps ≡ c.steps + 1
  pub tall : is_over r.effect ≡ false → r.height ≡ c.height
  pub lower : r.height ≤ c.height
  pub flat : (r.height ≡ 0 → ⊥) → r.height ≡ c.height
  pub asks : is_asking r.effect ≡ false
  pub done : is_done r.effect ≡ true
  pub quiet : effect_of r.effect ≡ effect.Nothing
  pub sits : Sits s r

-- a CREATE or WITHDRAW is made, but for the pops of its step
pub record ChangeMade (s current : List ℕ) (i : Step) (c : Core) (r : Changed) : Type 0 where
  pub is : (read : ℕ → ℕ → Value) → OwnExistence s current c.level read → (gs : List defined.Frame) → suc (length gs) ≡ c.height → ((comes_to (program_of s) r.core gs).manager ≡ (counting (program_of s) (operated (program_of s) read (standing c gs) (passed (standing c gs)) i)).manager) × (change_of (frame_of c.top) r.change ≡ (operated (program_of s) read (standing c gs) (passed (standing c gs)) i).effect)
  pub stood : Stood s c r.core

-- the next step of a core, a CREATE or WITHDRAW, is made, but for the pops
pub record StepChanged (s current : List ℕ) (c : Core) (r : Changed) : Type 0 where
  pub is : (read : ℕ → ℕ → Value) → OwnExistence s current c.level read → (gs : List defined.Frame) → suc (length gs) ≡ c.height → ((comes_to (program_of s) r.core gs).manager ≡ (stepped (program_of s) read (standing c gs)).manager) × (change_of (frame_of c.top) r.change ≡ (stepped (program_of s) read (standing c gs)).effect)
  pub stood : Stood s c r.core
