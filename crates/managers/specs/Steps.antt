-- The script steps that the code's manager makes in a row. No meaning rests on these. Assumes nothing.
-- How a row of steps is proved: the first loop of `advance` carries that the manager at its start leads to what the core comes to
-- (`proofs/Laws/Advance`: `Turning`); the second, which makes the late pops, leaves that as it is (`Lowering`). At its end what
-- the core comes to is the manager handed back (`Done`). One script step is the same with a limit of one more (`Leads`: `Leads-one`).
use Rattle.std.specs.Prelude.{ℕ, zero, suc, ◌+◌, ◌-◌, ◌≤◌, ◌<◌, ◌≡◌, Bool, true, false, ◌&&◌, ltb, leb, List, length, get_or, replicate}
use Rattle.session.specs.Parts.{level_count}
use Rattle.session.specs.Program.{Program, program_of}
use Rattle.session.specs.Value.{Value}
use Rattle.std.specs.Prelude.{None}
use Rattle.session.specs.declared.Message.{Message}
use Rattle.scripts.specs.Existence.{script_seen}
use Rattle.scripts.specs.Limits.{max_frames, max_script_steps, max_writes, max_forks, write_stamps}
use Rattle.scripts.specs.Ending.{is_running}
use Rattle.scripts.specs.Effect as effect
use Rattle.scripts.specs.State as defined
use Rattle.scripts.specs.Manager.{next_step, started, stepped}
use Rattle.scripts.specs.Valid.{Leveled}
use Rattle.contents.specs.Reading.{Indexed}
use Rattle.scripts.specs.declared.Ending.TheVariants.{Finished}
use Rattle.fields.specs.Limits.{field_words}
use Rattle.fields.specs.Reads.{Scripted, Agrees}
use Rattle.frames.specs.Frames.{frame_of, aside_of, no_waiting, top_from, below, Placed, Waits}
use Rattle.frames.specs.declared.Waiting.{Waiting}
use Rattle.cores.specs.Core.{comes_to, is_nothing, is_asking, is_done, Present, Sits}
use Rattle.cores.specs.Moves.{closed_as}
use Rattle.operations.specs.Operations.{is_pause, pause_of, asking}
use Rattle.changes.specs.Changes.{IsChange, change_of, OwnExistence}
use Rattle.cores.specs.declared.Core.{Core}
use Rattle.cores.specs.declared.Effect.TheVariants.{Nothing, End}
use Rattle.managers.specs.Manager.{manager_of, stepped_of}
use Rattle.managers.specs.declared.Manager.{Manager}
use Rattle.managers.specs.declared.Changed.{Changed}

-- so many script steps lead from one manager to another, and concern nobody else
unfoldable pub InternalSteps : Program → (ℕ → ℕ → Value) → ℕ → defined.Manager → defined.Manager → Type 0
InternalSteps p read zero m n = m ≡ n
InternalSteps p read (suc k) m n =
    (is_running m.ending ≡ true)
    × (((stepped p read m).effect ≡ effect.Nothing) × InternalSteps p read k (stepped p read m).manager n)

-- such steps led to what stands there; or they led to a manager whose next step does
pub data Leads (p : Program) (read : ℕ → ℕ → Value) (m : defined.Manager) (d : defined.Stepped) : Type 0 where
  internal : (k : ℕ) → InternalSteps p read k m d.manager → d.effect ≡ effect.Nothing → Leads p read m d
  last : (k : ℕ) (n : defined.Manager) → InternalSteps p read k m n → is_running n.ending ≡ true → stepped p read n ≡ d → Leads p read m d

-- how many frames can wait
abbrev pub waiting_frames : ℕ
waiting_frames = max_frames - 1

-- what stands where no manager has started
abbrev pub no_manager : Manager
no_manager =
    record {
      core = record {
        level = 0;
        first = 0;
        steps = 0;
        writes = 0;
        forks = 0;
        height = 0;
        ending = Finished;
        reply = None;
        top = top_from no_waiting 0 0;
        effect = Nothing;
      };
      waiting = replicate waiting_frames no_waiting;
    }

-- the manager as start and its steps leave it: one that runs has a frame that is not at its script's end, and steps left
pub record WellFormed (s : List ℕ) (m : Manager) : Type 0 where
  pub level : m.core.level < level_count s
  pub low : m.core.height ≤ max_frames
  pub made : m.core.steps ≤ max_script_steps
  pub wrote : m.core.writes ≤ max_writes
  pub forked : m.core.forks ≤ max_forks
  pub fits : m.core.first + max_forks + 1 < write_stamps
  pub top : Placed s m.core.top
  pub room : length m.waiting ≡ waiting_frames
  pub each : (k : ℕ) → k + 1 < m.core.height → Waits s (aside_of (get_or m.waiting k no_waiting))
  pub live : is_running m.core.ending ≡ true → 0 < m.core.height
  pub few : is_running m.core.ending ≡ true → m.core.steps < max_script_steps
  pub unfinished : is_running m.core.ending ≡ true → m.core.top.next < m.core.top.count

-- the manager of a message starts, whatever reads see, as long as they see its object with this script
abbrev pub Starts : List ℕ → ℕ → ℕ → Message → ℕ → Manager → Type 0
Starts s level stamp message script r =
    (read : ℕ → ℕ → Value) → script_seen read message.object ≡ script → manager_of r ≡ started (program_of s) read level stamp message

-- a manager that runs, with an accepted session, its level table and method index, words for its fields and for what was read
pub record Advanceable (s masks index current cache : List ℕ) (m : Manager) : Type 0 where
  pub indexed : Indexed s index
  pub leveled : Leveled s masks
  pub fields_there : field_words ≤ length current
  pub cache_there : field_words ≤ length cache
  pub current_scripted : Scripted s current
  pub cache_scripted : Scripted s cache
  pub held : WellFormed s m
  pub running : is_running m.core.ending ≡ true

-- does the next step wait
abbrev pub is_paused : List ℕ → List ℕ → List ℕ → Bool → Bool → Core → Bool
is_paused s current cache all unchanged c = is_pause (pause_of s current cache all unchanged c)

-- script steps in a row, up to one that concerns others or asks, the manager's end, or a limit
pub record Advanced (s current cache : List ℕ) (all unchanged : Bool) (limit : ℕ) (m r : Manager) : Type 0 where
  pub leads : (read : ℕ → ℕ → Value) → Agrees s current cache all unchanged m.core.level read → Leads (program_of s) read (manager_of m) (stepped_of r)
  pub held : WellFormed s r
  pub level_is : r.core.level ≡ m.core.level
  pub first_is : r.core.first ≡ m.core.first
  pub present : Present s r.core.effect
  pub done : is_done r.core.effect ≡ true
  -- a step waits only for what it needs, and the manager stands before it
  pub asks : is_asking r.core.effect ≡ true → (is_running r.core.ending ≡ true) × (pause_of s current cache all unchanged r.core ≡ asking r.core.effect)
  pub waits : is_asking r.core.effect ≡ true → r.core.steps < limit
  -- one that a step has ended has ended
  pub over : r.core.effect ≡ End → is_running r.core.ending ≡ false
  pub few : r.core.steps ≤ limit
  -- a manager that runs on stops at the limit alone, or by what its last step did
  pub at_limit : is_nothing r.core.effect ≡ true → is_running r.core.ending ≡ true → r.core.steps ≡ limit
  -- no step is made only where the first asks
  pub early : r.core.steps ≡ m.core.steps → is_paused s current cache all unchanged m.core ≡ true

-- one script step; or, before one that waits, none
pub record Stepped (s current cache : List ℕ) (all unchanged : Bool) (m r : Manager) : Type 0 where
  pub is : is_asking r.core.effect ≡ false → (read : ℕ → ℕ → Value) → Agrees s current cache all unchanged m.core.level read → stepped_of r ≡ stepped (program_of s) read (manager_of m)
  pub asks : is_asking r.core.effect ≡ true → (manager_of r ≡ manager_of m) × (pause_of s current cache all unchanged m.core ≡ asking r.core.effect)
  pub still : is_asking r.core.effect ≡ true → (is_running r.core.ending ≡ true) × (pause_of s current cache all unchanged r.core ≡ asking r.core.effect)
  pub held : WellFormed s r
  pub level_is : r.core.level ≡ m.core.level
  pub first_is : r.core.first ≡ m.core.first
  pub present : Present s r.core.effect
  pub done : is_done r.core.effect ≡ true

-- pops that were to come led from core c₀ to c, above the frames that wait
pub record Lowering (s index : List ℕ) (ws : List Waiting) (c₀ c : Core) : Type 0 where
  pub indexed : Indexed s index
  pub same : comes_to (program_of s) c (below ws (c.height - 1)) ≡ comes_to (program_of s) c₀ (below ws (c₀.height - 1))
  pub sits : Sits s c
  pub done : is_done c.effect ≡ true
  pub room : length ws ≡ waiting_frames
  pub each : (k : ℕ) → k + 1 < c.height → Waits s (aside_of (get_or ws k no_waiting))
  pub effect_is : c.effect ≡ c₀.effect
  pub steps_are : c.steps ≡ c₀.steps
  pub level_is : c.level ≡ c₀.level
  pub first_is : c.first ≡ c₀.first
  -- nothing pops before a READ
  pub asks : is_asking c.effect ≡ true → c ≡ c₀
  pub unfinished : is_asking c.effect ≡ true → (c.top.next < c.top.count) × (c.steps < max_script_steps)

-- no pop is left, and a core that is at its end, or has no steps left, has ended
pub record Settled (s index : List ℕ) (ws : List Waiting) (c r : Core) : Type 0 where
  pub lowered : Core
  pub lowering : Lowering s index ws c lowered
  pub still : (is_running lowered.ending && (leb lowered.top.count lowered.top.next && ltb 1 lowered.height)) ≡ false
  pub closed : r ≡ closed_as lowered

-- a manager whose next step is a CREATE or WITHDRAW, with what that needs
pub record Changeable (s masks index current : List ℕ) (m : Manager) : Type 0 where
  pub indexed : Indexed s index
  pub leveled : Leveled s masks
  pub fields_there : field_words ≤ length current
  pub scripted : Scripted s current
  pub held : WellFormed s m
  pub running : is_running m.core.ending ≡ true
  pub next : IsChange (next_step (program_of s) (frame_of m.core.top))

-- it is made, pops and ending included
pub record ChangedFrom (s current : List ℕ) (m : Manager) (r : Changed) : Type 0 where
  pub is : (read : ℕ → ℕ → Value) → OwnExistence s current m.core.level read → record { manager = manager_of r.manager; effect = change_of (frame_of m.core.top) r.change } ≡ stepped (program_of s) read (manager_of m)
  pub held : WellFormed s r.manager
  pub level_is : r.manager.core.level ≡ m.core.level
  pub first_is : r.manager.core.first ≡ m.core.first
