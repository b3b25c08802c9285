-- The run of a fork, depth first: what the functions of the cycle require and promise. No meaning rests on these. Assumes nothing.
-- Laws: what a script step did outside its manager done to the words (`proofs/Laws/Perform`), a row of steps and what its last one does
-- (`Step`: `SameEnd`), a manager's run as a loop over the steps that concern others (`Run`: `Looped`).
use Rattle.std.specs.Prelude.{ℕ, ◌+◌, ◌-◌, ◌^◌, ◌≤◌, ◌<◌, ◌≡◌, cond, List, ltb, length}
use Rattle.session.specs.Limits.{names}
use Rattle.session.specs.Parts.{level_count}
use Rattle.session.specs.Meaning.{Numbered}
use Rattle.session.specs.Program.{program_of}
use Rattle.session.specs.Value.{Value}
use Rattle.scripts.specs.Limits.{max_forks}
use Rattle.scripts.specs.State.{Manager}
use Rattle.scripts.specs.declared.Ended.{Ended}
use Rattle.cores.specs.Core.{effect_of, Present}
use Rattle.cores.specs.declared.Effect.{Effect}
use Rattle.cores.specs.declared.Effect.TheVariants as effect
use Rattle.model.specs.Limits.{max_managers, stamp_digits}
use Rattle.lists.specs.Changed.{inserted}
use Rattle.model.specs.Fork as model
use Rattle.model.specs.DepthFirst.{Progress, tally_at, effected, run_fork}
use Rattle.histories.specs.Histories.{history_of}
use Rattle.progress.specs.declared.Fork.{Fork}
use Rattle.progress.specs.Representation.{Words, Represents, Spared}

-- a fork to a present level, of an object that has a number, whose stamps, with so many levels left from its own upward, fit 32 bits
pub record Runnable (s : List ℕ) (left : ℕ) (f : Fork) : Type 0 where
  pub placed : f.level < level_count s
  pub present : Numbered s f.message.object
  pub named : f.message.name < names
  pub shallow : f.depth + left ≤ stamp_digits + 1
  pub fits : f.stamp + 16 ^ (stamp_digits + 1 - f.depth) ≤ 2 ^ 32

-- the fork that a definition runs: the write stamps that it carries are not looked at
pub record Same (f : Fork) (x : model.Fork) : Type 0 where
  pub stamp : x.stamp ≡ f.stamp
  pub depth : x.depth ≡ f.depth
  pub message : x.message ≡ f.message

-- a step that makes a fork makes one more than the manager had made before
abbrev pub Forking : Effect → ℕ → ℕ → Type 0
Forking e before forks = (u o b : ℕ) (v : Value) → e ≡ effect.Fork u o b v → forks ≡ before + 1

-- what a script step of a fork's manager did outside it can be done, with so many levels left above: what it concerns is there, and a fork
-- that it made is counted
pub record Performable (s : List ℕ) (left : ℕ) (f : Fork) (forks : ℕ) (e : Effect) : Type 0 where
  pub fork : Runnable s (left + 1) f
  pub present : Present s e
  pub forked : forks ≤ max_forks
  pub forking : Forking e (forks - 1) forks

-- it is done to the words, as the definition does it for the manager n that made the step
abbrev pub Performed : List ℕ → ℕ → Fork → ℕ → Effect → Words → Words → Type 0
Performed s left f forks e w w' =
    Spared s w w'
    × ((g : Progress) (x : model.Fork) (n : Manager)
    → Represents s g w
    → Same f x
    → Forking e n.forks forks
    → Represents s (effected (run_fork left (program_of s)) f.level x n (effect_of e) g) w')

-- what a fork that is made does to the words
abbrev pub ForkDone : List ℕ → ℕ → Fork → Words → Words → Type 0
ForkDone s left f w w' =
    Spared s w w'
    × ((g : Progress) (x : model.Fork)
    → Represents s g w
    → Same f x
    → Represents s (cond (ltb (length (tally_at g f.level).ended) max_managers) (run_fork left (program_of s) f.level x g) g) w')

-- what the run of a fork that is kept does to the words, and what it hands back: the history that the definition keeps of it, so that its
-- script steps are as many as the definition makes
abbrev pub RunDone : List ℕ → ℕ → Fork → Words → Words → Ended → Type 0
RunDone s left f w w' r =
    Spared s w w'
    × ((g : Progress) (x : model.Fork)
    → Represents s g w
    → Same f x
    → Represents s (run_fork left (program_of s) f.level x g) w'
    × (0 < left → (tally_at (run_fork left (program_of s) f.level x g) f.level).ended ≡ inserted (λ h. h.stamp) (history_of r) (tally_at g f.level).ended))
