-- What the stages of a depth-first run promise each other. No meaning rests on these. Assumes nothing.
-- Laws: the words at the start (`proofs/Laws/Start`), the whole run (`Whole`), the answer by the question that ends the call (`Answers`).
use Rattle.std.specs.Prelude.{ℕ, ◌≤◌, ◌≡◌, List, [], replicate}
use Rattle.session.specs.Parts.{level_count}
use Rattle.session.specs.Meaning.{level_of, root_object, root_of}
use Rattle.session.specs.Program.{program_of}
use Rattle.model.specs.Limits.{result_bytes}
use Rattle.model.specs.DepthFirst.{Progress, new_tally, depth_first}
use Rattle.model.specs.Result.{result_of_depth_first}
use Rattle.results.specs.Writing.{bytes_in}
use Rattle.lists.specs.Placed.{Written}
use Rattle.progress.specs.Representation.{Words, Represents, Spared}
use Rattle.progress.specs.declared.Fork.{Fork}

-- the root message's fork
pub record RootFork (s : List ℕ) (f : Fork) : Type 0 where
  pub level : f.level ≡ level_of s (root_object s)
  pub stamp : f.stamp ≡ 0
  pub depth : f.depth ≡ 0
  pub message : f.message ≡ root_of s

-- nothing is written, and no manager has ended
abbrev pub initial_progress : List ℕ → Progress
initial_progress s = record { written = []; levels = replicate (level_count s) new_tally }

-- the bytes of the records that clearance c is shown of the run
abbrev pub bytes_shown : List ℕ → ℕ → List ℕ
bytes_shown s c =
    bytes_in s (result_of_depth_first (program_of s) (depth_first (program_of s) (root_of s))) c (level_of s (root_object s))

-- they stand in the buffer, and fit it
pub record Shown (s : List ℕ) (c : ℕ) (before after : List ℕ) (count : ℕ) : Type 0 where
  pub written : Written (bytes_shown s c) before after count
  pub fits : count ≤ result_bytes

-- a run over words of its own: they represent the whole run then, nothing else in them became another, and the bytes stand in the buffer
pub record RanOver (s : List ℕ) (c : ℕ) (w w' : Words) (before after : List ℕ) (count : ℕ) : Type 0 where
  pub represents : Represents s (depth_first (program_of s) (root_of s)) w'
  pub spared : Spared s w w'
  pub shown : Shown s c before after count
