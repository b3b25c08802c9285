-- Forks: messages on their way to a level above. Assumes nothing.
-- Laws (`proofs/Laws/Stamps`): a manager's children lie in its interval of stamps, each in a part of its own (`child_within`, `child_next`).
-- In `theorems` (`Laws/Invariant`): of two managers that have not ended the intervals are disjoint, or one is the other's ancestor (`Tree`:
-- `Related`; of all levels together `Forest`).
use Rattle.std.specs.Prelude.{ℕ, ◌+◌, ◌*◌, ◌-◌, ◌^◌, Bool, ◌&&◌, List, ltb, replicate, set}
use Rattle.session.specs.declared.Message.{Message}
use Rattle.scripts.specs.State.{Manager}
use Rattle.model.specs.Limits.{stamp_digits}

-- a message with its fork stamp; how many forks deep its manager will be; and for each level the write stamp that an ancestor at that
-- level had at its fork, or 0 where no ancestor is
pub record Fork : Type 0 where
  pub stamp : ℕ
  pub depth : ℕ
  pub carried : List ℕ
  pub message : Message

-- "The root's is 0": the root's message, among n levels
abbrev pub root_fork : ℕ → Message → Fork
root_fork n message = record { stamp = 0; depth = 0; carried = replicate n 0; message = message }

-- "Child k (1 to 15) of a manager d forks deep has the parent's stamp plus k × 16^(7−d)"
abbrev pub child_stamp : ℕ → ℕ → ℕ → ℕ
child_stamp parent d k = parent + k * 16 ^ (stamp_digits - d)

-- a fork made at a level by the manager of fork x, which is m before this step: "a made fork carries it too", the write stamp
unfoldable pub child_of : ℕ → Fork → Manager → Message → Fork
child_of level x m message =
    record {
      stamp = child_stamp x.stamp x.depth (m.forks + 1);
      depth = x.depth + 1;
      carried = set x.carried level m.stamp;
      message = message;
    }

-- how many stamps a manager d forks deep has for itself and its descendants: each child has a part of its own
abbrev pub span : ℕ → ℕ
span d = 16 ^ (stamp_digits + 1 - d)

-- y's manager is an ancestor of the one with this fork stamp: the stamp lies behind y's own in y's interval
abbrev pub is_ancestor : Fork → ℕ → Bool
is_ancestor y stamp = ltb y.stamp stamp && ltb stamp (y.stamp + span y.depth)
