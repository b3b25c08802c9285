-- Forks read from words, one that arrives where there is room for two, and which are dropped, computed by the definitions. Assumes nothing.
use Prim.Native.Nat.{ℕ, ◌-◌}
use mathlib.Core.Path.{◌≡◌, refl}
use mathlib.Core.Bool.{true, false}
use mathlib.Core.List.{List, [], ◌∷◌, ◌++◌, map}
use lib.ListN.{replicate, take}
use Rattle.lists.specs.Lists.{tab, rising_from}
use Rattle.session.specs.declared.Message.{Message}
use Rattle.std.specs.Prelude.{None, Some}
use Rattle.model.specs.Limits.{max_managers}
use Rattle.lists.specs.Changed.{inserted, last_or}
use Rattle.model.specs.Fork.{Fork, root_fork}
use Rattle.rows.specs.Rows.{row_at, rows_at}
use Rattle.queues.specs.Queue.{fork_place, fork_of_row, row_of, row_of_child, fork_at, forks_at, ForksRise, is_dropped}

abbrev root : Message
root = record { object = 3; name = 15; parameter = None }

abbrev sent : Message
sent = record { object = 2; name = 1; parameter = Some 7 }

-- a child of the root that carries write stamp 4 for level 1
abbrev child : Fork
child = record { stamp = 0x10000000; depth = 1; carried = 0 ∷ 4 ∷ 0 ∷ []; message = sent }

abbrev sent_row : List ℕ
sent_row = 0x10000000 ∷ 1 ∷ 2 ∷ 1 ∷ 1 ∷ 7 ∷ 0 ∷ 4 ∷ replicate 6 0

-- at level 0 thirty have started, and two wait
abbrev queue : List ℕ
queue = replicate (fork_place 0 30) 0 ++ row_of 0x10000000 1 sent ++ row_of 0x30000000 1 sent

abbrev stamps_of : List Fork → List ℕ
stamps_of = map (λ f. f.stamp)

pub record Examples : Type 0 where
  root_back : fork_of_row 3 (row_of 0 0 root) ≡ root_fork 3 root
  -- the root's manager at level 1 made it
  child_made : row_of_child (replicate (fork_place 1 0) 0 ++ row_of 0 0 root) 1 0 0x10000000 1 4 sent ≡ sent_row
  child_back : fork_at 3 (row_of 0 0 root ++ sent_row) 0 1 ≡ child
  rise : ForksRise queue 0 30 2
  -- of three there is room for those of the two smallest stamps
  kept : stamps_of (take (max_managers - 30) (inserted (λ f. f.stamp) (fork_of_row 1 (row_of 0x20000000 1 sent)) (forks_at 1 queue 0 30 2))) ≡ 0x10000000 ∷ 0x20000000 ∷ []
  -- one of the last one's stamp is dropped, one of a smaller stamp is not; where 31 are kept none is
  same : is_dropped 30 (forks_at 1 queue 0 30 2) 0x30000000 ≡ true
  smaller : is_dropped 30 (forks_at 1 queue 0 30 2) 0x2fffffff ≡ false
  roomy : is_dropped 30 (forks_at 1 queue 0 30 1) 0x30000000 ≡ false
  none_waits : is_dropped 32 [] 0 ≡ true

pub examples : Examples
unfolding tab rising_from inserted last_or row_at rows_at fork_of_row fork_at forks_at is_dropped
examples =
    record {
      root_back = refl;
      child_made = refl;
      child_back = refl;
      rise = refl;
      kept = refl;
      same = refl;
      smaller = refl;
      roomy = refl;
      none_waits = refl;
    }
