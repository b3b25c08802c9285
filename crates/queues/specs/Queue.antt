-- The forks of each level, kept in words: `fork_words` for each, `max_managers` of them for each level. Assumes nothing.
-- The number of levels n, which says how many write stamps a fork carries, is a parameter: contracts hold for any n, up to 8 where a row is
-- made. A fork that starts is not moved: only the count of those that started grows.
-- Laws: a fork is read back from its row (`proofs/Laws/Row`: `root_row`, `child_row`); a child's stamp by a shift (`Stamp`: `child_is`), and
-- whether a fork holds back another manager (`holds_whole`, `holds_is`); the first that waits and those behind it (`Queue`: `forks_first`,
-- `rises_behind`); which fork is dropped (`dropped_roomy`, `dropped_started`, `dropped_last`), and that its arrival changes nothing
-- (`dropped_arrives`).
use Rattle.std.specs.Prelude.{ℕ, ◌+◌, ◌*◌, ◌-◌, ◌%◌, ◌^◌, ◌≤◌, ◌<◌, min, ◌≡◌, Bool, ◌&&◌, List, ◌∷◌, map, leb, length, get_or, set, take, replicate}
use Rattle.session.specs.Limits.{max_levels}
use Rattle.lists.specs.Lists.{tab}
use Rattle.session.specs.declared.Message.{Message}
use Rattle.scripts.specs.Limits.{write_stamps}
use Rattle.scripts.specs.Value.{tag, number_in}
use Rattle.lists.specs.Outside.{Outside}
use Rattle.fields.specs.Fields.{value_of}
use Rattle.model.specs.Limits.{max_managers}
use Rattle.lists.specs.Changed.{inserted, last_or}
use Rattle.model.specs.Fork.{Fork, root_fork}
use Rattle.rows.specs.Rows.{row_at, rows_at, key_of, Rising}

-- a fork's words: stamp, depth, object, name, the parameter's tag and number, and a write stamp for each level
abbrev pub stamp_place : ℕ
stamp_place = 0

abbrev pub depth_place : ℕ
depth_place = 1

abbrev pub object_place : ℕ
object_place = 2

abbrev pub name_place : ℕ
name_place = 3

abbrev pub tag_place : ℕ
tag_place = 4

abbrev pub number_place : ℕ
number_place = 5

abbrev pub carried_place : ℕ
carried_place = 6

abbrev pub fork_words : ℕ
fork_words = carried_place + max_levels

-- those of all levels: "A level keeps the 32 forks of smallest stamp"
abbrev pub queue_words : ℕ
queue_words = fork_words * (max_managers * max_levels)

-- where fork i of level l stands
abbrev pub fork_place : ℕ → ℕ → ℕ
fork_place l i = fork_words * (max_managers * l + i)

-- the fork in a row, among n levels. Each number has the width that it has elsewhere
unfoldable pub fork_of_row : ℕ → List ℕ → Fork
fork_of_row n row =
    record {
      stamp = get_or row stamp_place 0;
      depth = get_or row depth_place 0 % 2 ^ 8;
      carried = tab n (λ j. get_or row (carried_place + j) 0 % write_stamps);
      message =
          record {
            object = get_or row object_place 0 % 2 ^ 8;
            name = get_or row name_place 0 % 2 ^ 8;
            parameter = value_of (get_or row tag_place 0) (get_or row number_place 0);
          };
    }

-- the row of a fork with a stamp, a depth and a message, that carries these write stamps, one for each level
abbrev pub row_with : ℕ → ℕ → Message → List ℕ → List ℕ
row_with stamp depth message carried =
    stamp
    ∷ depth
    ∷ message.object
    ∷ message.name
    ∷ tag message.parameter
    ∷ number_in message.parameter
    ∷ carried

-- and of one that carries none
abbrev pub row_of : ℕ → ℕ → Message → List ℕ
row_of stamp depth message = row_with stamp depth message (replicate max_levels 0)

-- the write stamps that fork i of level l carries
abbrev pub carried_at : List ℕ → ℕ → ℕ → List ℕ
carried_at ws l i = row_at ws (fork_place l i + carried_place) max_levels

-- the row of a fork made by the manager of fork i of level l: it carries what that one carries, and for l this write stamp
abbrev pub row_of_child : List ℕ → ℕ → ℕ → ℕ → ℕ → ℕ → Message → List ℕ
row_of_child ws l i stamp depth carried message = row_with stamp depth message (set (carried_at ws l i) l carried)

-- fork i of level l
unfoldable pub fork_at : ℕ → List ℕ → ℕ → ℕ → Fork
fork_at n ws l i = fork_of_row n (row_at ws (fork_place l i) fork_words)

-- `count` forks of level l, from the one at place `first` on
unfoldable pub forks_at : ℕ → List ℕ → ℕ → ℕ → ℕ → List Fork
forks_at n ws l first count = map (fork_of_row n) (rows_at ws (fork_place l first) fork_words count)

-- they stand by rising stamp
abbrev pub ForksRise : List ℕ → ℕ → ℕ → ℕ → Type 0
ForksRise ws l first count = Rising (rows_at ws (fork_place l first) fork_words count)

-- there are words for fork i of level l
pub record There (ws : List ℕ) (l i : ℕ) : Type 0 where
  pub room : queue_words ≤ length ws
  pub level : l < max_levels
  pub placed : i < max_managers

-- a row holds the root's fork
abbrev pub RootRow : Message → List ℕ → Type 0
RootRow message row = (n : ℕ) → n ≤ max_levels → fork_of_row n row ≡ root_fork n message

-- a row holds a fork of the manager of fork i of level l, with a stamp, a depth and a message, that carries a write stamp for l
abbrev pub ChildRow : List ℕ → ℕ → ℕ → ℕ → ℕ → ℕ → Message → List ℕ → Type 0
ChildRow ws l i stamp depth carried message row =
    (n : ℕ)
    → l < n
    → n ≤ max_levels
    → fork_of_row n row ≡ record { stamp = stamp; depth = depth; carried = set (fork_at n ws l i).carried l carried; message = message }

-- at level l `started` forks have started, and `waiting` wait, by rising stamp
pub record Room (ws : List ℕ) (l started waiting : ℕ) : Type 0 where
  pub room : queue_words ≤ length ws
  pub level : l < max_levels
  pub kept : started + waiting ≤ max_managers
  pub rises : ForksRise ws l started waiting

-- "others are dropped": where `started` forks have started and these wait, by rising stamp, a fork of this stamp is, if they are 32 and the
-- last one's stamp is not greater; where none waits, each is
unfoldable pub is_dropped : ℕ → List Fork → ℕ → Bool
is_dropped started waiting stamp =
    leb max_managers (started + length waiting) && leb (last_or 0 (map (λ y. y.stamp) waiting)) stamp

-- a fork arrived at level l: of the rows that wait and this one the first are kept for which there is room, and no other word is touched.
-- So it is with the forks in them, and those that started and those of other levels stay
pub record Arrived (ws ws' : List ℕ) (l started waiting : ℕ) (row : List ℕ) (count : ℕ) : Type 0 where
  pub number : count ≡ min (waiting + 1) (max_managers - started)
  pub rows :
      rows_at ws' (fork_place l started) fork_words count
      ≡ take (max_managers - started) (inserted key_of row (rows_at ws (fork_place l started) fork_words waiting))
  pub untouched : Outside ws ws' (fork_place l started) (fork_place l (started + count))
  pub forks : (n : ℕ) → forks_at n ws' l started count ≡ take (max_managers - started) (inserted (λ y. y.stamp) (fork_of_row n row) (forks_at n ws l started waiting))
  pub rises : ForksRise ws' l started count
  pub before : (n i : ℕ) → i < started → fork_at n ws' l i ≡ fork_at n ws l i
  pub others : (l' first k : ℕ) → (l' ≡ l → ⊥) → first + k ≤ max_managers → rows_at ws' (fork_place l' first) fork_words k ≡ rows_at ws (fork_place l' first) fork_words k
  pub outside : Outside ws ws' (fork_place l started) (fork_place l max_managers)
