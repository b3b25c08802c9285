-- Ancestors in the tree of forks: question 14 finds them by intervals of stamps, and they are the managers on the way from the root. The proofs
-- are in proofs/Ancestors.antt. Assumes nothing.
use Rattle.std.specs.Prelude.{ℕ, ◌+◌, ◌≤◌, ◌<◌, ◌≡◌, Bool, true, false, ◌&&◌, List, [], ◌∷◌, ◌++◌, eqb, leb, length}
use Rattle.lists.specs.Lists.{every}
use Rattle.session.specs.Parts.{level_count}
use Rattle.session.specs.Meaning.{root_of}
use Rattle.session.specs.Program.{program_of}
use Rattle.session.specs.declared.Message.{Message}
use Rattle.scripts.specs.Limits.{max_forks}
use Rattle.scripts.specs.State.{Manager}
use Rattle.model.specs.Limits.{stamp_digits}
use Rattle.model.specs.Fork.{Fork, root_fork, child_stamp, child_of, is_ancestor}
use Rattle.model.specs.Level.{forks_of}
use Rattle.model.specs.Step.{State, level_at}
use Rattle.model.specs.Schedule.{read_in, Leads}
use Rattle.theorems.specs.Demands.{IsAccepted}

-- from a manager with this stamp, d forks deep, to its child of the first number, on to that one's child of the next: the stamp of the last
unfoldable pub stamp_along : ℕ → ℕ → List ℕ → ℕ
stamp_along stamp d [] = stamp
stamp_along stamp d (k ∷ ks) = stamp_along (child_stamp stamp d k) (d + 1) ks

-- "Child k (1 to 15)"
abbrev pub is_child : ℕ → Bool
is_child k = leb 1 k && leb k max_forks

-- the way from the root to x: which child each manager on it is of the one before. "The root's is 0."
pub record Way (ks : List ℕ) (x : Fork) : Type 0 where
  pub stamp : x.stamp ≡ stamp_along 0 0 ks
  pub depth : x.depth ≡ length ks
  pub short : length ks ≤ stamp_digits + 1
  pub children : every is_child ks ≡ true

-- the way hs begins with all of ks, and goes on
unfoldable pub goes_on : List ℕ → List ℕ → Bool
goes_on [] [] = false
goes_on [] (h ∷ hs) = true
goes_on (k ∷ ks) [] = false
goes_on (k ∷ ks) (h ∷ hs) = eqb k h && goes_on ks hs

-- The root's way is empty; that of a fork is its sender's, with its own number behind
pub record WaysGrow : Type 0 where
  pub root : (n : ℕ) (message : Message) → Way [] (root_fork n message)
  pub child : (l : ℕ) (x : Fork) (m : Manager) (message : Message) (ks : List ℕ) → Way ks x → x.depth ≤ stamp_digits → m.forks < max_forks → Way (ks ++ ((m.forks + 1) ∷ [])) (child_of l x m message)

-- each of these forks has a way from the root
abbrev pub EachWay : List Fork → Type 0
EachWay [] = Unit
EachWay (x ∷ xs) = ((ks : List ℕ) × Way ks x) × EachWay xs

-- So has every manager that has not ended, in every state that steps lead to
abbrev pub WaysFromRoot : Type 0
WaysFromRoot =
    (s : List ℕ) → IsAccepted s
    → (ls : List ℕ) (st : State) → Leads (program_of s) (read_in (program_of s) (root_of s)) ls st
    → (l : ℕ) → l < level_count s → EachWay (forks_of (level_at st l))

-- By intervals of stamps, y's manager is an ancestor of x's exactly where it is on the way from the root to x
abbrev pub AncestorsOnTheWay : Type 0
AncestorsOnTheWay =
    (y x : Fork) (ks hs : List ℕ) → Way ks y → Way hs x → is_ancestor y x.stamp ≡ goes_on ks hs
