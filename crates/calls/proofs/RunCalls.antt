-- Whole calls that tell wrong readings apart: a root above level 0, and WRITE of NIL. Assumes nothing.
use Prim.Native.Nat.{ℕ}
use mathlib.Core.Path.{◌≡◌, refl}
use mathlib.Core.List.{List, ◌∷◌, ◌++◌}
use lib.ListN.{set, replicate}
use Rattle.session.specs.SessionW.{session_w}
use Rattle.calls.specs.Entries.{plain, deep}
use Rattle.model.proofs.Computing.{computing}
use Rattle.calls.proofs.Answering.{lent, answered, answering}

-- session W, its root message sent to object 1, at level 1
abbrev from_above : List ℕ
from_above = set session_w 225 1

-- what a reader of level 0 is shown of it: object 0. And one of level 1: both objects, the root's history, the reply
abbrev above_for0 : List ℕ
above_for0 = 0 ∷ 0 ∷ 16 ∷ 5 ∷ 0 ∷ 0 ∷ 1 ∷ 5 ∷ replicate 11 0

abbrev above_for1 : List ℕ
above_for1 =
    (0 ∷ 0 ∷ 64 ∷ 5 ∷ 0 ∷ 0 ∷ 1 ∷ 5 ∷ replicate 11 0)
    ++ (5 ∷ 1 ∷ 1 ∷ 2 ∷ 0 ∷ 0 ∷ 0 ∷ 0 ∷ 5 ∷ replicate 7 0)
    ++ (6 ∷ 1 ∷ 0 ∷ 2 ∷ 0 ∷ 0 ∷ 0 ∷ 0 ∷ 1 ∷ 0 ∷ 1 ∷ 0 ∷ 5 ∷ replicate 3 0)
    ++ (7 ∷ 1 ∷ replicate 14 0)

-- session W, but object 0 writes a register that is NIL
abbrev writes_nil : List ℕ
writes_nil = set session_w 116 2

abbrev writes_nil_for0 : List ℕ
writes_nil_for0 =
    (0 ∷ 0 ∷ 48 ∷ 5 ∷ replicate 15 0)
    ++ (6 ∷ 0 ∷ 0 ∷ 1 ∷ 0 ∷ 0 ∷ 0 ∷ 0 ∷ 1 ∷ 0 ∷ 2 ∷ 0 ∷ 5 ∷ replicate 3 0)
    ++ (7 ∷ 0 ∷ 0 ∷ 1 ∷ 9 ∷ replicate 11 0)

pub record RunCalls : Type 0 where
  -- "For levels the clearance dominates"; "Kind 7, if the root's level is dominated"
  above_hidden : answered (plain (lent from_above 0)) ≡ above_for0
  above_hidden_depth_first : answered (deep (lent from_above 0)) ≡ above_for0
  above_shown : answered (plain (lent from_above 1)) ≡ above_for1
  above_shown_depth_first : answered (deep (lent from_above 1)) ≡ above_for1
  -- "WRITE a to field b", "each NIL or a number"
  writes_nil_lem : answered (plain (lent writes_nil 0)) ≡ writes_nil_for0
  writes_nil_depth_first : answered (deep (lent writes_nil 0)) ≡ writes_nil_for0

pub run_calls : RunCalls
unfolding computing answering
run_calls =
    record {
      above_hidden = refl;
      above_hidden_depth_first = refl;
      above_shown = refl;
      above_shown_depth_first = refl;
      writes_nil_lem = refl;
      writes_nil_depth_first = refl;
    }
