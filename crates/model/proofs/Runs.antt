-- Whole runs that tell wrong readings apart: a clearance that does not dominate the root's level, reads two ancestors deep, the plain order
-- itself, and a step of a level that is not there. Assumes nothing.
use Prim.Native.Nat.{ℕ}
use mathlib.Core.Path.{◌≡◌, refl}
use mathlib.Core.List.{List, [], ◌∷◌, ◌++◌}
use lib.ListN.{replicate}
use Rattle.session.specs.Meaning.{root_of}
use Rattle.session.specs.Program.{Program, program_of}
use Rattle.session.specs.SessionW.{session_w}
use Rattle.session.specs.Value.{Value}
use Rattle.std.specs.Prelude.{Some}
use Rattle.session.specs.declared.Step.TheVariants.{Set, Read, Write, Send, Quit}
use Rattle.model.specs.Schedule.{Outcome, finished, refused, run_of, plain_order}
use Rattle.model.specs.DepthFirst.{depth_first}
use Rattle.model.specs.Result.{Result, result_of, result_of_depth_first}
use Rattle.model.proofs.Computing.{computing, each_level, message, plain_bytes, deep_bytes}

-- Levels 3 over 1 and 2, these over 0. The root, at 1, sends to 3 and replies 6; a reader of level 2 is shown objects 0 and 2, no history and
-- no reply
abbrev beside : Program
beside =
    each_level (0x01 ∷ 0x03 ∷ 0x05 ∷ 0x0F ∷ []) ([] ∷ ((Send 1 0 3 ∷ Set 0 6 ∷ Write 0 0 ∷ Quit 0 ∷ []) ∷ []) ∷ [])

abbrev beside_for2 : List ℕ
beside_for2 = (5 ∷ replicate 15 0) ++ (5 ∷ 2 ∷ 2 ∷ replicate 13 0)

-- one of level 1 is shown objects 0 and 1, the root's history and its reply
abbrev beside_for1 : List ℕ
beside_for1 =
    (5 ∷ replicate 15 0)
    ++ (5 ∷ 1 ∷ 1 ∷ 1 ∷ 6 ∷ replicate 11 0)
    ++ (6 ∷ 1 ∷ 0 ∷ 1 ∷ 0 ∷ 0 ∷ 0 ∷ 0 ∷ 1 ∷ 0 ∷ 2 ∷ 0 ∷ 4 ∷ replicate 3 0)
    ++ (7 ∷ 1 ∷ 0 ∷ 1 ∷ 6 ∷ replicate 11 0)

-- Levels in a chain, an object at each, name 2 of which replies its field. Each of levels 0 to 2 writes before and after its forks. The root
-- forks a manager A at 1, then another; A forks B at 2, and later another; B forks one at 3, then C. C reads objects 0, 1 and 2, and writes
-- what it gets to its fields. At level 1 the stamp at A's fork of B is 1: 10; that at B's fork of C is 2: 11; A's end stamp is 3: 12; the newest
-- is 13.
abbrev lineage : Program
lineage =
    each_level
    (0x01 ∷ 0x03 ∷ 0x07 ∷ 0x0F ∷ [])
    (((Set 0 1 ∷ Write 0 0 ∷ Send 1 0 1 ∷ Set 0 2 ∷ Write 0 0 ∷ Send 1 1 1 ∷ Set 0 3 ∷ Write 0 0 ∷ []) ∷ [] ∷ (Read 0 0 ∷ Quit 0 ∷ []) ∷ [])
    ∷ ((Set 0 10 ∷ Write 0 0 ∷ Send 1 0 2 ∷ Set 0 11 ∷ Write 0 0 ∷ Send 1 1 2 ∷ Set 0 12 ∷ Write 0 0 ∷ []) ∷ (Set 0 13 ∷ Write 0 0 ∷ []) ∷ (Read 0 0 ∷ Quit 0 ∷ []) ∷ [])
    ∷ ((Set 0 20 ∷ Write 0 0 ∷ Send 1 1 3 ∷ Set 0 21 ∷ Write 0 0 ∷ Send 1 0 3 ∷ Set 0 22 ∷ Write 0 0 ∷ []) ∷ [] ∷ (Read 0 0 ∷ Quit 0 ∷ []) ∷ [])
    ∷ ((Send 0 2 0 ∷ Write 0 0 ∷ Send 0 2 1 ∷ Write 0 1 ∷ Send 0 2 2 ∷ Write 0 2 ∷ []) ∷ [])
    ∷ [])

-- what C wrote, and what the others left
abbrev fields_of : Result → List Value
fields_of r =
    r.field 3 0 ∷ r.field 3 1 ∷ r.field 3 2 ∷ r.field 0 0 ∷ r.field 1 0 ∷ r.field 2 0 ∷ []

abbrev fields_after : Outcome → List Value
fields_after (finished st) = fields_of (result_of lineage st)
fields_after (refused number place) = []

abbrev lineage_fields : List Value
lineage_fields = Some 1 ∷ Some 10 ∷ Some 21 ∷ Some 3 ∷ Some 13 ∷ Some 22 ∷ []

-- Levels 3 over 1 and 2, these over 0. The root sends to 3, 2 and 1; those at 1 and 2 make one step each
abbrev diamond : Program
diamond =
    each_level
    (0x01 ∷ 0x03 ∷ 0x05 ∷ 0x0F ∷ [])
    (((Send 1 0 3 ∷ Send 1 0 2 ∷ Send 1 0 1 ∷ []) ∷ []) ∷ ((Set 0 1 ∷ []) ∷ []) ∷ ((Set 0 1 ∷ []) ∷ []) ∷ [])

-- the same, numbered from the top: 0 over 1 and 2, these over 3, where the root is
abbrev hanging : Program
hanging =
    each_level
    (0x0F ∷ 0x0A ∷ 0x0C ∷ 0x08 ∷ [])
    ([] ∷ ((Set 0 1 ∷ []) ∷ []) ∷ ((Set 0 1 ∷ []) ∷ []) ∷ ((Send 1 0 0 ∷ Send 1 0 2 ∷ Send 1 0 1 ∷ []) ∷ []) ∷ [])

-- Levels in a chain: 0 over 2, 2 over 1. The root, at 1, sends to 2, where one step is made, and to 0, which must wait for it
abbrev topmost : Program
topmost = each_level (0x07 ∷ 0x02 ∷ 0x06 ∷ []) ([] ∷ ((Send 1 0 2 ∷ Send 1 0 0 ∷ []) ∷ []) ∷ ((Set 0 1 ∷ []) ∷ []) ∷ [])

pub record Runs : Type 0 where
  -- "For levels the clearance dominates"; "Kind 7, if the root's level is dominated"
  beside_hidden : plain_bytes beside 1 2 ≡ beside_for2
  beside_hidden_depth_first : deep_bytes beside 1 2 ≡ beside_for2
  beside_shown : plain_bytes beside 1 1 ≡ beside_for1
  beside_shown_depth_first : deep_bytes beside 1 1 ≡ beside_for1
  -- "for an ancestor's level, the stamp at that ancestor's fork"
  lineage_reads : fields_after (run_of lineage (message 0) (plain_order lineage (message 0))) ≡ lineage_fields
  lineage_reads_depth_first : fields_of (result_of_depth_first lineage (depth_first lineage (message 0))) ≡ lineage_fields
  -- "each scheduler step by the lowest-numbered level that may step"
  order_W : plain_order (program_of session_w) (root_of session_w) ≡ 0 ∷ 0 ∷ 0 ∷ 0 ∷ 0 ∷ 0 ∷ 1 ∷ 1 ∷ 1 ∷ 1 ∷ 1 ∷ 1 ∷ []
  order_diamond : plain_order diamond (message 0) ≡ 0 ∷ 0 ∷ 0 ∷ 0 ∷ 1 ∷ 1 ∷ 2 ∷ 2 ∷ 3 ∷ []
  order_hanging : plain_order hanging (message 3) ≡ 3 ∷ 3 ∷ 0 ∷ 3 ∷ 2 ∷ 2 ∷ 3 ∷ 1 ∷ 1 ∷ []
  order_topmost : plain_order topmost (message 1) ≡ 1 ∷ 1 ∷ 1 ∷ 2 ∷ 2 ∷ 0 ∷ []
  -- "12. Is it a present level?" The first number that is none
  no_level : run_of topmost (message 1) (1 ∷ 3 ∷ []) ≡ refused 12 1

pub runs : Runs
unfolding computing
runs =
    record {
      beside_hidden = refl;
      beside_hidden_depth_first = refl;
      beside_shown = refl;
      beside_shown_depth_first = refl;
      lineage_reads = refl;
      lineage_reads_depth_first = refl;
      order_W = refl;
      order_diamond = refl;
      order_hanging = refl;
      order_topmost = refl;
      no_level = refl;
    }
