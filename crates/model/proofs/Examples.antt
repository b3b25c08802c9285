-- What the proved cases M1 to M12 do not show, computed over the definitions. Assumes nothing.
use Prim.Native.Nat.{ℕ, ◌+◌, ◌*◌}
use mathlib.Core.Path.{◌≡◌, refl}
use mathlib.Core.List.{List, [], ◌∷◌, ◌++◌, map}
use lib.ListN.{length, replicate}
use Rattle.lists.specs.Lists.{tab}
use Rattle.model.specs.Schedule.{run_of, plain_order, Outcome, finished, refused}
use Rattle.model.specs.DepthFirst.{Progress, depth_first, tally_at}
use Rattle.model.specs.Result.{Result, result_of, result_of_depth_first}
use Rattle.session.specs.Record.{byte_of}
use Rattle.session.specs.Parts.{of_kind}
use Rattle.session.specs.Program.{Program}
use Rattle.session.specs.Value.{Value}
use Rattle.std.specs.Prelude.{Some}
use Rattle.session.specs.declared.Message.{Message}
use Rattle.session.specs.declared.Step.TheVariants.{Set, Read, Write, Send, Quit}
use Rattle.model.specs.History.{History}
use Rattle.model.specs.Step.{level_at}
use Rattle.model.proofs.Computing.{computing, each_level, message, plain_bytes}

-- Levels 3 over 1 and 2, these over 0, an object at each. The root, at 0, sends to 1, to 2 and three times to 3; those at 1 and 2 send 15
-- times to 3: 33 forks there, whose methods are empty.
abbrev fan : Program
fan =
    each_level
    (0x01 ∷ 0x03 ∷ 0x05 ∷ 0x0F ∷ [])
    (((Send 1 0 1 ∷ Send 1 0 2 ∷ Send 1 0 3 ∷ Send 1 0 3 ∷ Send 1 0 3 ∷ []) ∷ [])
    ∷ (replicate 15 (Send 1 0 3) ∷ [])
    ∷ (replicate 15 (Send 1 0 3) ∷ [])
    ∷ [])

abbrev root : Message
root = message 0

-- the fork stamps at level 3 after a list of scheduler steps, and after the depth-first run
abbrev stamps_of : List History → List ℕ
stamps_of = map (λ h. h.stamp)

abbrev stamps_after : Outcome → List ℕ
stamps_after (finished st) = stamps_of (level_at st 3).ended
stamps_after (refused number place) = []

-- the write stamps at which the managers of a level ended, after a list of scheduler steps
abbrev lasts_of : List History → List ℕ
lasts_of = map (λ h. h.last)

abbrev root_ended : Outcome → List ℕ
root_ended (finished st) = lasts_of (level_at st 0).ended
root_ended (refused number place) = []

-- the 32 smallest: those of the 33 but the root's fifth child
abbrev kept : List ℕ
kept =
    tab 15 (λ k. 0x11000000 + 0x01000000 * k) ++ tab 15 (λ k. 0x21000000 + 0x01000000 * k) ++ 0x30000000 ∷ 0x40000000 ∷ []

-- level 2 before level 1, so that the forks of smallest stamp arrive last
abbrev late_first : List ℕ
late_first = replicate 6 0 ++ replicate 16 2 ++ replicate 16 1 ++ replicate 32 3

-- Levels in a chain, an object at each. The root, at 0, sends to 1, where 7 is written; to 2, which asks object 1 for its field and writes
-- what it gets; and to 1 again, where 8 is written. The reader at 2 has no ancestor at 1: it sees what the first of its managers left.
abbrev chain : Program
chain =
    each_level
    (0x01 ∷ 0x03 ∷ 0x07 ∷ [])
    (((Send 0 0 1 ∷ Send 0 0 2 ∷ Send 0 1 1 ∷ []) ∷ [])
    ∷ ((Set 0 7 ∷ Write 0 0 ∷ []) ∷ (Set 0 8 ∷ Write 0 0 ∷ []) ∷ (Read 0 0 ∷ Quit 0 ∷ []) ∷ [])
    ∷ ((Send 0 2 1 ∷ Write 0 0 ∷ []) ∷ [])
    ∷ [])

-- the first fields of objects 1 and 2 in a result, and after a list of scheduler steps
abbrev first_fields : Result → List Value
first_fields r = r.field 1 0 ∷ r.field 2 0 ∷ []

abbrev fields_after : Outcome → List Value
fields_after (finished st) = first_fields (result_of chain st)
fields_after (refused number place) = []

-- Levels in a chain. The root sends 15 times to 1, and each manager there twice to 2: 45 forks, of which no level has more than 32
abbrev broad : Program
broad =
    each_level (0x01 ∷ 0x03 ∷ 0x07 ∷ []) ((replicate 15 (Send 1 0 1) ∷ []) ∷ ((Send 1 0 2 ∷ Send 1 0 2 ∷ []) ∷ []) ∷ [])

-- how many managers ended at each level
abbrev counts_after : Outcome → List ℕ
counts_after (finished st) = map (λ v. length v.ended) st
counts_after (refused number place) = []

abbrev counts_deep : Progress → List ℕ
counts_deep g = map (λ t. length t.ended) g.levels

-- Levels 0 over 1 and 2, these over 3. The root, at 3, sends to 0, 2 and 1, whose methods are empty: the first manager to end is level 0's
abbrev hanging : Program
hanging =
    each_level (0x0F ∷ 0x0A ∷ 0x0C ∷ 0x08 ∷ []) ([] ∷ [] ∷ [] ∷ ((Send 1 0 0 ∷ Send 1 0 2 ∷ Send 1 0 1 ∷ []) ∷ []) ∷ [])

-- the bytes of its plain run for a clearance, and the levels of the kind 6 records in them
abbrev ran_hanging : ℕ → List ℕ
ran_hanging c = plain_bytes hanging 3 c

abbrev levels_of : List ℕ → List ℕ
levels_of bytes = map (λ rec. byte_of rec 1) (of_kind 6 bytes)

pub record Examples : Type 0 where
  -- "32 and 33 forks at one level": the one of largest stamp is dropped, whichever arrived last
  fan_arrived : stamps_after (run_of fan root late_first) ≡ kept
  fan_plain : stamps_after (run_of fan root (plain_order fan root)) ≡ kept
  fan_depth_first : stamps_of (tally_at (depth_first fan root) 3).ended ≡ kept
  -- "others are dropped but still use their child number": the root makes five forks, and its write stamp grows by five
  fan_grown : root_ended (run_of fan root late_first) ≡ 6 ∷ []
  fan_grown_depth_first : lasts_of (tally_at (depth_first fan root) 0).ended ≡ 6 ∷ []
  -- "A level keeps the 32 forks of smallest stamp": each level for itself
  broad_plain : counts_after (run_of broad root (plain_order broad root)) ≡ 1 ∷ 15 ∷ 30 ∷ []
  broad_depth_first : counts_deep (depth_first broad root) ≡ 1 ∷ 15 ∷ 30 ∷ []
  -- "the end stamp of the largest smaller fork stamp there"; "starts one above the last one's end stamp"
  chain_plain : fields_after (run_of chain root (plain_order chain root)) ≡ Some 8 ∷ Some 7 ∷ []
  chain_depth_first : first_fields (result_of_depth_first chain (depth_first chain root)) ≡ Some 8 ∷ Some 7 ∷ []
  -- "groups of kind 6 stand by rising level number": of the levels that the clearance dominates, whichever first ended a manager
  groups_of_1 : levels_of (ran_hanging 1) ≡ 1 ∷ 3 ∷ []
  groups_of_0 : levels_of (ran_hanging 0) ≡ 0 ∷ 1 ∷ 2 ∷ 3 ∷ []

pub examples : Examples
unfolding computing
examples =
    record {
      fan_arrived = refl;
      fan_plain = refl;
      fan_depth_first = refl;
      fan_grown = refl;
      fan_grown_depth_first = refl;
      broad_plain = refl;
      broad_depth_first = refl;
      chain_plain = refl;
      chain_depth_first = refl;
      groups_of_1 = refl;
      groups_of_0 = refl;
    }
