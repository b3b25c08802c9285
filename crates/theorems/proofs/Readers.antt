-- The demands are not empty: sessions that are equal to a reader, and sessions that are not. Assumes nothing.
use Prim.Native.Nat.{ℕ}
use mathlib.Core.Path.{◌≡◌, refl, sym, ◌∙◌, ap}
use mathlib.Core.List.{List, [], ◌∷◌, ◌++◌}
use lib.ListN.{get_or, set, replicate}
use Rattle.session.specs.Parts.{of_kind}
use Rattle.session.specs.SessionW.{session_w}
use Rattle.calls.specs.Entries.{timetabled, plain, deep, Answer}
use Rattle.calls.specs.Reader.{bytes_written, EqualToReader}
use native.Mathlib.Omega.{arith}
use Rattle.session.specs.Record.{byte_of}
use Rattle.session.specs.Emptied.{emptied}
use Rattle.theorems.specs.Demands.{TimetabledRun, DepthFirstRun}
use Rattle.model.proofs.Computing.{computing}
use Rattle.calls.proofs.Answering.{lent, answering}

-- session W, but object 1, at level 1, holds 42 in its third field
abbrev above : List ℕ
above = set (set session_w 51 4) 60 42

-- session W, but object 0, at level 0, sets 8 where it set 9
abbrev below : List ℕ
below = set session_w 104 8

-- runs of the three for a reader cleared to level 0, the depth-first run of W emptied for him, and runs of two for a reader cleared to
-- level 1
abbrev ran_w : Answer
ran_w = timetabled (lent session_w 0) (replicate 6 0 ++ replicate 6 1)

abbrev ran_above : Answer
ran_above = plain (lent above 0)

abbrev ran_below : Answer
ran_below = plain (lent below 0)

abbrev deep_w : Answer
deep_w = deep (lent (emptied 0 session_w) 0)

abbrev full_w : Answer
full_w = plain (lent session_w 1)

abbrev full_above : Answer
full_above = plain (lent above 1)

-- the records that W's reader at level 0 is shown
abbrev shown : List ℕ
shown =
    (0x05 ∷ 0x00 ∷ 0x00 ∷ 0x01 ∷ 0x09 ∷ replicate 11 0)
    ++ (0x06 ∷ 0x00 ∷ 0x00 ∷ 0x01 ∷ 0x00 ∷ 0x00 ∷ 0x00 ∷ 0x00 ∷ 0x01 ∷ 0x00 ∷ 0x02 ∷ 0x00 ∷ 0x05 ∷ replicate 3 0)
    ++ (0x07 ∷ 0x00 ∷ 0x00 ∷ 0x01 ∷ 0x09 ∷ replicate 11 0)

-- a byte of the first kind 5 records
abbrev object_byte : ℕ → ℕ → Answer → ℕ
object_byte o k a = byte_of (get_or (of_kind 5 (bytes_written a)) o []) k

pub record Readers : Type 0 where
  -- two sessions that differ above level 0: equal to a reader cleared to 0, and not to one cleared to 1
  equal_below : EqualToReader ran_w ran_above
  unequal_above : EqualToReader full_w full_above → ⊥
  -- two that differ below: not equal
  unequal : EqualToReader ran_w ran_below → ⊥
  -- what demand 3 asks of its runs can be had
  run : TimetabledRun session_w 0 ran_w
  depth_first_lem : DepthFirstRun (emptied 0 session_w) 0 deep_w

-- what of it is computed
record Computed : Type 0 where
  bytes_w : bytes_written ran_w ≡ shown
  bytes_above : bytes_written ran_above ≡ shown
  -- the first byte of object 0's first field, and of object 1's third
  byte_w : object_byte 0 4 ran_w ≡ 9
  byte_below : object_byte 0 4 ran_below ≡ 8
  byte_full : object_byte 1 12 full_w ≡ 0
  byte_full_above : object_byte 1 12 full_above ≡ 42
  run_finished : ran_w.number ≡ 0
  deep_finished : deep_w.number ≡ 0

computed : Computed
unfolding computing answering
computed =
    record {
      bytes_w = refl;
      bytes_above = refl;
      byte_w = refl;
      byte_below = refl;
      byte_full = refl;
      byte_full_above = refl;
      run_finished = refl;
      deep_finished = refl;
    }

pub readers : Readers
readers =
    record {
      equal_below = computed.bytes_w ∙ sym computed.bytes_above;
      unequal_above = λ e. omega (arith, computed.byte_full, computed.byte_full_above, ap (λ bytes. byte_of (get_or (of_kind 5 bytes) 1 []) 12) e);
      unequal = λ e. omega (arith, computed.byte_w, computed.byte_below, ap (λ bytes. byte_of (get_or (of_kind 5 bytes) 0 []) 4) e);
      run = record {
        request = lent session_w 0;
        of = refl;
        reader = refl;
        list = replicate 6 0 ++ replicate 6 1;
        answer = refl;
        finished = computed.run_finished;
      };
      depth_first_lem = record {
        request = lent (emptied 0 session_w) 0;
        of = refl;
        reader = refl;
        answer = refl;
        finished = computed.deep_finished;
      };
    }
