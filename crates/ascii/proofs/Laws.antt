-- One character stored. Assumes nothing.
use Prim.Native.Nat.{ℕ, suc, ◌+◌, ◌<◌}
use mathlib.Core.Path.{refl, sym, ◌∙◌}
use mathlib.Core.List.{List, [], ◌∷◌}
use native.Mathlib.Numerals.{add-one}
use native.Mathlib.Omega.{arith}
use lib.ListN.{length, set, take, drop}
use lib.Seq.{set_split, append_snoc}
use Rattle.lists.specs.Placed.{Placed}

pub placed_one : (character at : ℕ) (b : List ℕ) → at < length b → Placed (character ∷ []) at b (set b at character) (at + 1)
placed_one character at b h =
    record {
      buffer = rw add-one (set_split b at character h ∙ sym (append_snoc (take at b) character (drop (suc at) b)));
      ends = refl;
      fits = omega arith;
    }
