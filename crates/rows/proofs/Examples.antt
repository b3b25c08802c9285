-- Two rows of two words behind one word, and a row put among them, computed by the definitions. Assumes nothing.
use Prim.Native.Nat.{ℕ}
use mathlib.Core.Path.{◌≡◌, refl}
use mathlib.Core.List.{List, [], ◌∷◌}
use lib.ListN.{take}
use Rattle.lists.specs.Lists.{tab, rising_from}
use Rattle.lists.specs.Changed.{inserted}
use Rattle.rows.specs.Rows.{row_at, rows_at, key_of, Rising}

abbrev words : List ℕ
words = 9 ∷ 3 ∷ 7 ∷ 5 ∷ 8 ∷ []

pub record Examples : Type 0 where
  rows : rows_at words 1 2 2 ≡ (3 ∷ 7 ∷ []) ∷ (5 ∷ 8 ∷ []) ∷ []
  rising : Rising (rows_at words 1 2 2)
  -- behind the row of the same key, and the last row goes
  put : take 2 (inserted key_of (3 ∷ 6 ∷ []) (rows_at words 1 2 2)) ≡ (3 ∷ 7 ∷ []) ∷ (3 ∷ 6 ∷ []) ∷ []

pub examples : Examples
unfolding tab rising_from inserted row_at rows_at
examples = record { rows = refl; rising = refl; put = refl }
