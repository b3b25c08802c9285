-- What the functions of this crate require, and what they change. Assumes nothing.
-- Laws: what lies outside the range of a change is as it was (`proofs/Laws/Outside`); a list into which an element is put at a place, said
-- by places (`Insert`: `inserted-tab`).
use Rattle.std.specs.Prelude.{ℕ, ◌+◌, ◌*◌, ◌≤◌, ◌<◌, min, ◌≡◌, List, length, get_or, take}
use Rattle.lists.specs.Outside.{Outside}
use Rattle.lists.specs.Changed.{inserted}
use Rattle.rows.specs.Rows.{rows_at, key_of, Rising}

-- `count` rows of a row's width, in order, and room for `cap` of them
pub record Room (ws : List ℕ) (base count cap : ℕ) (row : List ℕ) : Type 0 where
  pub wide : 0 < length row
  pub fits : base + length row * cap ≤ length ws
  pub kept : count ≤ cap
  pub rises : Rising (rows_at ws base (length row) count)

-- of `count` rows in order the first `place` have keys up to this one, and the next has a greater one
pub record Place (ws : List ℕ) (base width count key place : ℕ) : Type 0 where
  pub within : place ≤ count
  pub before : (i : ℕ) → i < place → get_or ws (base + width * i) 0 ≤ key
  pub after : place < count → key < get_or ws (base + width * place) 0

-- `count` rows of a row's width became one more: the row is put in by its key
pub record Put (ws ws' : List ℕ) (base count : ℕ) (row : List ℕ) : Type 0 where
  pub rows : rows_at ws' base (length row) (count + 1) ≡ inserted key_of row (rows_at ws base (length row) count)
  pub outside : Outside ws ws' base (base + length row * (count + 1))

-- `count` rows of a row's width became n: the row is put in by its key, and the first `cap` are kept
pub record Inserted (ws ws' : List ℕ) (base count cap : ℕ) (row : List ℕ) (n : ℕ) : Type 0 where
  pub number : n ≡ min (count + 1) cap
  pub rows : rows_at ws' base (length row) n ≡ take cap (inserted key_of row (rows_at ws base (length row) count))
  pub rises : Rising (rows_at ws' base (length row) n)
  pub outside : Outside ws ws' base (base + length row * n)
