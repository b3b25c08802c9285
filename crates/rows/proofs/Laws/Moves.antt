-- Words moved up, as the slice's own method leaves them, and a row stored at a place, one word a turn. Assumes nothing.
use Rattle.std.proofs.Common.{◌≡◌, ℕ, ◌+◌, ◌-◌, ◌≤◌, ◌<◌, List, length, get_or, set, ap, ◌∙◌, arith}
use lib.Seq.{get_or-set_same, get_or-set_other}
use Rattle.std.specs.List.{CopiedTo, SameBelow, SameFrom}
use Rattle.std.proofs.Math.Seq.{ext_get_or}
use Rattle.lists.specs.Outside.{Outside}
use Rattle.lists.proofs.Laws.Lists.{length-tab, get_d_tab}
use Rattle.lists.proofs.Laws.Outside.{outside_none, outside_set}
use Rattle.lists.proofs.Laws.Rising.{less, same, more, order}
use Rattle.rows.specs.Rows.{row_at}

-- the words from a up to e stand `by` places higher
pub record Shifted (ws ws' : List ℕ) (a e by : ℕ) : Type 0 where
  pub moved : (k : ℕ) → a ≤ k → k < e → get_or ws' (k + by) 0 ≡ get_or ws k 0
  pub outside : Outside ws ws' (a + by) (e + by)

-- a row stands at a place
pub record Stored (ws ws' : List ℕ) (at : ℕ) (row : List ℕ) : Type 0 where
  pub stored : row_at ws' at (length row) ≡ row
  pub outside : Outside ws ws' at (at + length row)

pub shifted_is : (ws ws' : List ℕ) (a e by : ℕ) → a ≤ e → length ws' ≡ length ws
    → CopiedTo ws ws' a (a + by) (e - a) → SameBelow ws ws' (a + by) → SameFrom ws ws' (a + by + (e - a)) → Shifted ws ws' a e by
shifted_is ws ws' a e by h s c b f =
    record {
      moved = λ k l m.
          let z : a + (k + by - (a + by)) ≡ k = omega arith in
          c (k + by) 0 (omega arith) (omega arith) ∙ ap (λ j. get_or ws j 0) z;
      outside = record { length_same = s; below = λ k l. b k 0 l; above = λ k l. f k 0 (omega arith) };
    }

-- the first i words of a row stand at a place
pub record Storing (ws ws' : List ℕ) (at : ℕ) (row : List ℕ) (i : ℕ) : Type 0 where
  pub stored : (k : ℕ) → k < i → get_or ws' (at + k) 0 ≡ get_or row k 0
  pub outside : Outside ws ws' at (at + length row)

pub store_none : (ws : List ℕ) (at : ℕ) (row : List ℕ) → Storing ws ws at row 0
store_none ws at row = record { stored = λ k h. absurd (omega arith); outside = outside_none ws at (at + length row) }

pub store_more : (ws ws' : List ℕ) (at : ℕ) (row : List ℕ) (i : ℕ) → i < length row → at + length row ≤ length ws
    → Storing ws ws' at row i → Storing ws (set ws' (at + i) (get_or row i 0)) at row (i + 1)
store_more ws ws' at row i l f s =
    record {
      stored = λ k h. elim (order k i) [
        | less g ↦ get_or-set_other ws' (at + i) (at + k) (get_or row i 0) 0 (omega arith) ∙ s.stored k g
        | same q ↦ rw q (get_or-set_same ws' (at + i) (get_or row i 0) 0 (omega (arith, s.outside.length_same)))
        | more g ↦ absurd (omega arith)
      ];
      outside = outside_set ws ws' at (at + length row) (at + i) (get_or row i 0) (omega arith) (omega arith) s.outside;
    }

pub store_all : (ws ws' : List ℕ) (at : ℕ) (row : List ℕ) (i : ℕ) → i ≡ length row → Storing ws ws' at row i → Stored ws ws' at row
unfolding row_at
store_all ws ws' at row i e s =
    record {
      stored =
          ext_get_or 0 (row_at ws' at (length row)) row (length-tab (length row) (λ k. get_or ws' (at + k) 0))
          (λ k h.
          let l : k < length row = omega (arith, length-tab (length row) (λ k. get_or ws' (at + k) 0)) in
          get_d_tab 0 (length row) (λ k. get_or ws' (at + k) 0) k l ∙ s.stored k (omega arith));
      outside = s.outside;
    }
