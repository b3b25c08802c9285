-- What stands outside a change within a range of words. Assumes nothing.
use Prim.Native.Nat.{ℕ, ◌+◌, ◌*◌, ◌<◌}
use mathlib.Core.Path.{◌≡◌}
use mathlib.Core.List.{List}
use native.Mathlib.Omega.{arith}
use lib.ListN.{get_or}
use Rattle.lists.proofs.Laws.Fill.{tab_ext}
use Rattle.lists.specs.Outside.{Outside}
use Rattle.lists.proofs.Laws.Outside.{Apart, before, behind, word_apart}
use Rattle.rows.specs.Rows.{row_at, rows_at}
use Rattle.rows.proofs.Laws.Product.{row_within}

module _ (ws ws' : List ℕ) (a e : ℕ) (o : Outside ws ws' a e) where
  pub row_apart : (at width : ℕ) → Apart a e at (at + width) → row_at ws' at width ≡ row_at ws at width
  unfolding row_at
  row_apart at width s =
      tab_ext width (λ i. get_or ws' (at + i) 0) (λ i. get_or ws (at + i) 0) (λ i h. word_apart ws ws' a e o at (at + width) s (at + i) (omega arith) (omega arith))

  pub rows_apart : (base width n : ℕ) → Apart a e base (base + width * n) → rows_at ws' base width n ≡ rows_at ws base width n
  unfolding rows_at
  rows_apart base width n s =
      tab_ext n (λ i. row_at ws' (base + width * i) width) (λ i. row_at ws (base + width * i) width) (λ i h. row_apart (base + width * i) width (part i h s))
    where
      part : (i : ℕ) → i < n → Apart a e base (base + width * n) → Apart a e (base + width * i) (base + width * i + width)
      part i h (before l) = before (omega (arith, row_within width i n h))
      part i h (behind l) = behind (omega arith)
