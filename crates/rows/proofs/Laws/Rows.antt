-- Rows by number, a row put among them, and rows decoded. Assumes nothing.
use Prim.Native.Nat.{ℕ, suc, ◌+◌, ◌*◌, ◌≤◌, ◌<◌}
use mathlib.Core.Path.{◌≡◌, sym, ◌∙◌, ap, ap₂, fun_ext}
use mathlib.Core.List.{List, [], ◌∷◌, ◌++◌, map}
use native.Mathlib.Nat.{add-zero, mul-suc, mul-le-mul_left}
use native.Mathlib.Numerals.{add-one}
use native.Mathlib.Omega.{arith}
use lib.ListN.{length, get_or, take}
use lib.Seq.{take_at}
use Rattle.lists.specs.Lists.{tab, rising_from}
use Rattle.lists.proofs.Laws.Lists.{length-tab, get_d_tab}
use Rattle.lists.proofs.Laws.Fill.{tab_more, tab_ext}
use Rattle.lists.proofs.Laws.Choice.{rising_map}
use Rattle.lists.proofs.Laws.Rising.{rising_le, rising_lower, rising_tail}
use Rattle.lists.specs.Changed.{inserted}
use Rattle.lists.proofs.Laws.Each.{inserted-map, take-map}
use Rattle.rows.specs.Rows.{row_at, rows_at, key_of, Rising}
use Rattle.rows.specs.Change.{Place, Inserted}
use Rattle.rows.proofs.Laws.Product.{row_within}
use Rattle.rows.proofs.Laws.Moves.{Shifted, Stored}
use Rattle.rows.proofs.Laws.Insert.{inserted-tab, rising_take}

-- a row's key is its first word
pub row_key : (ws : List ℕ) (at width : ℕ) → 0 < width → key_of (row_at ws at width) ≡ get_or ws at 0
unfolding row_at
row_key ws at width h = get_d_tab 0 width (λ i. get_or ws (at + i) 0) 0 h ∙ ap (λ k. get_or ws k 0) (add-zero at)

module _ (ws : List ℕ) (base width : ℕ) where
  pub rows_length : (n : ℕ) → length (rows_at ws base width n) ≡ n
  unfolding rows_at
  rows_length n = length-tab n (λ i. row_at ws (base + width * i) width)

  pub rows_at_lem : (n i : ℕ) → i < n → get_or (rows_at ws base width n) i [] ≡ row_at ws (base + width * i) width
  unfolding rows_at
  rows_at_lem n i h = get_d_tab [] n (λ i. row_at ws (base + width * i) width) i h

  pub rows_key : 0 < width → (n i : ℕ) → i < n → key_of (get_or (rows_at ws base width n) i []) ≡ get_or ws (base + width * i) 0
  rows_key l n i h = ap key_of (rows_at_lem n i h) ∙ row_key ws (base + width * i) width l

  pub rows_more : (n : ℕ) → rows_at ws base width (suc n) ≡ rows_at ws base width n ++ (row_at ws (base + width * n) width ∷ [])
  unfolding rows_at
  rows_more n = tab_more n (λ i. row_at ws (base + width * i) width)

  -- the first n of n + 1 rows
  pub rows_fewer : (n : ℕ) → rows_at ws base width n ≡ take n (rows_at ws base width (suc n))
  rows_fewer n = sym (ap (take n) (rows_more n) ∙ take_at (rows_at ws base width n) (row_at ws (base + width * n) width ∷ []) n (rows_length n))

  pub rising_fewer : (n : ℕ) → Rising (rows_at ws base width (suc n)) → Rising (rows_at ws base width n)
  rising_fewer n e = rw (rows_fewer n) (rising_take key_of 0 n (rows_at ws base width (suc n)) e)

  -- the first of n + 1 rows, and those behind it
  pub rows_first : (n : ℕ) → rows_at ws base width (suc n) ≡ row_at ws base width ∷ rows_at ws (base + width) width n
  unfolding rows_at tab
  rows_first n =
      let z : base + width * 0 ≡ base = omega arith in
      ap₂ ◌∷◌ (ap (λ at. row_at ws at width) z)
      (tab_ext n (λ i. row_at ws (base + width * suc i) width) (λ i. row_at ws (base + width + width * i) width)
      (λ i h.
      let e : base + width * suc i ≡ base + width + width * i = omega (arith, mul-suc width i) in
      ap (λ at. row_at ws at width) e))

  pub rising_behind : (n : ℕ) → Rising (rows_at ws base width (suc n)) → Rising (rows_at ws (base + width) width n)
  rising_behind n e =
      let row = row_at ws base width in
      let rest = rows_at ws (base + width) width n in
      rising_lower key_of 0 (key_of row) rest (omega arith) (rising_tail key_of 0 row rest (rw (rows_first n) at e))

  -- the keys of rows that rise
  pub rising_keys : 0 < width → (n : ℕ) → Rising (rows_at ws base width n) → (i j : ℕ) → i ≤ j → j < n → get_or ws (base + width * i) 0 ≤ get_or ws (base + width * j) 0
  rising_keys l n e i j h m =
      let k : key_of (get_or (rows_at ws base width n) i []) ≤ key_of (get_or (rows_at ws base width n) j []) =
      rising_le key_of [] 0 (rows_at ws base width n) e i j h (omega (arith, rows_length n)) in
      omega (arith, rows_key l n i (omega arith), rows_key l n j m)

-- where the rows from a place on are moved up by one, and a row is stored at the place, it is put among them
module _ (ws ws' ws'' : List ℕ) (base count place : ℕ) (row : List ℕ) (wide : 0 < length row) where
  pub put_rows : Place ws base (length row) count (key_of row) place
      → Shifted ws ws' (base + length row * place) (base + length row * count) (length row)
      → Stored ws' ws'' (base + length row * place) row
      → rows_at ws'' base (length row) (count + 1) ≡ inserted key_of row (rows_at ws base (length row) count)
  unfolding rows_at row_at
  put_rows p s t =
      let w = length row in
      ap (λ n. tab n (λ i. row_at ws'' (base + w * i) w)) (add-one count)
      ∙ inserted-tab key_of row count place (λ i. row_at ws (base + w * i) w) (λ i. row_at ws'' (base + w * i) w) p.within
      (λ i l. rw (row_key ws (base + w * i) w wide) (p.before i l))
      (λ l. rw (row_key ws (base + w * place) w wide) (p.after l))
      (λ i l. tab_ext w (λ j. get_or ws'' (base + w * i + j) 0) (λ j. get_or ws (base + w * i + j) 0)
      (λ j m.
      t.outside.below (base + w * i + j) (omega (arith, row_within w i place l))
      ∙ s.outside.below (base + w * i + j) (omega (arith, row_within w i place l))))
      t.stored
      (λ i l m. tab_ext w (λ j. get_or ws'' (base + w * suc i + j) 0) (λ j. get_or ws (base + w * i + j) 0)
      (λ j n.
      let z : base + w * suc i + j ≡ base + w * i + j + w = omega (arith, mul-suc w i) in
      t.outside.above (base + w * suc i + j) (omega (arith, mul-suc w i, mul-le-mul_left w l))
      ∙ ap (λ k. get_or ws' k 0) z
      ∙ s.moved (base + w * i + j) (omega (arith, mul-le-mul_left w l)) (omega (arith, row_within w i count m))))

-- rows decoded by something that keeps the key
module _ {A : Type 0} (f : List ℕ → A) (key : A → ℕ) (preserves : (row : List ℕ) → key (f row) ≡ key_of row) where
  pub decoded : (ws ws' : List ℕ) (base count cap : ℕ) (row : List ℕ) (n : ℕ) → Inserted ws ws' base count cap row n
      → map f (rows_at ws' base (length row) n) ≡ take cap (inserted key (f row) (map f (rows_at ws base (length row) count)))
  decoded ws ws' base count cap row n h =
      ap (map f) h.rows
      ∙ take-map f cap (inserted key_of row (rows_at ws base (length row) count))
      ∙ ap (take cap) (inserted-map key_of key f preserves row (rows_at ws base (length row) count))

  pub decoded_rises : (rows : List (List ℕ)) → rising_from key 0 (map f rows) ≡ rising_from key_of 0 rows
  decoded_rises rows = rising_map f key 0 rows ∙ ap (λ k. rising_from k 0 rows) (fun_ext preserves)
