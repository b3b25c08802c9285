-- What becomes of rows, by whether there is room for one more. Assumes nothing.
use Prim.Native.Nat.{ℕ, zero, suc, ◌+◌, ◌-◌, ◌*◌, ◌≤◌, ◌<◌}
use mathlib.Core.Path.{◌≡◌, refl, sym, ◌∙◌, ap}
use mathlib.Core.List.{List, []}
use native.Mathlib.Nat.{mul-le-mul_left, min-eq_left, min-eq_right, le_trans}
use native.Mathlib.Numerals.{add-one}
use native.Mathlib.Omega.{arith}
use lib.ListN.{length, get_or, take}
use lib.Seq.{take_all}
use Rattle.lists.specs.Lists.{tab, rising_from}
use Rattle.lists.proofs.Laws.Outside.{outside_none, outside_wider, outside_then}
use Rattle.lists.specs.Changed.{inserted}
use Rattle.rows.specs.Rows.{row_at, rows_at, key_of}
use Rattle.rows.specs.Change.{Room, Place, Put, Inserted}
use Rattle.rows.proofs.Laws.Product.{row_within}
use Rattle.rows.proofs.Laws.Moves.{Shifted, Stored}
use Rattle.rows.proofs.Laws.Insert.{inserted-length, full_last, full_before, rising_inserted}
use Rattle.rows.proofs.Laws.Rows.{row_key, rows_length, rows_key, rows_more, rising_fewer, rising_keys, put_rows}

module _ (ws ws' : List ℕ) (base : ℕ) (row : List ℕ) where
  -- there is room
  pub kept_more : (count cap : ℕ) → Room ws base count cap row → count < cap → Put ws ws' base count row → Inserted ws ws' base count cap row (count + 1)
  kept_more count cap r h p =
      let old = rows_at ws base (length row) count in
      record {
        number = sym (min-eq_left (omega arith));
        rows =
            p.rows
            ∙ sym (take_all cap (inserted key_of row old) (omega (arith, inserted-length key_of row old, rows_length ws base (length row) count)));
        rises = rw p.rows (rising_inserted key_of 0 row old (omega arith) r.rises);
        outside = p.outside;
      }

  -- there is none, and the last row goes
  pub kept_before : (m : ℕ) → Room ws base (suc m) (suc m) row → key_of row < get_or ws (base + length row * m) 0 → Put ws ws' base m row
      → Inserted ws ws' base (suc m) (suc m) row (suc m)
  kept_before m r h p =
      let w = length row in
      let old = rows_at ws base w m in
      let l = row_at ws (base + w * m) w in
      let now : rows_at ws' base w (suc m) ≡ inserted key_of row old = rw add-one at p.rows in
      record {
        number = sym (min-eq_right (omega arith));
        rows =
            now
            ∙ sym (full_before key_of row l m old (rows_length ws base w m) (rw (row_key ws (base + w * m) w r.wide) h))
            ∙ ap (λ t. take (suc m) (inserted key_of row t)) (sym (rows_more ws base w m));
        rises = rw now (rising_inserted key_of 0 row old (omega arith) (rising_fewer ws base w m r.rises));
        outside = rw add-one at p.outside;
      }

-- there is none, and the new one goes
module _ (ws : List ℕ) (base : ℕ) (row : List ℕ) where
  pub kept_last : (m : ℕ) → Room ws base (suc m) (suc m) row → get_or ws (base + length row * m) 0 ≤ key_of row → Inserted ws ws base (suc m) (suc m) row (suc m)
  kept_last m r h =
      let w = length row in
      let old = rows_at ws base w (suc m) in
      record {
        number = sym (min-eq_right (omega arith));
        rows =
            sym (full_last key_of [] row (suc m) old (rows_length ws base w (suc m))
            (λ i l.
            let n : i < suc m = omega (arith, rows_length ws base w (suc m)) in
            rw (rows_key ws base w r.wide (suc m) i n) (le_trans (rising_keys ws base w r.wide (suc m) r.rises i m (omega arith) (omega arith)) h)));
        rises = r.rises;
        outside = outside_none ws base (base + w * suc m);
      }

  pub kept_none : Inserted ws ws base 0 0 row 0
  unfolding rows_at tab rising_from
  kept_none = record { number = refl; rows = refl; rises = refl; outside = outside_none ws base (base + length row * 0) }

-- the same by the number of rows, where there are as many as may be kept and at least one
module _ (ws ws' : List ℕ) (base : ℕ) (row : List ℕ) where
  pub room_before : (count cap : ℕ) → 0 < count → Room ws base count cap row → Room ws base (count - 1) (count - 1 + 1) row
  room_before zero cap h r = absurd (omega arith)
  room_before (suc m) cap h r =
      let z : suc m - 1 ≡ m = omega arith in
      rw z (record {
        wide = r.wide;
        fits = omega (arith, r.fits, mul-le-mul_left (length row) (fewer m cap r.kept));
        kept = omega arith;
        rises = rising_fewer ws base (length row) m r.rises;
      })
    where
      fewer : (m cap : ℕ) → suc m ≤ cap → m + 1 ≤ cap
      fewer m cap h = omega arith

  pub full_kept_last : (count cap : ℕ) → 0 < count → cap ≤ count → Room ws base count cap row
      → get_or ws (base + length row * (count - 1)) 0 ≤ key_of row → Inserted ws ws base count cap row count
  full_kept_last zero cap h f r g = absurd (omega arith)
  full_kept_last (suc m) cap h f r g =
      let z : suc m - 1 ≡ m = omega arith in
      let y : cap ≡ suc m = omega (arith, r.kept) in
      rw y (kept_last ws base row m (rw y at r) (rw z at g))

  pub full_kept_before : (count cap : ℕ) → 0 < count → cap ≤ count → Room ws base count cap row
      → key_of row < get_or ws (base + length row * (count - 1)) 0 → Put ws ws' base (count - 1) row → Inserted ws ws' base count cap row count
  full_kept_before zero cap h f r g p = absurd (omega arith)
  full_kept_before (suc m) cap h f r g p =
      let z : suc m - 1 ≡ m = omega arith in
      let y : cap ≡ suc m = omega (arith, r.kept) in
      rw y (kept_before ws ws' base row m (rw y at r) (rw z at g) (rw z at p))

-- a row put in: the rows behind its place moved up, then the row stored
pub put_in : (ws ws' ws'' : List ℕ) (base count place : ℕ) (row : List ℕ) → 0 < length row
    → Place ws base (length row) count (key_of row) place
    → Shifted ws ws' (base + length row * place) (base + length row * count) (length row)
    → Stored ws' ws'' (base + length row * place) row
    → Put ws ws'' base count row
put_in ws ws' ws'' base count place row l p s t =
    let w = length row in
    let e = base + w * (count + 1) in
    let h : w * place + w ≤ w * (count + 1) = row_within w place (count + 1) (omega (arith, p.within)) in
    let g : w * count + w ≤ w * (count + 1) = row_within w count (count + 1) (omega arith) in
    record {
      rows = put_rows ws ws' ws'' base count place row l p s t;
      outside =
          outside_then ws ws' ws'' base e
          (outside_wider ws ws' (base + w * place + w) (base + w * count + w) base e (omega arith) (omega arith) s.outside)
          (outside_wider ws' ws'' (base + w * place) (base + w * place + w) base e (omega arith) (omega arith) t.outside);
    }
