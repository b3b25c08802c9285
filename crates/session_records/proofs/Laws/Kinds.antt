-- The records of a session as chunks of its bytes, and what their kinds say. Assumes nothing.
use Prim.Native.Nat.{ℕ, zero, suc, ◌+◌, ◌*◌, ◌≤◌}
use mathlib.Core.Path.{◌≡◌, refl, sym, ◌∙◌, ap}
use mathlib.Core.List.{List, [], ◌∷◌}
use mathlib.Core.Bool.{Bool, true, false}
use native.Mathlib.Omega.{arith}
use lib.ListN.{length, get_or, take, drop}
use Rattle.std.proofs.lemmas.List.{drop-drop}
use Rattle.std.specs.Simd.{first_chunks}
use Rattle.std.specs.List.{IsAllAdjacentAnswer, AllWithin}
use borrow.Author.Tests.{lt-ltb, le-ltb, tests}
use Rattle.std.proofs.Common.{rules}
use lib.Dec.{ltb}
use Rattle.std.specs.Ordering.{is_le, nat_cmp}
use Rattle.std.proofs.lemmas.Map.Keys.{le_from_is_le}
use native.Mathlib.Numerals.{add-one}
use Rattle.lists.specs.Lists.{rising_from, count_below}
use Rattle.lists.proofs.Laws.Range.{refuted, not_both}
use Rattle.lists.proofs.Laws.Rising.{order, less, same, more, rising_all, rising_next, first_below, rest_above}
use Rattle.lists.proofs.Laws.Lists.{select-length}
use Rattle.lists.proofs.Laws.Fill.{tab_ext}
use Rattle.lists.specs.Lists.{tab}
use Rattle.session.specs.Limits.{record_bytes}
use Rattle.session.specs.Record.{Record, record_at, record_count, records_of, kind_of}

chunk_next : (s : List ℕ) (i : ℕ) → record_at (drop record_bytes s) i ≡ record_at s (suc i)
unfolding record_at
chunk_next s i = ap (take record_bytes) (drop-drop (record_bytes * i) record_bytes s ∙ ap (λ n. drop n s) (omega arith))

chunks_at : (n : ℕ) (s : List ℕ) → first_chunks record_bytes n s ≡ tab n (record_at s)
unfolding tab record_at
chunks_at zero s = refl
chunks_at (suc n) s =
    ap (λ xs. take record_bytes s ∷ xs) (chunks_at n (drop record_bytes s) ∙ tab_ext n (record_at (drop record_bytes s)) (λ i. record_at s (suc i)) (λ i l. chunk_next s i))

pub chunks_are : (s : List ℕ) → first_chunks record_bytes (record_count s) s ≡ records_of s
unfolding records_of
chunks_are s = chunks_at (record_count s) s

le_is_le : (a b : ℕ) → a ≤ b → is_le (nat_cmp a b) ≡ true
le_is_le a b h = search (rules, tests, arith)

-- kinds that never fall, as the answers of neighbours say
pub rises_said : (xs : List Record) (r : Bool)
    → IsAllAdjacentAnswer (λ x y b. b ≡ is_le (nat_cmp (kind_of x) (kind_of y))) xs r
    → r ≡ rising_from kind_of 0 xs
rises_said xs true h =
    sym (rising_all kind_of [] 0 xs (λ l. omega arith) λ i l.
    let up : kind_of (get_or xs i []) ≤ kind_of (get_or xs (i + 1) []) = le_from_is_le _ _ (sym (h i [] (omega arith))) in
    rw add-one at up)
rises_said xs false h =
    sym (refuted (rising_from kind_of 0 xs) λ t.
    let up : kind_of (get_or xs h.0 []) ≤ kind_of (get_or xs (h.0 + 1) []) = rw add-one (rising_next kind_of [] 0 xs t h.0 (omega (arith, h.1))) in
    not_both _ (le_is_le _ _ up) (sym (h.2 [])))

-- the place up to which kinds are below k is how many are
pub point_is : (xs : List Record) (k i : ℕ) → rising_from kind_of 0 xs ≡ true → i ≤ length xs
    → AllWithin (λ rec. ltb (kind_of rec) k ≡ true) xs 0 i
    → AllWithin (λ rec. ltb (kind_of rec) k ≡ false) xs i (length xs)
    → i ≡ count_below kind_of k xs
point_is xs k i rising le before behind = elim (order i (count_below kind_of k xs)) [
  | less l ↦
      let short : count_below kind_of k xs ≤ length xs = select-length (λ rec. ltb (kind_of rec) k) xs in
      let low = first_below kind_of [] k 0 xs rising i l in
      absurd (not_both _ (lt-ltb _ _ low) (behind i [] (omega arith) (omega arith)))
  | same e ↦ e
  | more l ↦
      let high = rest_above kind_of [] k 0 xs rising (count_below kind_of k xs) (omega arith) (omega arith) in
      absurd (not_both _ (before (count_below kind_of k xs) [] (omega arith) l) (le-ltb _ _ high))
]
