-- Whole records: those of a session are, and such as are joined are cut back into themselves. Assumes nothing.
use Prim.Native.Nat.{ℕ, suc, ◌+◌, ◌*◌, ◌/◌}
use mathlib.Core.Path.{◌≡◌, refl, ◌∙◌, ap, fun_ext}
use mathlib.Core.Bool.{Bool, true}
use mathlib.Core.List.{List, [], ◌∷◌, ◌++◌}
use native.Mathlib.Omega.{arith}
use borrow.Author.Tests.{eqb-true, eq-eqb}
use lib.Dec.{eqb}
use lib.ListN.{length, take, length-append, length-take, length-drop}
use lib.Seq.{take_at, drop-append-add}
use Rattle.lists.proofs.Laws.Range.{and_left, and_right}
use Rattle.session.specs.Limits.{record_bytes}
use Rattle.lists.specs.Lists.{every, tab, joined}
use Rattle.session.specs.Record.{Record, record_at, records_of}
use Rattle.lists.proofs.Laws.Choice.{every-tab}

-- a record of the right length
abbrev pub whole : Record → Bool
whole rec = eqb (length rec) record_bytes

-- the records of a session are whole, also where bytes are left over
pub records_whole : (s : List ℕ) → every whole (records_of s) ≡ true
unfolding records_of record_at
records_whole s = every-tab whole (length s / 16) (record_at s) (λ i h. eq-eqb (length (record_at s i)) 16 (simp (length-take, length-drop) (omega arith)))

-- whole records, joined: 16 bytes for each
pub length-joined : (xs : List Record) → every whole xs ≡ true → length (joined xs) ≡ 16 * length xs
unfolding every joined
length-joined [] e = refl
length-joined (x ∷ xs) e =
    length-append x (joined xs)
    ∙ omega (arith, eqb-true (length x) 16 (and_left (whole x) (every whole xs) e), length-joined xs (and_right (whole x) (every whole xs) e))

-- the first of the records, where it is whole, and those behind it
record_first : (x t : List ℕ) → length x ≡ 16 → record_at (x ++ t) 0 ≡ x
unfolding record_at
record_first x t n = take_at x t 16 n

record_after : (x t : List ℕ) → length x ≡ 16 → (i : ℕ) → record_at (x ++ t) (suc i) ≡ record_at t i
unfolding record_at
record_after x t n i =
    let m : 16 * suc i ≡ length x + 16 * i = omega arith in
    rw m (ap (take 16) (drop-append-add x t (16 * i)))

-- whole records, joined, are cut back into themselves
cut_back : (xs : List Record) → every whole xs ≡ true → tab (length xs) (record_at (joined xs)) ≡ xs
unfolding every joined tab
cut_back [] e = refl
cut_back (x ∷ xs) e =
    let n : length x ≡ 16 = eqb-true (length x) 16 (and_left (whole x) (every whole xs) e) in
    rw (record_first x (joined xs) n, fun_ext (record_after x (joined xs) n), cut_back xs (and_right (whole x) (every whole xs) e))

pub records_joined : (xs : List Record) → every whole xs ≡ true → records_of (joined xs) ≡ xs
unfolding records_of
records_joined xs e =
    let n : length (joined xs) / 16 ≡ length xs = omega (arith, length-joined xs e) in
    rw n (cut_back xs e)
