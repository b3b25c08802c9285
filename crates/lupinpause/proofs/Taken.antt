-- What one more read adds to what was taken of an input. Assumes nothing.
use Prim.Native.Nat.{ℕ, ◌+◌, ◌≤◌}
use mathlib.Core.Path.{◌≡◌, sym, ◌∙◌, ap, subst}
use mathlib.Core.List.{List, ◌++◌}
use borrow.Rule.Slice.PartMut.{put_mid, post_of}
use lib.ListN.{length, take}
use lib.Seq.{length-take-le, take-append-add, take-append-le}
use Rattle.std.specs.declared.option.Option.{Option}
use Rattle.std.specs.Io.KnownBytes.{Consumes}
use Rattle.std.proofs.KnownBytes.{Consumes-trans}

-- the bytes that a read put behind the first ones
pub taken_more : (old mid new : Option (List ℕ)) (at k n : ℕ) (xs ys : List ℕ) → at ≤ length xs → n ≤ length ys
    → Consumes old mid (take at xs) → Consumes mid new (take n ys) → Consumes old new (take (at + n) (put_mid at k xs ys))
taken_more old mid new at k n xs ys p q first second =
    let rest = ys ++ post_of at k xs in
    let front : take (at + n) (put_mid at k xs ys) ≡ take at xs ++ take n ys =
    ap (λ m. take (m + n) (take at xs ++ rest)) (sym (length-take-le at xs p)) ∙ take-append-add (take at xs) rest n ∙ ap (λ l. take at xs ++ l) (take-append-le n ys _ q) in
    subst (Consumes old new) (sym front) (Consumes-trans old mid new _ _ first second)
