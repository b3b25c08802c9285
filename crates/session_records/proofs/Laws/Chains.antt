-- What a chain that ends in `all` answers: whether each element, or each number of a range, passes a test. Assumes nothing.
use Prim.Native.Nat.{ℕ, ◌<◌}
use Rattle.std.proofs.Common.{Option}
use denote.Param.Members.{Mut}
use Rattle.std.specs.Option.{MatchOption}
use Rattle.std.specs.declared.ops.Range.{Range}
use Rattle.std.specs.Fn.{Called}
use Rattle.std.specs.Iterator.{YieldsThen}
use Rattle.std.proofs.iter.Yields.{nat_range_steps}
use Rattle.std.specs.Bool.{MatchBool}
use Rattle.std.specs.List.{AllWithin, HoldsAt, FoldsTo, range_with_len}
use Rattle.std.proofs.lemmas.Iterator.{YieldsList, cases_from_all, YieldsList-from_range}
use Rattle.std.proofs.Math.Nat.{zero-add}
use Rattle.std.proofs.lemmas.List.FromFn.{length-range_with_len, get_or-range_with_len}
use mathlib.Core.Path.{◌≡◌, refl, sym}
use mathlib.Core.Bool.{Bool, true, false}
use mathlib.Core.List.{List, [], ◌∷◌}
use lib.ListN.{length, get_or}
use native.Mathlib.Omega.{arith}
use Rattle.lists.specs.Range.{all}
use Rattle.lists.specs.Lists.{every}
use Rattle.lists.proofs.Laws.Range.{refuted, not_both, all-every, all_fails}
use Rattle.lists.proofs.Laws.Lists.{every_each, every-all}

every_cases : {B : Type 0} (p : B → Bool) (xs : List B) (r : Bool)
    → MatchBool r (AllWithin (λ y. p y ≡ true) xs 0 (length xs)) ((k : ℕ) × (k < length xs) × HoldsAt (λ y. p y ≡ false) xs k)
    → r ≡ every p xs
unfolding every
every_cases p [] true h = refl
every_cases p [] false h = absurd (omega arith)
every_cases p (x ∷ xs) true h = sym (every-all p x (x ∷ xs) (λ i l. h i x (omega arith) l))
every_cases p (x ∷ xs) false h = sym (refuted (every p (x ∷ xs)) λ t. not_both (p (get_or (x ∷ xs) h.0 x)) (every_each p x (x ∷ xs) t h.0 h.1) (h.2 x))

all_cases : (p : ℕ → Bool) (n : ℕ) (r : Bool)
    → MatchBool r (AllWithin (λ y. p y ≡ true) (range_with_len 0 n) 0 (length (range_with_len 0 n))) ((k : ℕ) × (k < length (range_with_len 0 n)) × HoldsAt (λ y. p y ≡ false) (range_with_len 0 n) k)
    → r ≡ all n p
all_cases p n true h =
    sym (all-every n p λ i l. rw (get_or-range_with_len 0 n i 0 l, zero-add) at (h i 0 (omega arith) (rw (length-range_with_len 0 n) l)))
all_cases p n false h =
    let l : h.0 < n = rw (length-range_with_len 0 n) at h.1 in
    sym (all_fails n p h.0 l (rw (get_or-range_with_len 0 n h.0 0 l, zero-add) at (h.2 0)))

-- xs are the items of a chain's source, as v reads them; each call of the closure tests its item by p
pub every_ran : {S A B F : Type 0} {steps : S → Option A → S → Type 0} {v : A → B} {g : Mut F (A × Unit {0}) Bool} {s : S} {xs : List B} (u : S) (f : F) (r : Bool) (p : B → Bool)
    → (ys : List A) × (o : Option A) × (j : F) × YieldsThen steps s ys o u × FoldsTo (λ q x q'. Called g q (x, tt) true q') f ys j
    × MatchOption o (r ≡ true) (λ x. (r ≡ false) × ((h : F) × Called g j (x, tt) false h))
    → YieldsList steps v s xs
    → ((x : A) (b : Bool) (q : F) → Called g f (x, tt) b q → (b ≡ p (v x)) × (q ≡ f))
    → r ≡ every p xs
every_ran u f r p ran y tests =
    every_cases p _ r
    (cases_from_all u f r (λ x. p x ≡ true) (λ x. p x ≡ false) ran y
    (λ x q k. let e = tests x true q k in (e.1, sym e.0))
    (λ x q k. sym (tests x false q k).0))

-- the same, where the source is the numbers below n
pub all_ran : {F : Type 0} {g : Mut F (ℕ × Unit {0}) Bool} {s : Range ℕ} (u : Range ℕ) (f : F) (r : Bool) (n : ℕ) (p : ℕ → Bool)
    → s ≡ record { start = 0; end = n }
    → (ys : List ℕ) × (o : Option ℕ) × (j : F) × YieldsThen nat_range_steps s ys o u × FoldsTo (λ q x q'. Called g q (x, tt) true q') f ys j
    × MatchOption o (r ≡ true) (λ x. (r ≡ false) × ((h : F) × Called g j (x, tt) false h))
    → ((x : ℕ) (t : Bool) (q : F) → Called g f (x, tt) t q → (t ≡ p x) × (q ≡ f))
    → r ≡ all n p
all_ran u f r n p e ran tests =
    all_cases p n r
    (cases_from_all u f r (λ x. p x ≡ true) (λ x. p x ≡ false) ran (YieldsList-from_range 0 n n e (omega arith))
    (λ x q k. let t = tests x true q k in (t.1, sym t.0))
    (λ x q k. sym (tests x false q k).0))
