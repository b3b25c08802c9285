-- What `all` answers over the numbers below n and over the items of a list, and `any` over the numbers below n, where the closure computes
-- a test. Assumes nothing.
use Rattle.std.proofs.Common.{◌≡◌, ℕ, zero, suc, ◌+◌, ◌≤◌, ◌<◌, Bool, true, false, not, ◌&&◌, ◌||◌, Option, Some, None, List, [], ◌∷◌, ◌++◌, length, get_or, unwrap_or, refl, sym, ap, ap₂, ◌∙◌, arith}
use Rattle.std.proofs.Math.Bool.{and-true}
use Rattle.std.specs.Fn.{Called}
use Rattle.std.specs.Iterator.{YieldsThen}
use Rattle.std.specs.Option.{MatchOption}
use Rattle.std.specs.declared.ops.Range.{Range}
use Rattle.std.specs.List.{FoldsTo, list_all, list_any, range_with_len}
use Rattle.std.proofs.iter.Yields.{nat_range_steps}
use Rattle.std.proofs.lemmas.Iterator.{YieldsList-from_range}
use Rattle.std.proofs.lemmas.Iterator.Search.{all_from_yields_List}
use Rattle.std.proofs.lemmas.List.Folds.{list_all-append}
use denote.Param.Members.{Mut}
use Rattle.std.proofs.lemmas.Iterator.Search.{any_from_yields_List}
use Rattle.std.proofs.lemmas.List.Folds.{list_any-append, list_all-map}
use Rattle.std.proofs.lemmas.List.FromFn.{fill_by_all}
use Rattle.lists.specs.Range.{all, first}
use Rattle.lists.proofs.Laws.Range.{first_none, first_at_lem}

range_more : (a n : ℕ) → range_with_len a (suc n) ≡ range_with_len a n ++ ((a + n) ∷ [])
range_more a zero =
    let e : a ≡ a + 0 = omega arith in
    ap (λ x. x ∷ []) e
range_more a (suc n) =
    let e : a + 1 + n ≡ a + suc n = omega arith in
    ap (λ t. a ∷ t) (range_more (a + 1) n ∙ ap (λ x. range_with_len (a + 1) n ++ (x ∷ [])) e)

all_is : (n : ℕ) (p : ℕ → Bool) → list_all p (range_with_len 0 n) ≡ all n p
unfolding all
all_is zero p = refl
all_is (suc n) p =
    let e : 0 + n ≡ n = omega arith in
    ap (list_all p) (range_more 0 n ∙ ap (λ x. range_with_len 0 n ++ (x ∷ [])) e) ∙ list_all-append p (range_with_len 0 n) (n ∷ []) ∙ ap₂ ◌&&◌ (all_is n p) (and-true (p n))

any_is : (n : ℕ) (p : ℕ → Bool) → list_any p (range_with_len 0 n) ≡ not (all n (λ i. not (p i)))
unfolding all
any_is zero p = refl
any_is (suc n) p =
    let e : 0 + n ≡ n = omega arith in
    ap (list_any p) (range_more 0 n ∙ ap (λ x. range_with_len 0 n ++ (x ∷ [])) e)
    ∙ list_any-append p (range_with_len 0 n) (n ∷ [])
    ∙ ap (λ b. b || (p n || false)) (any_is n p)
    ∙ either (all n (λ i. not (p i))) (p n)
  where
    either : (a b : Bool) → (not a || (b || false)) ≡ not (a && not b)
    either true true = refl
    either true false = refl
    either false b = refl

-- the test of each item is the test of each place
pub all_items : (xs : List ℕ) (p : ℕ → Bool) → list_all p xs ≡ all (length xs) (λ i. p (get_or xs i 0))
all_items xs p =
    let at = λ (i : ℕ). get_or xs i 0 in
    ap (list_all p) (fill_by_all at xs (length xs) 0 refl (λ k h. refl)) ∙ list_all-map p at (range_with_len 0 (length xs)) ∙ all_is (length xs) _

-- the answer of `(0..n).all(f)`
pub all_below : {F : Type 0} {g : Mut F (ℕ × Unit {0}) Bool} (n : ℕ) (test : ℕ → Bool) (s u : Range ℕ) (f : F) (r : Bool)
    → s ≡ record { start = 0; end = n }
    → (xs : List ℕ) × (o : Option ℕ) × (j : F) × YieldsThen nat_range_steps s xs o u × FoldsTo (λ p x q. Called g p (x, tt) true q) f xs j
    × MatchOption o (r ≡ true) (λ x. (r ≡ false) × ((h : F) × Called g j (x, tt) false h))
    → ((x : ℕ) (b : Bool) (q : F) → Called g f (x, tt) b q → (q ≡ f) × (b ≡ test x))
    → r ≡ all n test
all_below n test s u f r e ran k = all_from_yields_List test u f r ran (YieldsList-from_range 0 n n e (omega arith)) k ∙ all_is n test

-- the answer of `(0..n).any(f)`
pub any_below : {F : Type 0} {g : Mut F (ℕ × Unit {0}) Bool} (n : ℕ) (test : ℕ → Bool) (s u : Range ℕ) (f : F) (r : Bool)
    → s ≡ record { start = 0; end = n }
    → (xs : List ℕ) × (o : Option ℕ) × (j : F) × YieldsThen nat_range_steps s xs o u × FoldsTo (λ p x q. Called g p (x, tt) false q) f xs j
    × MatchOption o (r ≡ false) (λ x. (r ≡ true) × ((h : F) × Called g j (x, tt) true h))
    → ((x : ℕ) (b : Bool) (q : F) → Called g f (x, tt) b q → (q ≡ f) × (b ≡ test x))
    → r ≡ not (all n (λ i. not (test i)))
any_below n test s u f r e ran k = any_from_yields_List test u f r ran (YieldsList-from_range 0 n n e (omega arith)) k ∙ any_is n test

-- the answer of `(0..n).find(f).unwrap_or(n)`
pub first_found_or : (n : ℕ) (p : ℕ → Bool) (r : Option ℕ)
    → MatchOption r ((k : ℕ) → 0 ≤ k → k < n → p k ≡ false) (λ i. (0 ≤ i) × (i < n) × (p i ≡ true) × ((k : ℕ) → 0 ≤ k → k < i → p k ≡ false))
    → unwrap_or r n ≡ first n p
first_found_or n p None h = sym (first_none n p (λ k l. h k (omega arith) l))
first_found_or n p (Some i) h = sym (first_at_lem n p i h.1 h.2 (λ k l. h.3 k (omega arith) l))
