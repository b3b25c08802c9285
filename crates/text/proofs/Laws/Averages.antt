-- Sums of script steps, by level. Assumes nothing.
use Prim.Native.Nat.{ℕ, zero, suc, ◌+◌}
use mathlib.Core.Path.{◌≡◌, refl, ◌∙◌, ap}
use mathlib.Core.Bool.{Bool, false}
use mathlib.Core.List.{List, [], ◌∷◌, ◌++◌, map}
use native.Mathlib.Omega.{arith}
use borrow.Author.Tests.{ltb-false}
use lib.Dec.{ltb}
use lib.ListN.{length}
use Rattle.lists.specs.Lists.{select, tab, joined}
use Rattle.session.specs.Record.{Record}
use Rattle.lists.proofs.Laws.Lists.{holds, fails, truth}
use Rattle.model.specs.Result.{steps_in}
use Rattle.text.specs.Text.{sum_of}

abbrev pub steps_of : List Record → ℕ
steps_of recs = sum_of (map steps_in recs)

-- groups of histories one after the other
steps_append : (xs ys : List Record) → steps_of (xs ++ ys) ≡ steps_of xs + steps_of ys
unfolding sum_of
steps_append [] ys = omega arith
steps_append (x ∷ xs) ys = omega (arith, steps_append xs ys)

pub steps_joined : (n : ℕ) (g : ℕ → List Record) → steps_of (joined (tab n g)) ≡ sum_of (tab n (λ l. steps_of (g l)))
unfolding joined tab sum_of
steps_joined zero g = refl
steps_joined (suc n) g =
    steps_append (g zero) (joined (tab n (λ l. g (suc l)))) ∙ ap (λ k. steps_of (g zero) + k) (steps_joined n (λ l. g (suc l)))

-- no history, no steps
pub steps_none : (recs : List Record) → ltb 0 (length recs) ≡ false → steps_of recs ≡ 0
unfolding sum_of
steps_none [] e = refl
steps_none (rec ∷ recs) e = absurd (omega (arith, ltb-false 0 (suc (length recs)) e))

-- a sum over chosen numbers, where those left out add nothing
pub sum_chosen : (t : ℕ → Bool) (f : ℕ → ℕ) → ((k : ℕ) → t k ≡ false → f k ≡ 0) → (n : ℕ) (g : ℕ → ℕ) → sum_of (map f (select t (tab n g))) ≡ sum_of (tab n (λ i. f (g i)))
unfolding select tab sum_of
sum_chosen t f h zero g = refl
sum_chosen t f h (suc n) g = elim (truth (t (g zero))) [
  | holds e ↦ rw e (ap (λ k. f (g zero) + k) (sum_chosen t f h n (λ i. g (suc i))))
  | fails e ↦ rw e (omega (arith, h (g zero) e, sum_chosen t f h n (λ i. g (suc i))))
]
