-- What is counted before a run. Assumes nothing.
use Prim.Native.Nat.{ℕ, zero, suc, ◌+◌, ◌-◌, ◌*◌, ◌<◌}
use mathlib.Core.Path.{◌≡◌, refl}
use mathlib.Core.Bool.{true}
use mathlib.Core.List.{List, ◌++◌}
use native.Mathlib.Omega.{arith}
use borrow.Author.Tests.{eqb-true}
use lib.Dec.{eqb}
use lib.ListN.{get_or, set, replicate}
use Rattle.lists.specs.Range.{all}
use Rattle.lists.proofs.Laws.Range.{all_each}
use Rattle.session.specs.Limits.{max_levels}
use Rattle.tallies.specs.Places.{next_place, waiting_place, versions_place, busy_place, start_tallies}

-- what is counted, with the first write stamps of n levels
abbrev pub first_stamps : ℕ → List ℕ
first_stamps n = replicate max_levels 0 ++ replicate n 1 ++ replicate (5 * max_levels + 1 - n) 0

pub stamps_more : (n : ℕ) → n < max_levels → set (first_stamps n) (next_place n) 1 ≡ first_stamps (n + 1)
stamps_more zero h = refl
stamps_more (suc zero) h = refl
stamps_more (suc (suc zero)) h = refl
stamps_more (suc (suc (suc zero))) h = refl
stamps_more (suc (suc (suc (suc zero)))) h = refl
stamps_more (suc (suc (suc (suc (suc zero))))) h = refl
stamps_more (suc (suc (suc (suc (suc (suc zero)))))) h = refl
stamps_more (suc (suc (suc (suc (suc (suc (suc zero))))))) h = refl
stamps_more (suc (suc (suc (suc (suc (suc (suc (suc n)))))))) h = absurd (omega arith)

-- the same is counted of every level
at_first : (place : ℕ → ℕ) (n : ℕ) → all max_levels (λ l. eqb (get_or start_tallies (place l) 0) n) ≡ true → (l : ℕ) → l < max_levels → get_or start_tallies (place l) 0 ≡ n
at_first place n q l h = eqb-true _ n (all_each max_levels _ q l h)

pub first_ended : (l : ℕ) → l < max_levels → get_or start_tallies l 0 ≡ 0
first_ended = at_first (λ l. l) 0 (unfold all in refl)

pub first_next : (l : ℕ) → l < max_levels → get_or start_tallies (next_place l) 0 ≡ 1
first_next = at_first next_place 1 (unfold all in refl)

pub first_waiting : (l : ℕ) → l < max_levels → get_or start_tallies (waiting_place l) 0 ≡ 0
first_waiting = at_first waiting_place 0 (unfold all in refl)

pub first_versions : (l : ℕ) → l < max_levels → get_or start_tallies (versions_place l) 0 ≡ 0
first_versions = at_first versions_place 0 (unfold all in refl)

pub first_busy : (l : ℕ) → l < max_levels → get_or start_tallies (busy_place l) 0 ≡ 0
first_busy = at_first busy_place 0 (unfold all in refl)
