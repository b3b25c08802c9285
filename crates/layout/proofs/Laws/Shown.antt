-- The page as what is made of each record in its turn, and then of each level. Assumes nothing.
use Prim.Native.Nat.{ℕ, zero, suc, ◌+◌, ◌≤◌, ◌<◌}
use mathlib.Core.Path.{◌≡◌, refl, sym, ◌∙◌, ap, ap₂}
use mathlib.Core.Bool.{Bool}
use mathlib.Core.List.{List, [], ◌++◌, map}
use native.Mathlib.Decide.{dec_lt}
use native.Mathlib.Numerals.{add-one}
use native.Mathlib.Omega.{arith}
use borrow.Author.Tests.{eq-eqb, ne_eqb}
use lib.Dec.{eqb, ltb}
use lib.ListN.{length, length-append}
use Rattle.session.specs.Limits.{max_levels}
use Rattle.lists.specs.Lists.{select, tab, joined}
use Rattle.session.specs.Record.{Record, record_at, record_count, records_of, kind_of}
use Rattle.session.specs.Parts.{of_kind}
use Rattle.lists.proofs.Laws.Fill.{tab_ext}
use Rattle.lists.proofs.Laws.Lists.{holds, fails, truth}
use Rattle.model.specs.Limits.{line_bytes}
use Rattle.model.specs.Result.{level_in, steps_in}
use Rattle.lists.proofs.Laws.Choice.{chosen_groups}
use Rattle.lists.proofs.Laws.Placed.{joined_more}
use Rattle.text.specs.Text.{line_of, total_line, sum_of, managers_at, steps_at, levels_in, average_of, page_of}
use Rattle.layout.specs.Shown.{is_history, shown_line, shown_steps, steps_added, managers_added, Tallied, shown_average, average_in}
use Rattle.text.proofs.Laws.Lengths.{total_length}

-- the lines of those that are histories, and the sum of their steps
lines_chosen : (n : ℕ) (f : ℕ → Record) → joined (map line_of (select is_history (tab n f))) ≡ joined (tab n (λ i. shown_line (f i)))
unfolding joined select tab shown_line
lines_chosen zero f = refl
lines_chosen (suc n) f = elim (truth (is_history (f zero))) [
  | holds e ↦ rw e (ap (λ l. line_of (f zero) ++ l) (lines_chosen n (λ i. f (suc i))))
  | fails e ↦ rw e (lines_chosen n (λ i. f (suc i)))
]

steps_chosen : (n : ℕ) (f : ℕ → Record) → sum_of (map steps_in (select is_history (tab n f))) ≡ sum_of (tab n (λ i. shown_steps (f i)))
unfolding select tab shown_steps sum_of
steps_chosen zero f = refl
steps_chosen (suc n) f = elim (truth (is_history (f zero))) [
  | holds e ↦ rw e (ap (λ k. steps_in (f zero) + k) (steps_chosen n (λ i. f (suc i))))
  | fails e ↦ rw e (steps_chosen n (λ i. f (suc i)) ∙ omega arith)
]

-- of those of one level
abbrev of_level : ℕ → Record → Bool
of_level level rec = eqb (level_in rec) level

level_steps : (level n : ℕ) (f : ℕ → Record) → sum_of (map steps_in (select (of_level level) (select is_history (tab n f)))) ≡ sum_of (tab n (λ i. steps_added level (f i)))
unfolding select tab steps_added sum_of
level_steps level zero f = refl
level_steps level (suc n) f = elim (truth (is_history (f zero))) [
  | holds e ↦ elim (truth (of_level level (f zero))) [
    | holds d ↦ rw (e, d) (ap (λ k. steps_in (f zero) + k) (level_steps level n (λ i. f (suc i))))
    | fails d ↦ rw (e, d) (level_steps level n (λ i. f (suc i)) ∙ omega arith)
  ]
  | fails e ↦ rw e (level_steps level n (λ i. f (suc i)) ∙ omega arith)
]

level_managers : (level n : ℕ) (f : ℕ → Record) → length (select (of_level level) (select is_history (tab n f))) ≡ sum_of (tab n (λ i. managers_added level (f i)))
unfolding select tab managers_added sum_of
level_managers level zero f = refl
level_managers level (suc n) f = elim (truth (is_history (f zero))) [
  | holds e ↦ elim (truth (of_level level (f zero))) [
    | holds d ↦ rw (e, d) (omega (arith, level_managers level n (λ i. f (suc i))))
    | fails d ↦ rw (e, d) (level_managers level n (λ i. f (suc i)) ∙ omega arith)
  ]
  | fails e ↦ rw e (level_managers level n (λ i. f (suc i)) ∙ omega arith)
]

-- of record r of s
abbrev pub record_line : List ℕ → ℕ → List ℕ
record_line s r = shown_line (record_at s r)

abbrev pub record_steps : List ℕ → ℕ → ℕ
record_steps s r = shown_steps (record_at s r)

pub steps_are : (level : ℕ) (s : List ℕ) → steps_at level s ≡ sum_of (tab (record_count s) (λ r. steps_added level (record_at s r)))
unfolding of_kind records_of
steps_are level s = level_steps level (record_count s) (record_at s)

pub managers_are : (level : ℕ) (s : List ℕ) → managers_at level s ≡ sum_of (tab (record_count s) (λ r. managers_added level (record_at s r)))
unfolding of_kind records_of
managers_are level s = level_managers level (record_count s) (record_at s)

-- the lines of the levels
abbrev pub level_line : List ℕ → ℕ → List ℕ
level_line s level = shown_average level (steps_at level s) (managers_at level s)

levels_are : (s : List ℕ) → joined (map (average_of s) (levels_in s)) ≡ joined (tab max_levels (level_line s))
unfolding levels_in shown_average
levels_are s = chosen_groups (λ level. ltb 0 (managers_at level s)) (average_of s) max_levels (λ level. level)

-- of what is counted over all records
pub levels_tallied : (s steps managers : List ℕ) → Tallied s (record_count s) steps managers → tab max_levels (average_in steps managers) ≡ tab max_levels (level_line s)
levels_tallied s steps managers t =
    tab_ext max_levels (average_in steps managers) (level_line s)
    (λ level h. ap₂ (shown_average level) (t.steps_are level h ∙ sym (steps_are level s)) (t.managers_are level h ∙ sym (managers_are level s)))

-- all lines and the total
abbrev pub above_levels : List ℕ → List ℕ
above_levels s = joined (tab (record_count s) (record_line s)) ++ total_line (sum_of (tab (record_count s) (record_steps s)))

pub page_is : (s : List ℕ) → page_of s ≡ above_levels s ++ joined (tab max_levels (level_line s))
unfolding page_of of_kind records_of
page_is s =
    ap₂ ◌++◌
    (ap₂ (λ l n. l ++ total_line n) (lines_chosen (record_count s) (record_at s)) (steps_chosen (record_count s) (record_at s)))
    (levels_are s)

-- one more
pub sum_none : (g : ℕ → ℕ) → sum_of (tab 0 g) ≡ 0
unfolding sum_of tab
sum_none g = refl

sum-suc : (n : ℕ) (g : ℕ → ℕ) → sum_of (tab (suc n) g) ≡ sum_of (tab n g) + g n
unfolding sum_of tab
sum-suc zero g = omega arith
sum-suc (suc n) g = omega (arith, sum-suc n (λ i. g (suc i)))

pub sum_more : (n : ℕ) (g : ℕ → ℕ) → sum_of (tab (n + 1) g) ≡ sum_of (tab n g) + g n
sum_more n g = ap (λ k. sum_of (tab k g)) (add-one n) ∙ sum-suc n g

-- the first groups and the next one are no longer than all
pub groups_room : (m n : ℕ) (g : ℕ → List ℕ) → n < m → length (joined (tab n g)) + length (g n) ≤ length (joined (tab m g))
groups_room zero n g h = absurd (omega arith)
groups_room (suc m) n g h =
    let more : length (joined (tab (suc m) g)) ≡ length (joined (tab m g)) + length (g m) =
    ap (λ k. length (joined (tab k g))) (sym (add-one m)) ∙ ap length (joined_more m g) ∙ length-append (joined (tab m g)) (g m) in
    elim (dec_lt n m) [
      | yes k ↦ omega (arith, more, groups_room m n g k)
      | no k ↦
          let same : n ≡ m = omega (arith, h, k) in
          rw same (omega (arith, more))
    ]

-- what is shown of a record, by the kind that was read
module _ (rec : Record) (kind : ℕ) (e : kind ≡ kind_of rec) where
  pub line_shown : kind ≡ 6 → line_of rec ≡ shown_line rec
  unfolding shown_line
  line_shown h = rw (eq-eqb (kind_of rec) 6 (sym e ∙ h)) refl

  pub line_hidden : (kind ≡ 6 → ⊥) → [] ≡ shown_line rec
  unfolding shown_line
  line_hidden n = rw (ne_eqb (kind_of rec) 6 (λ h. n (e ∙ h))) refl

  pub steps_shown : kind ≡ 6 → steps_in rec ≡ shown_steps rec
  unfolding shown_steps
  steps_shown h = rw (eq-eqb (kind_of rec) 6 (sym e ∙ h)) refl

  pub steps_hidden : (kind ≡ 6 → ⊥) → 0 ≡ shown_steps rec
  unfolding shown_steps
  steps_hidden n = rw (ne_eqb (kind_of rec) 6 (λ h. n (e ∙ h))) refl

-- the page has room for what is placed of it: all lines, the total and the levels, and so each line behind those before it
pub levels_room : (s : List ℕ) → length (joined (tab (record_count s) (record_line s))) + line_bytes + length (joined (tab max_levels (level_line s))) ≡ length (page_of s)
levels_room s =
    let lines = joined (tab (record_count s) (record_line s)) in
    let total = sum_of (tab (record_count s) (record_steps s)) in
    omega (
      arith,
      ap length (page_is s),
      length-append (above_levels s) (joined (tab max_levels (level_line s))),
      length-append lines (total_line total),
      total_length total,
    )

pub page_room : (s : List ℕ) (r : ℕ) → r < record_count s → length (joined (tab r (record_line s))) + length (record_line s r) ≤ length (page_of s)
page_room s r h = omega (arith, levels_room s, groups_room (record_count s) r (record_line s) h)
