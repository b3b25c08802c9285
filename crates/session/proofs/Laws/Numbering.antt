-- Tests of the records of a kind as tests of record numbers, in a session whose kinds never fall. Assumes nothing.
use Prim.Native.Nat.{ℕ, ◌+◌, ◌≤◌}
use mathlib.Core.Path.{◌≡◌, sym, ◌∙◌, ap}
use mathlib.Core.Bool.{Bool, true}
use mathlib.Core.List.{List, []}
use borrow.Author.Tests.{leb-true}
use lib.Dec.{eqb}
use Rattle.lists.specs.Range.{all}
use Rattle.lists.proofs.Laws.Range.{and_left, and_right}
use Rattle.session.specs.Limits.{max_levels, max_objects, max_steps}
use Rattle.lists.specs.Lists.{every, counts_from, tab}
use Rattle.session.specs.Record.{Record, record_at, number_of, mask_of}
use Rattle.session.specs.Parts.{level_records, object_records, level_count, object_count, step_count, masks_of}
use Rattle.session.specs.Questions.{kinds_rise, question3}
use Rattle.lists.proofs.Laws.Numbered.{all_ext, every_is, counts_is}
use Rattle.lists.proofs.Laws.Fill.{tab_ext, map_is}
use Rattle.session.proofs.Laws.Parts.{level_is, object_is}

module _ (s : List ℕ) (k : kinds_rise s ≡ true) where
  pub every_levels : (p : Record → Bool) → every p (level_records s) ≡ all (level_count s) (λ i. p (record_at s i))
  every_levels p = every_is [] p (level_records s) ∙ all_ext (level_count s) _ _ (λ i h. ap p (level_is s k i h))

  pub every_objects : (p : Record → Bool) → every p (object_records s) ≡ all (object_count s) (λ i. p (record_at s (level_count s + i)))
  every_objects p = every_is [] p (object_records s) ∙ all_ext (object_count s) _ _ (λ i h. ap p (object_is s k i h))

  pub counts_levels : counts_from number_of 0 (level_records s) ≡ all (level_count s) (λ i. eqb (number_of (record_at s i)) i)
  counts_levels = counts_is [] number_of (level_records s) ∙ all_ext (level_count s) _ _ (λ i h. rw (level_is s k i h))

  pub counts_objects : counts_from number_of 0 (object_records s) ≡ all (object_count s) (λ i. eqb (number_of (record_at s (level_count s + i))) i)
  counts_objects = counts_is [] number_of (object_records s) ∙ all_ext (object_count s) _ _ (λ i h. rw (object_is s k i h))

  pub masks_are : tab (level_count s) (λ i. mask_of (record_at s i)) ≡ masks_of s
  unfolding masks_of
  masks_are = sym (map_is mask_of [] (level_records s) ∙ tab_ext (level_count s) _ _ (λ i h. ap mask_of (level_is s k i h)))

-- what question 3 says of the counts
module _ (s : List ℕ) (q : question3 s ≡ true) where
  pub few_levels : level_count s ≤ max_levels
  unfolding question3
  few_levels = leb-true (level_count s) max_levels (search (and_left, and_right, q))

  pub few_objects : object_count s ≤ max_objects
  unfolding question3
  few_objects = leb-true (object_count s) max_objects (search (and_left, and_right, q))

  pub few_steps : step_count s ≤ max_steps
  unfolding question3
  few_steps = leb-true (step_count s) max_steps (search (and_left, and_right, q))
