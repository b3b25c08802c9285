-- The numbers of an accepted session's objects: which there are, and of which level each is. Assumes nothing.
use Prim.Native.Nat.{ℕ, ◌+◌, ◌-◌, ◌*◌, ◌/◌, ◌≤◌, ◌<◌}
use mathlib.Core.Path.{◌≡◌, ◌∙◌}
use mathlib.Core.Bool.{true, ◌&&◌, or-true}
use mathlib.Core.List.{List}
use mathlib.Core.Logic.{◌⊎◌, inl, inr}
use native.Mathlib.Omega.{arith}
use borrow.Author.Tests.{ltb-true, leb-true, lt-ltb, le-ltb, le-leb}
use lib.Dec.{leb, ltb}
use Rattle.lists.proofs.Laws.Range.{and_left, and_right}
use Rattle.session.specs.Limits.{max_objects, made_objects, max_numbers}
use Rattle.session.specs.Parts.{level_count, object_count}
use Rattle.session.specs.Questions.{is_number, verdict_of, Accepted}
use Rattle.session.specs.Meaning.{owner_of, made_number, Numbered, level_of}
use Rattle.lists.proofs.Laws.Lists.{holds, fails, truth}
use Rattle.session.proofs.Laws.Verdict.{accepted}
use Rattle.session.proofs.Laws.Numbering.{few_levels, few_objects}

-- the session's objects have numbers, and so has whatever a present level makes
pub number_own : (s : List ℕ) (n : ℕ) → n < object_count s → Numbered s n
unfolding is_number
number_own s n h = rw (lt-ltb n (object_count s) h)

pub number_made : (s : List ℕ) (n : ℕ) → max_objects ≤ n → n < max_objects + made_objects * level_count s → Numbered s n
unfolding is_number
number_made s n h l =
    rw (le-leb max_objects n h, lt-ltb n (max_objects + made_objects * level_count s) l) (or-true (ltb n (object_count s)))

module _ (s : List ℕ) (a : verdict_of s ≡ Accepted) (n : ℕ) (k : Numbered s n) where
  number_either : (n < object_count s) ⊎ ((max_objects ≤ n) × (n < max_objects + made_objects * level_count s))
  unfolding is_number
  number_either = elim (truth (ltb n (object_count s))) [
    | holds e ↦ inl (ltb-true n (object_count s) e)
    | fails e ↦
        let both : (leb max_objects n && ltb n (max_objects + made_objects * level_count s)) ≡ true = rw e at k in
        inr (
          leb-true max_objects n (and_left _ _ both),
          ltb-true n (max_objects + made_objects * level_count s) (and_right (leb max_objects n) _ both),
        )
  ]

  -- below 32 a number is one of the session's, and none is 64 or more
  pub number_low : n < max_objects → n < object_count s
  number_low h = elim number_either [
    | inl e ↦ e
    | inr e ↦ absurd (omega (arith, e.0))
  ]

  pub number_high : n < max_objects + made_objects * level_count s
  number_high = elim number_either [
    | inl e ↦ omega (arith, few_objects s (accepted s a).three)
    | inr e ↦ e.1
  ]

  pub number_few : n < max_numbers
  number_few = omega (arith, number_high, few_levels s (accepted s a).three)

-- the level of a made object is in its number
module _ (s : List ℕ) (a : verdict_of s ≡ Accepted) (n : ℕ) (h : max_objects ≤ n) where
  pub level_high : n < max_objects + made_objects * level_count s → level_of s n ≡ (n - max_objects) / made_objects
  unfolding level_of owner_of
  level_high l =
      let o = few_objects s (accepted s a).three in
      let present : (n - max_objects) / made_objects < level_count s = omega arith in
      rw (le-ltb n (object_count s) (omega (arith, o)), lt-ltb ((n - max_objects) / made_objects) (level_count s) present)

pub level_made : (s : List ℕ) → verdict_of s ≡ Accepted → (l i : ℕ) → l < level_count s → i < made_objects → level_of s (made_number l i) ≡ l
level_made s a l i h g =
    let z : (made_number l i - max_objects) / made_objects ≡ l = omega arith in
    level_high s a (made_number l i) (omega arith) (omega arith) ∙ z

pub made_numbered : (s : List ℕ) (l i : ℕ) → l < level_count s → i < made_objects → Numbered s (made_number l i)
made_numbered s l i h g = number_made s (made_number l i) (omega arith) (omega arith)
