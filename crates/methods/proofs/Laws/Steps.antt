-- The steps of one method: valid where the first one's object and name are, and the rest of each. Assumes nothing.
use Prim.Native.Nat.{ℕ, ◌+◌, ◌^◌, ◌<◌}
use mathlib.Core.Path.{◌≡◌, sym, ◌∙◌, ap, ap₂}
use mathlib.Core.Bool.{true, false, ◌&&◌}
use mathlib.Core.List.{List}
use native.Mathlib.Omega.{arith}
use lib.Dec.{ltb}
use lib.ListN.{get_or}
use Rattle.lists.specs.Range.{all}
use Rattle.lists.proofs.Laws.Range.{and_both, and_fails_left, and_fails_right, all_each, all-every, all_fails, all_refuted}
use Rattle.lists.proofs.Laws.Lists.{holds, fails, truth}
use Rattle.session.specs.Limits.{names}
use Rattle.session.specs.Record.{record_at, object_of, name_of}
use Rattle.session.specs.Questions.{step_valid}
use Rattle.methods.specs.Methods.{is_named, is_fit, OneMethod}
use Rattle.session_records.proofs.Laws.Words.{record_small}

module _ (s : List ℕ) (start count levels objects : ℕ) (small : (i : ℕ) → get_or s i 0 < 2 ^ 8) (one : OneMethod s start count) where
  -- its steps are of one object and have one name
  same_object : (i : ℕ) → i < count → object_of (record_at s (start + i)) ≡ object_of (record_at s start)
  same_object i h = omega (arith, one.same i h, record_small s (start + i) small 2, record_small s start small 2)

  same_name : (i : ℕ) → i < count → name_of (record_at s (start + i)) ≡ name_of (record_at s start)
  same_name i h = omega (arith, one.same i h, record_small s (start + i) small 2, record_small s start small 2)

  same_named : (i : ℕ) → i < count → is_named objects (record_at s (start + i)) ≡ is_named objects (record_at s start)
  same_named i h = ap₂ (λ o n. ltb o objects && ltb n names) (same_object i h) (same_name i h)

  -- so each is valid where the first one's object and name are there and the rest of it fits
  step_parts : (i : ℕ) → i < count → step_valid levels objects count (record_at s (start + i)) ≡ (is_named objects (record_at s start) && is_fit levels objects count (record_at s (start + i)))
  unfolding step_valid is_fit
  step_parts i h = ap (λ b. b && is_fit levels objects count (record_at s (start + i))) (same_named i h)

  pub method_unnamed : is_named objects (record_at s start) ≡ false → all count (λ i. step_valid levels objects count (record_at s (start + i))) ≡ false
  method_unnamed e = all_fails count _ 0 one.some (step_parts 0 one.some ∙ and_fails_left _ _ e)

  pub method_named : is_named objects (record_at s start) ≡ true
      → all count (λ i. is_fit levels objects count (record_at s (start + i))) ≡ all count (λ i. step_valid levels objects count (record_at s (start + i)))
  method_named e = elim (truth (all count (λ i. is_fit levels objects count (record_at s (start + i))))) [
    | holds t ↦
        t ∙ sym (all-every count _ λ i h. step_parts i h ∙ and_both _ _ e (all_each count (λ i. is_fit levels objects count (record_at s (start + i))) t i h))
    | fails f ↦
        let q = all_refuted count (λ i. is_fit levels objects count (record_at s (start + i))) f in
        f ∙ sym (all_fails count _ q.at q.below (step_parts q.at q.below ∙ and_fails_right (is_named objects (record_at s start)) _ q.refuted_at))
  ]
