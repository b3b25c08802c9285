use native.Mathlib.Omega.{arith}
use Rattle.std.proofs.Common.{◌≡◌, ℕ, ◌≤◌, ◌<◌, Bool, true, false, sym, ◌∙◌, rules, tests}
use Rattle.std.specs.Prelude.{Option, Some, None, MatchOption}
use Rattle.std.specs.Option.{unwrap_or}
use Rattle.std.proofs.lemmas.Iterator.{first_from_Range}
use Rattle.lists.specs.Range.{first}
use Rattle.lists.proofs.Laws.Range.{first_at_lem, first_none}
use Rattle.session.specs.Limits.{made_objects}
use Rattle.session.specs.Meaning.{made_number}
use Rattle.scripts.specs.Existence.{existence, is_unmade, used_of}
use Rattle.fields.specs.Fields.{field_at}
use Rattle.fields.proofs.used_of.Goals as goal

-- the least number of a range that passes, as `find` tells of it
found_first : (n : ℕ) (p : ℕ → Bool) (r : Option ℕ) → MatchOption r ((k : ℕ) → 0 ≤ k → k < n → p k ≡ false) (λ i. (0 ≤ i) × (i < n) × (p i ≡ true) × ((k : ℕ) → 0 ≤ k → k < i → p k ≡ false)) → unwrap_or r n ≡ first n p
found_first n p None h = sym (first_none n p (λ k l. h k (omega arith) l))
found_first n p (Some i) h = sym (first_at_lem n p i h.1 h.2 (λ k l. h.3 k (omega arith) l))

pub returns : goal.returns
returns c =
    let p : ℕ → Bool = λ i. is_unmade (field_at c.args.fields.now (made_number c.args.level i) existence) in
    unfold used_of in c.unwrap_or.ensures ∙ found_first made_objects p _
    (first_from_Range _ _ _ _ (λ i. p i ≡ true) (λ i. p i ≡ false) c.find.ensures.ran (λ x q k. search (rules, tests)) (λ x q k. search (rules, tests)))
