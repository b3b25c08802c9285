-- What a table's tests answer in the order in which the code makes them. Assumes nothing.
use Rattle.std.proofs.Common.{◌≡◌, ℕ, ◌<◌, Bool, true, false, not, ◌&&◌, eqb, List, length, refl, sym, ◌∙◌, arith, eq-eqb, eqb-true}
use borrow.Author.Tests.{not-true, not-false, ne_eqb}
use Rattle.lists.specs.Range.{all}
use Rattle.lists.proofs.Laws.Range.{not_both, all_each, all_refuted}
use Rattle.dominance.specs.Order.{Dominance, antisymmetric}
use Rattle.dominance.specs.Join.{join}
use Rattle.dominance.specs.Meet.{is_lowest}
use Rattle.dominance.specs.Table.{dominates, is_ordered, is_joined, is_met}
use Rattle.dominance.proofs.Laws.Order.{antisymmetric_fails, antisymmetric_pairs}
use Rattle.dominance.proofs.Laws.Join.{not_joined, joined_pairs}
use Rattle.dominance.proofs.Laws.Table.{partial_order, lowest_met, none_met}

-- each pair of numbers below n passes, tested once: what is so where it does, and where it does not
once : (n : ℕ) (p : ℕ → ℕ → Bool) (r : Bool)
    → (((i : ℕ) → i < n → (j : ℕ) → j < i → p i j ≡ false) → r ≡ true) → ((i j : ℕ) → i < n → j < i → p i j ≡ true → r ≡ false)
    → all n (λ i. all i (λ j. not (p i j))) ≡ r
once n p r f g = go (all n (λ i. all i (λ j. not (p i j)))) refl
  where
    go : (b : Bool) → all n (λ i. all i (λ j. not (p i j))) ≡ b → b ≡ r
    go true e = sym (f (λ i h j l. not-true (p i j) (all_each i _ (all_each n _ e i h) j l)))
    go false e =
        let x = all_refuted n (λ i. all i (λ j. not (p i j))) e in
        let y = all_refuted x.at (λ j. not (p x.at j)) x.refuted_at in
        sym (g x.at y.at x.below y.below (not-false (p x.at y.at) y.refuted_at))

pub antisymmetric_once : (n : ℕ) (dom : Dominance) → all n (λ i. all i (λ j. not (dom i j && dom j i))) ≡ antisymmetric n dom
antisymmetric_once n dom = once n (λ i j. dom i j && dom j i) _ (antisymmetric_pairs n dom) (antisymmetric_fails n dom)

module _ (masks : List ℕ) (o : is_ordered masks ≡ true) where
  pub joined_once : all (length masks) (λ a. all a (λ b. not (eqb (join (length masks) (dominates masks) a b) (length masks)))) ≡ is_joined masks
  joined_once =
      let n = length masks in
      let dom = dominates masks in
      once n (λ a b. eqb (join n dom a b) n) _
      (λ f. joined_pairs n dom (partial_order masks o) (λ a h b l e. not_both _ (eq-eqb _ _ e) (f a h b l)))
      (λ a b h l e. not_joined n dom a b h (omega arith) (eqb-true _ _ e))

  -- where there is a level, and where there is none
  pub met_where_any : is_joined masks ≡ true → (length masks ≡ 0 → ⊥)
      → not (all (length masks) (λ l. not (is_lowest (length masks) (dominates masks) l))) ≡ is_met masks
  met_where_any j h = go (all n (λ l. not (lowest l))) refl
    where
      n : ℕ
      n = length masks

      lowest : ℕ → Bool
      lowest = is_lowest n (dominates masks)

      go : (b : Bool) → all n (λ l. not (lowest l)) ≡ b → not b ≡ is_met masks
      go true e = sym (none_met masks o j (λ l m. not-true (lowest l) (all_each n _ e l m)) ∙ ne_eqb n 0 h)
      go false e =
          let x = all_refuted n (λ l. not (lowest l)) e in
          sym (lowest_met masks o j x.at x.below (not-false (lowest x.at) x.refuted_at))

  pub met_of_none : is_joined masks ≡ true → length masks ≡ 0 → is_met masks ≡ true
  met_of_none j h = none_met masks o j (λ l m. absurd (omega arith)) ∙ eq-eqb (length masks) 0 h
