-- The steps and managers of each level, one record more; and the line of a level, by whether it had managers. Assumes nothing.
use Prim.Native.Nat.{ℕ, ◌+◌, ◌*◌, ◌-◌, ◌/◌, ◌^◌, ◌≤◌, ◌<◌}
use mathlib.Core.Path.{◌≡◌, refl, sym, ◌∙◌, ap}
use mathlib.Core.List.{List, []}
use native.Mathlib.Decide.{ℕ_discrete}
use native.Mathlib.Nat.{mod-eq-sub-div-mul}
use native.Mathlib.Omega.{arith}
use borrow.Author.Tests.{eq-eqb, ne_eqb, lt-ltb, le-ltb}
use lib.ListN.{length, get_or, set, replicate, length-set, get_or-replicate}
use lib.Seq.{get_or-set_same, get_or-set_other}
use Rattle.session.specs.Limits.{max_levels}
use Rattle.session.specs.Record.{Record, record_at, kind_of}
use Rattle.lists.proofs.Laws.Lists.{holds, fails, truth}
use Rattle.model.specs.Result.{level_in, steps_in}
use Rattle.text.specs.Text.{average_line}
use Rattle.layout.specs.Shown.{is_history, steps_added, managers_added, Tallied, shown_average}
use Rattle.layout.proofs.Laws.Shown.{sum_none, sum_more}

zeros : (level : ℕ) → level < max_levels → ◌≡◌ {A = ℕ} (get_or (replicate max_levels 0) level 0) 0
zeros level h = get_or-replicate {A = ℕ} max_levels level 0 0 h

-- before the first record
pub tallied_none : (bytes : List ℕ) → Tallied bytes 0 (replicate max_levels 0) (replicate max_levels 0)
tallied_none bytes =
    record {
      steps_long = refl;
      managers_long = refl;
      steps_are = λ level h. zeros level h ∙ sym (sum_none (λ r. steps_added level (record_at bytes r)));
      managers_are = λ level h. zeros level h ∙ sym (sum_none (λ r. managers_added level (record_at bytes r)));
      steps_few = λ level h. omega (arith, zeros level h);
      managers_few = λ level h. omega (arith, zeros level h);
    }

-- what a record adds, by whether it is a history's and of the level
module _ (rec : Record) (level : ℕ) where
  pub added_own : kind_of rec ≡ 6 → level_in rec ≡ level → (steps_added level rec ≡ steps_in rec) × (managers_added level rec ≡ 1)
  unfolding steps_added managers_added
  added_own k e = (rw (eq-eqb (kind_of rec) 6 k, eq-eqb (level_in rec) level e) refl, rw (eq-eqb (kind_of rec) 6 k, eq-eqb (level_in rec) level e) refl)

  pub added_other : (level_in rec ≡ level → ⊥) → (steps_added level rec ≡ 0) × (managers_added level rec ≡ 0)
  unfolding steps_added managers_added
  added_other n = elim (truth (is_history rec)) [
    | holds e ↦ (rw (e, ne_eqb (level_in rec) level n) refl, rw (e, ne_eqb (level_in rec) level n) refl)
    | fails e ↦ (rw e refl, rw e refl)
  ]

  pub added_none : (kind_of rec ≡ 6 → ⊥) → (steps_added level rec ≡ 0) × (managers_added level rec ≡ 0)
  unfolding steps_added managers_added
  added_none n = (rw (ne_eqb (kind_of rec) 6 n) refl, rw (ne_eqb (kind_of rec) 6 n) refl)

module _ (bytes : List ℕ) (count : ℕ) (steps managers : List ℕ) (t : Tallied bytes count steps managers) where
  abbrev next : Record
  next = record_at bytes count

  -- one record more, by what it adds to each level
  tallied_next : (steps' managers' : List ℕ) → length steps' ≡ length steps → length managers' ≡ length managers
      → ((level : ℕ) → level < max_levels → (get_or steps' level 0 ≡ get_or steps level 0 + steps_added level next) × (steps_added level next < 2 ^ 16))
      → ((level : ℕ) → level < max_levels → (get_or managers' level 0 ≡ get_or managers level 0 + managers_added level next) × (managers_added level next ≤ 1))
      → Tallied bytes (count + 1) steps' managers'
  tallied_next steps' managers' ls lm s m =
      record {
        steps_long = ls ∙ t.steps_long;
        managers_long = lm ∙ t.managers_long;
        steps_are = λ level h. omega (arith, (s level h).0, t.steps_are level h, sum_more count (λ r. steps_added level (record_at bytes r)));
        managers_are = λ level h. omega (arith, (m level h).0, t.managers_are level h, sum_more count (λ r. managers_added level (record_at bytes r)));
        steps_few = λ level h. omega (arith, (s level h).0, (s level h).1, t.steps_few level h);
        managers_few = λ level h. omega (arith, (m level h).0, (m level h).1, t.managers_few level h);
      }

  -- one that adds nothing
  tallied_same : ((level : ℕ) → level < max_levels → (steps_added level next ≡ 0) × (managers_added level next ≡ 0)) → Tallied bytes (count + 1) steps managers
  tallied_same n =
      tallied_next steps managers refl refl
      (λ level h. (omega (arith, (n level h).0), omega (arith, (n level h).0)))
      (λ level h. (omega (arith, (n level h).1), omega (arith, (n level h).1)))

  pub tallied_aside : (kind : ℕ) → kind ≡ kind_of next → (kind ≡ 6 → ⊥) → Tallied bytes (count + 1) steps managers
  tallied_aside kind e n = tallied_same (λ level h. added_none next level (λ k. n (e ∙ k)))

  pub tallied_beyond : (own : ℕ) → own ≡ level_in next → max_levels ≤ own → Tallied bytes (count + 1) steps managers
  tallied_beyond own e beyond = tallied_same (λ level h. added_other next level (λ q. omega (arith, e, q, h, beyond)))

  -- one of a level
  pub tallied_more : (kind own n : ℕ) → kind ≡ kind_of next → kind ≡ 6 → own ≡ level_in next → own < max_levels
      → n ≡ steps_in next → n < 2 ^ 16
      → Tallied bytes (count + 1) (set steps own (get_or steps own 0 + n)) (set managers own (get_or managers own 0 + 1))
  tallied_more kind own n k six e here is small =
      tallied_next (set steps own (get_or steps own 0 + n)) (set managers own (get_or managers own 0 + 1)) (length-set steps own _) (length-set managers own _)
      (λ level h. elim (ℕ_discrete own level) [
        | yes q ↦
            let a = (added_own next level (sym k ∙ six) (sym e ∙ q)).0 in
            let s : get_or (set steps own (get_or steps own 0 + n)) level 0 ≡ get_or steps own 0 + n = rw q (get_or-set_same steps level (get_or steps level 0 + n) 0 (omega (arith, t.steps_long, h))) in
            let o : get_or steps own 0 ≡ get_or steps level 0 = ap (λ l. get_or steps l 0) q in
            (omega (arith, a, s, o, is), omega (arith, a, is, small))
        | no q ↦
            let a = (added_other next level (λ r. q (e ∙ r))).0 in
            (omega (arith, a, get_or-set_other steps own level (get_or steps own 0 + n) 0 (λ r. q (sym r))), omega (arith, a))
      ])
      (λ level h. elim (ℕ_discrete own level) [
        | yes q ↦
            let a = (added_own next level (sym k ∙ six) (sym e ∙ q)).1 in
            let s : get_or (set managers own (get_or managers own 0 + 1)) level 0 ≡ get_or managers own 0 + 1 = rw q (get_or-set_same managers level (get_or managers level 0 + 1) 0 (omega (arith, t.managers_long, h))) in
            let o : get_or managers own 0 ≡ get_or managers level 0 = ap (λ l. get_or managers l 0) q in
            (omega (arith, a, s, o), omega (arith, a))
        | no q ↦
            let a = (added_other next level (λ r. q (e ∙ r))).1 in
            (omega (arith, a, get_or-set_other managers own level (get_or managers own 0 + 1) 0 (λ r. q (sym r))), omega (arith, a))
      ])

-- the line of a level, by its managers
module _ (level steps managers : ℕ) where
  pub average_hidden : managers ≡ 0 → [] ≡ shown_average level steps managers
  unfolding shown_average
  average_hidden e = rw (le-ltb 0 managers (omega (arith, e))) refl

  pub average_shown : (managers ≡ 0 → ⊥) → average_line level (steps / managers) (steps - steps / managers * managers) ≡ shown_average level steps managers
  unfolding shown_average
  average_shown n = rw (lt-ltb 0 managers (omega (arith, n)), sym (mod-eq-sub-div-mul steps managers)) refl
