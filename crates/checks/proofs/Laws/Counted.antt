-- Questions 6 to 8 by record numbers, where the records of each kind are counted. Assumes nothing.
use Prim.Native.Nat.{ℕ, ◌+◌, ◌-◌}
use mathlib.Core.Path.{◌≡◌, sym, ap}
use mathlib.Core.Bool.{true, ◌&&◌}
use native.Mathlib.Nat.{zero-add}
use lib.Dec.{eqb, leb}
use mathlib.Core.List.{List}
use native.Mathlib.Omega.{arith}
use Rattle.lists.specs.Range.{all}
use Rattle.session.specs.Record.{record_at, record_count, records_from, number_of, zero_at, from}
use Rattle.session.specs.Parts.{level_count, object_count}
use Rattle.session.specs.Questions.{kinds_rise, question2, question3, object_valid, question6, scripts_valid, question7, root_valid, question8}
use Rattle.session_records.specs.Counting.{Counted}
use Rattle.session.proofs.Laws.Parts.{steps_from, kinds_rise_lem, records_are, root_is}
use Rattle.session.proofs.Laws.Numbering.{every_objects, every_levels, counts_levels, counts_objects}

-- questions 6 to 8, by record numbers
module _ {s : List ℕ} (q : question2 s ≡ true) {levels objects steps : ℕ} (n : Counted s levels objects steps) where
  pub question6_is : all objects (λ i. object_valid levels (record_at s (levels + i))) ≡ question6 s
  unfolding question6
  question6_is = rw (n.levels_are, n.objects_are) (sym (every_objects s (kinds_rise_lem s q) (object_valid (level_count s))))

  pub question7_is : scripts_valid levels objects (records_from s (levels + objects) (levels + objects + steps - (levels + objects))) ≡ question7 s
  question7_is =
      let z : levels + objects + steps - (levels + objects) ≡ steps = omega arith in
      rw (z, n.levels_are, n.objects_are, n.steps_are) (ap (scripts_valid (level_count s) (object_count s)) (sym (steps_from s (kinds_rise_lem s q))))

  pub question8_is : root_valid objects (record_at s (levels + objects + steps)) ≡ question8 s
  question8_is = rw (n.levels_are, n.objects_are, n.steps_are) (ap (root_valid (object_count s)) (sym (root_is s q)))

  -- where their records stand
  pub records_fit : levels + objects + steps + 1 ≡ record_count s
  records_fit = rw (n.levels_are, n.objects_are, n.steps_are) (sym (records_are s q))

-- question 3, by record numbers
module _ {s : List ℕ} (k : kinds_rise s ≡ true) {levels objects steps : ℕ} (n : Counted s levels objects steps) where
  pub question3_is :
      question3 s
      ≡ (leb levels 8 && leb objects 32 && leb steps 256
      && all levels (λ i. eqb (number_of (record_at s (0 + i))) i)
      && all objects (λ i. eqb (number_of (record_at s (levels + i))) i)
      && all levels (λ i. zero_at (from 3) (record_at s i)))
  unfolding question3
  question3_is = rw (n.levels_are, n.objects_are, n.steps_are, counts_levels s k, counts_objects s k, every_levels s k (zero_at (from 3))) (simp zero-add)
