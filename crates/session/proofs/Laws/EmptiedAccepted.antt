-- The emptied session of an accepted session is accepted: each of the eight questions says yes. Assumes nothing.
use Prim.Native.Nat.{ℕ, ◌+◌, ◌*◌, ◌/◌, ◌%◌, ◌≤◌, ◌<◌}
use mathlib.Core.Path.{◌≡◌, ◌∙◌, ap, fun_ext}
use mathlib.Core.Bool.{true, false, ◌&&◌, or-true}
use mathlib.Core.List.{List, []}
use native.Mathlib.Omega.{arith}
use borrow.Author.Tests.{eqb-true, eq-eqb, leb-true, le-leb, ltb-true}
use lib.Dec.{eqb, leb, ltb}
use lib.ListN.{length, length-map}
use Rattle.lists.specs.Range.{implies}
use Rattle.lists.proofs.Laws.Range.{and_left, and_right, and_both, implies_when, all-every}
use Rattle.lists.specs.Lists.{every, select, rising_from, counts_from}
use Rattle.session.specs.Record.{Record, records_of, byte_of, zero_at, between, kind_of, number_of, level_byte, name_of}
use Rattle.session.specs.Record
use Rattle.session.specs.Parts.{of_kind, object_records, step_records, root_records, level_count, object_count, step_count, masks_of, key_of, method_records}
use Rattle.session.specs.Questions.{field_valid, question1, kinds_rise, question2, question3, question4, question5, question17, question6, question7, question8, object_valid, script_valid, scripts_valid, verdict_of, Accepted}
use Rattle.session.specs.Emptied.{stays, blanked, emptied}
use Rattle.session.specs.Meaning.{level_of, method_of}
use Rattle.dominance.specs.Table.{dominates}
use Rattle.lists.proofs.Laws.Lists.{holds, fails, truth, every-select, select_passes, select-length}
use Rattle.lists.proofs.Laws.Rising.{rising_select}
use Rattle.lists.proofs.Laws.Choice.{every_map, rising_map, counts_map, every_then, every_both}
use Rattle.session.proofs.Laws.Emptied
use Rattle.session.proofs.Laws.Emptied.{hidden, staying, blanked_not, blanked-zero, blanked_byte, emptied_records, emptied-length, emptied_levels, emptied_objects, emptied_steps, emptied_roots, emptied_masks, emptied_count, emptied_level_count, emptied_root, emptied_method_seen, kinds, steps_valid, step_name, seen_stays}
use Rattle.session.proofs.Laws.Record.{records_length}
use Rattle.session.proofs.Laws.Parts.{kinds_rise_lem, kinds_within, kinds_rising}
use Rattle.session.proofs.Laws.Verdict.{AllYes, accepted, all_yes}

-- bytes that are 0 are unused, and an object's record whose bytes from 3 on are 0 is valid where its level is present
zero_unused : (a e : ℕ) (rec : Record) → ((k : ℕ) → a ≤ k → byte_of rec k ≡ 0) → zero_at (between a e) rec ≡ true
unfolding zero_at
zero_unused a e rec z =
    all-every 16 (λ k. implies (between a e k) (eqb (byte_of rec k) 0))
    (λ k h. implies_when (between a e k) (eqb (byte_of rec k) 0)
    (λ t. eq-eqb (byte_of rec k) 0 (z k (leb-true a k (and_left (leb a k) (ltb k e) t)))))

zero_valid : (levels : ℕ) (rec : Record) → ltb (level_byte rec) levels ≡ true → ((k : ℕ) → 3 ≤ k → byte_of rec k ≡ 0) → object_valid levels rec ≡ true
unfolding object_valid
zero_valid levels rec l z =
    and_both _ _ (and_both _ _ l (rw (z 3 (omega arith))))
    (all-every 3 (field_valid rec) λ k h.
    rw (zero_unused (4 + 4 * k) (4 + 4 * k + 4) rec (λ j g. z j (omega arith))) (or-true (Record.holds rec k)))

level_present : (levels : ℕ) (rec : Record) → object_valid levels rec ≡ true → ltb (level_byte rec) levels ≡ true
unfolding object_valid
level_present levels rec v = search (and_left, and_right)

module _ (s : List ℕ) (c : ℕ) (y : AllYes s) where
  -- 1. the root stays, and no record is added
  some_stay : 1 ≤ length (staying s c)
  unfolding question2 of_kind
  some_stay =
      let q : eqb (length (root_records s)) 1 ≡ true = search (and_right, y.two) in
      let r : length (records_of (emptied c s)) ≡ length (staying s c) = ap length (emptied_records s c) ∙ length-map (staying s c) (blanked s c) in
      omega (arith, eqb-true (length (root_records s)) 1 q, ap length (emptied_roots s c), select-length (λ rec. eqb (kind_of rec) 4) (records_of (emptied c s)))

  few_stay : length (staying s c) ≤ 297
  unfolding question1
  few_stay =
      let q : leb (length s / 16) 297 ≡ true = search (and_right, y.one) in
      omega (arith, leb-true (length s / 16) 297 q, records_length s, select-length (stays s c) (records_of s))

  question1-emptied : question1 (emptied c s) ≡ true
  unfolding question1
  question1-emptied =
      let z : length (emptied c s) % 16 ≡ 0 = omega (arith, emptied-length s c) in
      let n : length (emptied c s) / 16 ≡ length (staying s c) = omega (arith, emptied-length s c) in
      rw (z, n, le-leb 1 (length (staying s c)) some_stay) (le-leb (length (staying s c)) 297 few_stay)

  -- 2. kinds are kept, and a choice from a rising list is rising
  kinds_kept : (λ (rec : Record). kind_of (blanked s c rec)) ≡ kind_of
  kinds_kept = fun_ext (blanked_byte s c 0 (omega arith))

  kinds_rise_emptied : kinds_rise (emptied c s) ≡ true
  unfolding kinds_rise
  kinds_rise_emptied =
      let named = every-select (stays s c) (λ rec. leb 1 (kind_of rec) && leb (kind_of rec) 4) (records_of s) (kinds_within s (kinds_rise_lem s y.two)) in
      let rising = rising_select kind_of (stays s c) 0 (records_of s) (kinds_rising s (kinds_rise_lem s y.two)) in
      rw (
        emptied_records s c,
        every_map (blanked s c) (λ rec. leb 1 (kind_of rec) && leb (kind_of rec) 4) (staying s c),
        rising_map (blanked s c) kind_of 0 (staying s c),
        kinds_kept,
      )
      (and_both _ _
      (every_then (λ rec. leb 1 (kind_of rec) && leb (kind_of rec) 4) (λ rec. leb 1 (kind_of (blanked s c rec)) && leb (kind_of (blanked s c rec)) 4)
      (λ rec e. rw (blanked_byte s c 0 (omega arith) rec) e) (staying s c) named)
      rising)

  question2-emptied : question2 (emptied c s) ≡ true
  unfolding question2
  question2-emptied =
      rw (kinds_rise_emptied, emptied_levels s c, emptied_count s c, emptied_roots s c) (search (and_both, and_left, and_right, y.two))

  -- 3. numbers are kept, and no step is added
  numbers_kept : (λ (rec : Record). number_of (blanked s c rec)) ≡ number_of
  numbers_kept = fun_ext (blanked_byte s c 1 (omega arith))

  steps_fit : leb (step_count (emptied c s)) 256 ≡ true
  unfolding question3
  steps_fit =
      let q : leb (step_count s) 256 ≡ true = search (and_left, and_right, y.three) in
      rw (emptied_steps s c)
      (le-leb (length (select (stays s c) (step_records s))) 256 (omega (arith, leb-true (step_count s) 256 q, select-length (stays s c) (step_records s))))

  objects_numbered : counts_from number_of 0 (object_records (emptied c s)) ≡ true
  unfolding question3
  objects_numbered = rw (emptied_objects s c, counts_map (blanked s c) number_of 0 (object_records s), numbers_kept) (search (and_left, and_right, y.three))

  question3-emptied : question3 (emptied c s) ≡ true
  unfolding question3
  question3-emptied =
      rw (steps_fit, objects_numbered, emptied_levels s c, emptied_count s c) (search (and_both, and_left, and_right, y.three))

  -- 4, 5 and 17. the level table is the same
  question4-emptied : question4 (emptied c s) ≡ true
  question4-emptied = rw (emptied_masks s c) y.four

  question5-emptied : question5 (emptied c s) ≡ true
  question5-emptied = rw (emptied_masks s c) y.five

  question17-emptied : question17 (emptied c s) ≡ true
  question17-emptied = rw (emptied_masks s c) y.seventeen

  -- 6. a blanked object has no field that holds a number, and its level is kept
  object_blanked : (levels : ℕ) (rec : Record) → object_valid levels rec ≡ true → object_valid levels (blanked s c rec) ≡ true
  object_blanked levels rec v = elim (truth (hidden s c rec)) [
    | holds e ↦ zero_valid levels (blanked s c rec) (rw (blanked_byte s c 2 (omega arith) rec) (level_present levels rec v)) (blanked-zero s c rec e)
    | fails e ↦ rw (blanked_not s c rec e) v
  ]

  question6-emptied : question6 (emptied c s) ≡ true
  unfolding question6
  question6-emptied =
      rw (emptied_level_count s c, emptied_objects s c, every_map (blanked s c) (object_valid (level_count s)) (object_records s))
      (every_then (object_valid (level_count s)) (λ rec. object_valid (level_count s) (blanked s c rec)) (object_blanked (level_count s)) (object_records s) y.six)

  -- 7. a step stays with all the steps of its method
  script_stays : (rec : Record) → eqb (kind_of rec) 3 ≡ true → stays s c rec ≡ true → script_valid (level_count s) (object_count s) (step_records s) rec ≡ true → script_valid (level_count (emptied c s)) (object_count (emptied c s)) (step_records (emptied c s)) rec ≡ true
  unfolding script_valid method_records
  script_stays rec k t v =
      let l : name_of rec < 16 = ltb-true (name_of rec) 16 (step_name s rec v) in
      rw (emptied_method_seen s c y (number_of rec) (name_of rec) (omega arith) (seen_stays s c rec k t), emptied_level_count s c, emptied_count s c) v

  question7-emptied : question7 (emptied c s) ≡ true
  unfolding scripts_valid
  question7-emptied =
      let steps = step_records s in
      let kept = select (stays s c) steps in
      let test = script_valid (level_count (emptied c s)) (object_count (emptied c s)) (step_records (emptied c s)) in
      and_both (rising_from key_of 0 (step_records (emptied c s))) (every test (step_records (emptied c s)))
      (rw (emptied_steps s c) (rising_select key_of (stays s c) 0 steps (search (and_left, y.seven))))
      (ap (every test) (emptied_steps s c)
      ∙ every_then (λ rec. eqb (kind_of rec) 3 && stays s c rec && script_valid (level_count s) (object_count s) steps rec) test
      (λ rec e. script_stays rec (search (and_left, and_right)) (search (and_left, and_right)) (search (and_left, and_right))) kept
      (every_both (λ rec. eqb (kind_of rec) 3 && stays s c rec) (script_valid (level_count s) (object_count s) steps) kept
      (every_both (λ rec. eqb (kind_of rec) 3) (stays s c) kept
      (every-select (stays s c) (λ rec. eqb (kind_of rec) 3) steps (kinds s 3)) (select_passes (stays s c) steps))
      (every-select (stays s c) (script_valid (level_count s) (object_count s) steps) steps (steps_valid s y))))

  -- 8. the root message is the same
  question8-emptied : question8 (emptied c s) ≡ true
  question8-emptied = rw (emptied_count s c, emptied_root s c) y.eight

  pub emptied_yes : AllYes (emptied c s)
  emptied_yes = record {
    one = question1-emptied;
    two = question2-emptied;
    three = question3-emptied;
    four = question4-emptied;
    five = question5-emptied;
    seventeen = question17-emptied;
    six = question6-emptied;
    seven = question7-emptied;
    eight = question8-emptied;
  }

pub emptied_accepted : (s : List ℕ) (c : ℕ) → verdict_of s ≡ Accepted → verdict_of (emptied c s) ≡ Accepted
emptied_accepted s c e = all_yes (emptied c s) (emptied_yes s c (accepted s e))

-- the methods of the emptied session: those of the objects that the level dominates, and no others
pub emptied_method : (s : List ℕ) (c : ℕ) → verdict_of s ≡ Accepted → (o m : ℕ) → dominates (masks_of s) c (level_of s o) ≡ true → method_of (emptied c s) o m ≡ method_of s o m
emptied_method s c e = Emptied.emptied_method s c (accepted s e) (emptied_yes s c (accepted s e))

pub emptied_method_hidden : (s : List ℕ) (c : ℕ) → verdict_of s ≡ Accepted → (o m : ℕ) → dominates (masks_of s) c (level_of s o) ≡ false → method_of (emptied c s) o m ≡ []
emptied_method_hidden s c e = Emptied.emptied_method_hidden s c (accepted s e) (emptied_yes s c (accepted s e))
