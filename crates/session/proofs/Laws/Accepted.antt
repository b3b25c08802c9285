-- What acceptance says of what a session says: every number read is within its bounds. Assumes nothing.
use Prim.Native.Nat.{ℕ, ◌-◌, ◌/◌, ◌≤◌, ◌<◌}
use mathlib.Core.Path.{◌≡◌, sym, ◌∙◌, ap}
use mathlib.Core.Bool.{true, ◌&&◌}
use mathlib.Core.List.{List, []}
use native.Mathlib.Decide.{dec_lt}
use native.Mathlib.Omega.{arith}
use borrow.Author.Tests.{leb-true, ltb-true, eqb-true}
use lib.Dec.{eqb, leb, ltb}
use lib.ListN.{length, get_or, get_or-map}
use Rattle.dominance.specs.Join.{JoinSemilattice}
use Rattle.dominance.specs.Table.{dominates}
use Rattle.lists.proofs.Laws.Range.{and_left, and_right}
use Rattle.dominance.proofs.Laws.Join.{semilattice}
use Rattle.dominance.proofs.Laws.Table.{is_order_lem}
use Rattle.session.specs.Limits.{max_objects, made_objects, max_method, names}
use Rattle.session.specs.Record.{object_of, name_of, level_byte, step_of, zero_at}
use Rattle.session.specs.Parts.{object_records, step_records, level_count, object_count, masks_of, key, key_of, of_method, method_records}
use Rattle.session.specs.Questions.{object_valid, question6, operands_fit, unused_bytes, step_valid, script_valid, root_valid, verdict_of, Accepted}
use Rattle.session.specs.Meaning.{owner_of, level_of, method_of, step_at, root_object, root_name}
use Rattle.session.specs.declared.Step.TheVariants.{End}
use Rattle.lists.proofs.Laws.Lists.{holds, fails, truth, every_each, every-select, select_passes}
use Rattle.session.proofs.Laws.Verdict.{accepted}
use Rattle.session.proofs.Laws.Contents.{masks_length, method_length}
use Rattle.session.proofs.Laws.Emptied.{steps_valid, method_is, method_none}

module _ (s : List ℕ) (a : verdict_of s ≡ Accepted) where
  -- the levels are a join semilattice
  pub levels_join : JoinSemilattice (level_count s) (dominates (masks_of s))
  levels_join =
      rw (masks_length s a) at
      (semilattice (length (masks_of s)) (dominates (masks_of s)) (is_order_lem (masks_of s) (accepted s a).four) (accepted s a).five)

  -- the level of each object of the session is present
  own_present : (o : ℕ) → o < object_count s → level_byte (get_or (object_records s) o []) < level_count s
  unfolding question6 object_valid
  own_present o h =
      let rec = get_or (object_records s) o [] in
      let v : object_valid (level_count s) rec ≡ true = every_each (object_valid (level_count s)) [] (object_records s) (accepted s a).six o h in
      ltb-true (level_byte rec) (level_count s) (search (and_left, and_right, v))

  -- the root's object is present, and its name at most 15
  pub root_present : root_object s < object_count s
  unfolding root_valid
  root_present = ltb-true (root_object s) (object_count s) (search (and_left, and_right, (accepted s a).eight))

  pub root_named : root_name s < names
  unfolding root_valid
  root_named = ltb-true (root_name s) names (search (and_left, and_right, (accepted s a).eight))

  some_level : 0 < level_count s
  some_level = omega (arith, own_present (root_object s) root_present)

  owner_present : (o : ℕ) → owner_of (level_count s) o < level_count s
  unfolding owner_of
  owner_present o = elim (truth (ltb ((o - max_objects) / made_objects) (level_count s))) [
    | holds e ↦ rw e (ltb-true ((o - max_objects) / made_objects) (level_count s) e)
    | fails e ↦ rw e some_level
  ]

  -- whatever its number, an object's level is present
  pub level_present : (o : ℕ) → level_of s o < level_count s
  unfolding level_of
  level_present o = elim (truth (ltb o (object_count s))) [
    | holds e ↦ rw e (own_present o (ltb-true o (object_count s) e))
    | fails e ↦ rw e (owner_present o)
  ]

  -- each step of a method is valid as one of the method's steps
  step_of_method : (k j : ℕ) → j < length (method_records s k) →
      (script_valid (level_count s) (object_count s) (step_records s) (get_or (method_records s k) j []) ≡ true) × (key_of (get_or (method_records s k) j []) ≡ k)
  unfolding method_records
  step_of_method k j h = (
    every_each (script_valid (level_count s) (object_count s) (step_records s)) [] (method_records s k)
        (every-select (λ rec. eqb (key_of rec) k) (script_valid (level_count s) (object_count s) (step_records s)) (step_records s) (steps_valid s (accepted s a))) j h,
    eqb-true (key_of (get_or (method_records s k) j [])) k
        (every_each (λ rec. eqb (key_of rec) k) [] (method_records s k) (select_passes (λ rec. eqb (key_of rec) k) (step_records s)) j h),
  )

  script_of_method : (k j : ℕ) → j < length (method_records s k) →
      (leb (length (method_records s k)) max_method && step_valid (level_count s) (object_count s) (length (method_records s k)) (get_or (method_records s k) j [])) ≡ true
  unfolding script_valid method_records
  script_of_method k j h =
      let (v, e) = step_of_method k j h in
      ap (λ n. leb (length (of_method n (step_records s))) max_method && step_valid (level_count s) (object_count s) (length (of_method n (step_records s))) (get_or (method_records s k) j [])) (sym e) ∙ v

  -- a method with steps has a name of one byte
  pub method_named : (o m : ℕ) → 0 < length (method_of s o m) → m < 256
  method_named o m h = elim (dec_lt m 256) [
    | yes l ↦ l
    | no g ↦ let z : length (method_of s o m) ≡ 0 = ap length (method_none s (accepted s a) o m (omega arith)) in absurd (omega arith)
  ]

  -- a method has at most 16 steps
  pub method_short : (o m : ℕ) → length (method_of s o m) ≤ max_method
  method_short o m = elim (dec_lt 0 (length (method_of s o m))) [
    | yes h ↦
        let n = method_length s a o m (method_named o m h) in
        rw n (leb-true (length (method_records s (key o m))) max_method (and_left _ _ (script_of_method (key o m) 0 (rw n at h))))
    | no g ↦ omega arith
  ]

  -- the operands of each step fit its method and the objects
  pub step_fits : (o m j : ℕ) → j < length (method_of s o m) → operands_fit (level_count s) (object_count s) (length (method_of s o m)) (step_at s o m j) ≡ true
  unfolding step_valid step_of
  step_fits o m j h =
      let k = key o m in
      let small : m < 256 = method_named o m (omega arith) in
      let n = method_length s a o m small in
      let rec = get_or (method_records s k) j [] in
      let v = script_of_method k j (rw n at h) in
      let e : step_at s o m j ≡ step_of rec =
      ap (λ l. get_or l j End) (method_is s (accepted s a) o m small) ∙ get_or-map step_of (method_records s k) j [] in
      rw (e, n)
      (and_left (operands_fit (level_count s) (object_count s) (length (method_records s k)) (step_of rec)) (zero_at (unused_bytes (step_of rec)) rec)
      (search (and_left, and_right, v)))

  -- and only present objects have steps, under names at most 15
  pub method_owned : (o m : ℕ) → 0 < length (method_of s o m) → (o < object_count s) × (m < names)
  unfolding step_valid
  method_owned o m h =
      let k = key o m in
      let small = method_named o m h in
      let n = method_length s a o m small in
      let rec = get_or (method_records s k) 0 [] in
      let v = script_of_method k 0 (rw n at h) in
      let object : object_of rec < object_count s = ltb-true (object_of rec) (object_count s) (search (and_left, and_right, v)) in
      let name : name_of rec < names = ltb-true (name_of rec) names (search (and_left, and_right, v)) in
      let e : key_of rec ≡ k = (step_of_method k 0 (rw n at h)).1 in
      (omega arith, omega arith)
