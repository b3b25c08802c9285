-- What acceptance gives those who read a session: how many records of each kind there are, and where each object and the root message
-- stand. Assumes nothing.
use Prim.Native.Nat.{ℕ, ◌+◌, ◌-◌, ◌≤◌, ◌<◌}
use mathlib.Core.Path.{◌≡◌, ◌∙◌, ap}
use mathlib.Core.Bool.{true}
use mathlib.Core.List.{List, []}
use native.Mathlib.Omega.{arith}
use lib.ListN.{length, get_or, length-map}
use Rattle.session.specs.Limits.{max_objects}
use Rattle.session.specs.Record.{record_at, record_count, step_of}
use Rattle.session.specs.Parts.{object_records, level_count, object_count, step_count, masks_of, key, method_records, root_record}
use Rattle.session.specs.Questions.{kinds_rise, verdict_of, Accepted}
use Rattle.session.specs.Meaning.{method_of}
use Rattle.session.proofs.Laws.Verdict.{AllYes, accepted}
use Rattle.session.proofs.Laws.Parts.{kinds_rise_lem, object_is, root_is, records_are, masks_count}
use Rattle.session.proofs.Laws.Numbering.{few_levels, few_objects, few_steps}
use Rattle.session.proofs.Laws.Emptied.{method_is}

module _ (s : List ℕ) (a : verdict_of s ≡ Accepted) where
  yes_to_all : AllYes s
  yes_to_all = accepted s a

  pub rises : kinds_rise s ≡ true
  rises = kinds_rise_lem s yes_to_all.two

  -- how many records there are, of each kind
  pub counts : record_count s ≡ level_count s + object_count s + step_count s + 1
  counts = records_are s yes_to_all.two

  pub level_limit : level_count s ≤ 8
  level_limit = few_levels s yes_to_all.three

  pub object_limit : object_count s ≤ max_objects
  object_limit = few_objects s yes_to_all.three

  pub step_limit : step_count s ≤ 256
  step_limit = few_steps s yes_to_all.three

  -- the level table has a mask for each level
  pub masks_length : length (masks_of s) ≡ level_count s
  masks_length = masks_count s

  -- an object's record, and the root's
  pub object_record_lem : (o : ℕ) → o < object_count s → get_or (object_records s) o [] ≡ record_at s (level_count s + o)
  object_record_lem o h = object_is s rises o h

  pub root_record_lem : root_record s ≡ record_at s (record_count s - 1)
  root_record_lem =
      let z : level_count s + object_count s + step_count s ≡ record_count s - 1 = omega (arith, counts) in
      root_is s yes_to_all.two ∙ ap (record_at s) z

  -- how many steps a method has, by its key
  pub method_length : (o m : ℕ) → m < 256 → length (method_of s o m) ≡ length (method_records s (key o m))
  method_length o m h = ap length (method_is s yes_to_all o m h) ∙ length-map (method_records s (key o m)) step_of
