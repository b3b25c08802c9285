-- Where the methods of an accepted session stand, and what its method index holds. Assumes nothing.
use Prim.Native.Nat.{ℕ, suc, ◌+◌, ◌-◌, ◌*◌, ◌/◌, ◌%◌, ◌≤◌, ◌<◌}
use mathlib.Core.Path.{◌≡◌, sym, ◌∙◌, ap}
use mathlib.Core.Bool.{true}
use mathlib.Core.List.{List, [], ◌++◌, append-nil}
use native.Mathlib.Decide.{dec_lt}
use native.Mathlib.Omega.{arith}
use borrow.Author.Tests.{ltb-true, lt-ltb, le-ltb}
use lib.Dec.{ltb}
use lib.ListN.{length, get_or, take, drop, get_or-map, get_or-eq_default}
use lib.Seq.{drop-length}
use Rattle.std.proofs.Common.{subst}
use Rattle.std.proofs.Math.Seq.{take-append_seam}
use Rattle.lists.proofs.Laws.Range.{and_left}
use Rattle.session.specs.Limits.{names, max_methods}
use Rattle.lists.specs.Lists.{rising_from, count_below}
use Rattle.session.specs.Record.{record_at, record_count, number_of, name_of, step_of}
use Rattle.session.specs.Parts.{step_records, level_count, object_count, step_count, key, key_of, method_records}
use Rattle.session.specs.Questions.{script_valid, methods_valid, scripts_valid, verdict_of, Accepted}
use Rattle.session.specs.Meaning.{method_of, step_at}
use Rattle.contents.specs.Reading.{method_start, index_of, MethodAt}
use Rattle.session.specs.declared.Step.TheVariants.{End}
use Rattle.lists.proofs.Laws.Lists.{length-tab, get_d_tab, select-length}
use Rattle.lists.proofs.Laws.Rising.{first_below, rest_above, count_more, count_mono, among_at}
use Rattle.lists.proofs.Laws.Choice.{select_same}
use Rattle.session.proofs.Laws.Verdict.{AllYes, accepted}
use Rattle.session.proofs.Laws.Parts.{step_is, key_at}
use Rattle.session.proofs.Laws.Emptied.{steps_valid, step_name, method_is}
use Rattle.session.proofs.Laws.Contents.{rises, counts, object_limit, method_length}
use Rattle.session.proofs.Laws.Accepted.{method_named, method_owned}

-- an index that is written over all its words
pub index_made : (s before index : List ℕ) → length before ≡ max_methods + 1 → index ≡ index_of s ++ drop (max_methods + 1) before → index ≡ index_of s
index_made s before index l e =
    e ∙ ap (λ n. index_of s ++ drop n before) (sym l) ∙ ap (λ t. index_of s ++ t) (drop-length before) ∙ append-nil (index_of s)

-- no key with a name below 16 lies between a method's and that of the next slot of the index
no_name_between : (o m o' m' : ℕ) → m < 16 → m' < 16
    → ltb (key o' m') (key ((16 * o + m + 1) / 16) ((16 * o + m + 1) % 16)) ≡ ltb (key o' m') (suc (key o m))
no_name_between o m o' m' h h' = elim (dec_lt m 15) [
  | yes l ↦
      let z : key ((16 * o + m + 1) / 16) ((16 * o + m + 1) % 16) ≡ suc (key o m) = omega arith in
      ap (ltb (key o' m')) z
  | no g ↦
      let z : key ((16 * o + m + 1) / 16) ((16 * o + m + 1) % 16) ≡ 256 * o + 256 = omega arith in
      ap (ltb (key o' m')) z ∙ elim (dec_lt o o') [
        | yes d ↦ le-ltb (key o' m') (256 * o + 256) (omega arith) ∙ sym (le-ltb (key o' m') (suc (key o m)) (omega arith))
        | no d ↦ lt-ltb (key o' m') (256 * o + 256) (omega arith) ∙ sym (lt-ltb (key o' m') (suc (key o m)) (omega arith))
      ]
]

module _ (s : List ℕ) (a : verdict_of s ≡ Accepted) where
  yes_to_all : AllYes s
  yes_to_all = accepted s a

  -- (object, name) never falls
  pub keys_rise : rising_from key_of 0 (step_records s) ≡ true
  unfolding scripts_valid
  keys_rise = and_left (rising_from key_of 0 (step_records s)) (methods_valid (level_count s) (object_count s) (step_records s)) yes_to_all.seven

  -- where a method starts: behind the steps with smaller keys, before the others
  pub start_first : (k : ℕ) → level_count s + object_count s ≤ method_start s k
  unfolding method_start
  start_first k = omega arith

  pub start_last : (k : ℕ) → method_start s k ≤ level_count s + object_count s + step_count s
  unfolding method_start
  start_last k = omega (arith, select-length (λ rec. ltb (key_of rec) k) (step_records s))

  pub start_mono : (j k : ℕ) → j ≤ k → method_start s j ≤ method_start s k
  unfolding method_start
  start_mono j k h = omega (arith, count_mono key_of j k h (step_records s))

  step_record : (r : ℕ) → level_count s + object_count s ≤ r → r < level_count s + object_count s + step_count s
      → get_or (step_records s) (r - (level_count s + object_count s)) [] ≡ record_at s r
  step_record r h l =
      let z : level_count s + object_count s + (r - (level_count s + object_count s)) ≡ r = omega arith in
      step_is s (rises s a) (r - (level_count s + object_count s)) (omega arith) ∙ ap (record_at s) z

  pub before_start : (k r : ℕ) → level_count s + object_count s ≤ r → r < level_count s + object_count s + step_count s → key_at s r < k → r < method_start s k
  unfolding method_start
  before_start k r h l m = elim (dec_lt (r - (level_count s + object_count s)) (count_below key_of k (step_records s))) [
    | yes g ↦ omega arith
    | no g ↦
        let up : k ≤ key_at s r =
        rw (step_record r h l) at (rest_above key_of [] k 0 (step_records s) keys_rise (r - (level_count s + object_count s)) (omega arith) (omega arith)) in
        absurd (omega arith)
  ]

  pub from_start : (k r : ℕ) → level_count s + object_count s ≤ r → r < level_count s + object_count s + step_count s → k ≤ key_at s r → method_start s k ≤ r
  unfolding method_start
  from_start k r h l m = elim (dec_lt (r - (level_count s + object_count s)) (count_below key_of k (step_records s))) [
    | yes g ↦
        let low : key_at s r < k = rw (step_record r h l) at (first_below key_of [] k 0 (step_records s) keys_rise (r - (level_count s + object_count s)) g) in
        absurd (omega arith)
    | no g ↦ omega arith
  ]

  -- the steps of a method: they stand from its start on
  pub method_step : (o m j : ℕ) → m < names → j < length (method_records s (key o m)) → step_of (record_at s (method_start s (key o m) + j)) ≡ step_at s o m j
  unfolding method_start method_records step_of
  method_step o m j hm h =
      let k = key o m in
      let below = count_below key_of k (step_records s) in
      let in_range : below + j < step_count s =
      omega (arith, count_more key_of k (step_records s), select-length (λ rec. ltb (key_of rec) (suc k)) (step_records s)) in
      let z : level_count s + object_count s + (below + j) ≡ level_count s + object_count s + below + j = omega arith in
      sym (get_or-map step_of (method_records s k) j []
      ∙ ap step_of (among_at key_of [] k 0 (step_records s) keys_rise j h ∙ step_is s (rises s a) (below + j) in_range ∙ ap (record_at s) z))
      ∙ ap (λ l. get_or l j End) (sym (method_is s yes_to_all o m (omega arith)))

  -- the method index
  pub index_length : length (index_of s) ≡ max_methods + 1
  unfolding index_of
  index_length = length-tab (max_methods + 1) _

  pub index_front : (rest : List ℕ) → take (max_methods + 1) (index_of s ++ rest) ≡ index_of s
  index_front rest = subst (λ n. take n (index_of s ++ rest) ≡ index_of s) index_length (take-append_seam (index_of s) rest)

  pub index_at : (i : ℕ) → i < max_methods + 1 → get_or (index_of s) i 0 ≡ method_start s (key (i / names) (i % names))
  unfolding index_of
  index_at i h = get_d_tab 0 (max_methods + 1) _ i h

  -- a method ends where the next one in the index starts
  pub start_next : (o m : ℕ) → m < names → method_start s (key ((16 * o + m + 1) / names) ((16 * o + m + 1) % names)) ≡ method_start s (key o m) + length (method_records s (key o m))
  unfolding method_start method_records
  start_next o m h =
      let k = key o m in
      let next = key ((16 * o + m + 1) / names) ((16 * o + m + 1) % names) in
      let same : count_below key_of next (step_records s) ≡ count_below key_of (suc k) (step_records s) =
      ap length (select_same (λ rec. ltb (key_of rec) next) (λ rec. ltb (key_of rec) (suc k)) (script_valid (level_count s) (object_count s) (step_records s))
      (λ rec v. no_name_between o m (number_of rec) (name_of rec) h (ltb-true (name_of rec) names (step_name s rec v)))
      (step_records s) (steps_valid s yes_to_all)) in
      omega (arith, same, count_more key_of k (step_records s))

  -- a method's slot of the index, and the one behind it
  pub slot_first : (o m : ℕ) → o < object_count s → m < names → get_or (index_of s) (16 * o + m) 0 ≡ method_start s (key o m)
  slot_first o m ho hm =
      let z : key ((16 * o + m) / names) ((16 * o + m) % names) ≡ key o m = omega arith in
      index_at (16 * o + m) (omega (arith, object_limit s a)) ∙ ap (method_start s) z

  pub slot_end : (o m : ℕ) → o < object_count s → m < names → get_or (index_of s) (16 * o + m + 1) 0 ≡ method_start s (key o m) + length (method_records s (key o m))
  slot_end o m ho hm = index_at (16 * o + m + 1) (omega (arith, object_limit s a)) ∙ start_next o m hm

  -- the steps of a method lie within the session
  pub method_within : (o m : ℕ) → method_start s (key o m) + length (method_records s (key o m)) < record_count s
  unfolding method_start method_records
  method_within o m =
      omega (arith, counts s a, count_more key_of (key o m) (step_records s), select-length (λ rec. ltb (key_of rec) (suc (key o m))) (step_records s))

  -- where the steps of a method stand: within the session, at most 16, each so far behind the first as its number says
  module _ (o m start count : ℕ) (x : MethodAt s o m start count) where
    pub method_ends : start + count < record_count s
    method_ends = elim (dec_lt 0 count) [
      | yes h ↦
          let n = method_length s a o m (method_named s a o m (omega (arith, x.count_is))) in
          omega (arith, n, x.start_is, x.count_is, method_within o m)
      | no g ↦ omega (arith, x.start_is, start_last (key o m), counts s a)
    ]

    pub step_there : (j : ℕ) → j < count → step_of (record_at s (start + j)) ≡ step_at s o m j
    step_there j h =
        let (_, named) = method_owned s a o m (omega (arith, x.count_is)) in
        let n = method_length s a o m (omega arith) in
        ap (λ r. step_of (record_at s (r + j))) x.start_is ∙ method_step o m j named (omega (arith, x.count_is))

    pub step_over : (j : ℕ) → count ≤ j → End ≡ step_at s o m j
    step_over j h = sym (get_or-eq_default (method_of s o m) End (omega (arith, x.count_is)))
