-- Laws of the session emptied for a level: what its records, parts, fields and methods are. Assumes nothing.
use Prim.Native.Nat.{ℕ, zero, suc, ◌*◌, ◌≤◌, ◌<◌}
use mathlib.Core.Path.{◌≡◌, refl, sym, ◌∙◌, ap, ap₂, fun_ext}
use mathlib.Core.Bool.{Bool, true, false, not, cond, ◌&&◌, and_comm}
use mathlib.Core.List.{List, [], ◌∷◌, ◌++◌, map}
use native.Mathlib.Decide.{dec_lt}
use native.Mathlib.Omega.{arith}
use borrow.Author.Tests.{eqb-true, eqb-false, eq-eqb, ne_eqb, ltb-true, lt-ltb}
use lib.Dec.{eqb, ltb}
use lib.Pow.{pow_pos}
use lib.ListN.{length, get_or, take, replicate, length-append, length-take, length-replicate, length-map, get_or-map, get_or-eq_default}
use Rattle.dominance.specs.Table.{dominates}
use Rattle.lists.proofs.Laws.Range.{refuted, and_left, and_right, and_both, and_fails_left, and_fails_right, not_both}
use Rattle.dominance.proofs.Laws.Table.{bit_beyond}
use Rattle.lists.specs.Lists.{every, select, rising_from}
use Rattle.session.specs.Record.{Record, records_of, byte_of, kind_of, number_of, object_of, mask_of, level_byte, name_of, field_in, step_of, parameter_of}
use Rattle.session.specs.Parts.{of_kind, object_records, step_records, level_count, object_count, masks_of, key, key_of, method_records, root_record}
use Rattle.session.specs.Questions.{step_valid, script_valid, methods_valid, scripts_valid}
use Rattle.session.specs.Meaning.{owner_of, level_of, field_of, method_of, root_of}
use Rattle.session.specs.Emptied.{hides, stays, blanked, emptied}
use Rattle.std.specs.Prelude.{None}
use Rattle.lists.proofs.Laws.Lists.{holds, fails, truth, every_each, every-select, select-all, select_none, select_passes}
use Rattle.lists.proofs.Laws.Choice.{select_same, select-map, every_map, select_swap, every_then, every_both, map-kept}
use Rattle.session.proofs.Laws.Whole.{whole, records_whole, length-joined, records_joined}
use Rattle.session.proofs.Laws.Verdict.{AllYes}

-- a record's first n bytes with zeros behind: the first n bytes are kept, the others are 0
zeros : (n k : ℕ) → byte_of (replicate n 0) k ≡ 0
zeros zero k = refl
zeros (suc n) zero = refl
zeros (suc n) (suc k) = zeros n k

head_kept : (n m : ℕ) (rec : Record) (k : ℕ) → k < n → byte_of (take n rec ++ replicate m 0) k ≡ byte_of rec k
head_kept zero m rec k h = absurd (omega arith)
head_kept (suc n) m [] k h = zeros m k
head_kept (suc n) m (x ∷ xs) zero h = refl
head_kept (suc n) m (x ∷ xs) (suc k) h = head_kept n m xs k (omega arith)

rest_zero : (n m : ℕ) (rec : Record) (k : ℕ) → n ≤ k → byte_of (take n rec ++ replicate m 0) k ≡ 0
rest_zero zero m rec k h = zeros m k
rest_zero (suc n) m [] k h = zeros m k
rest_zero (suc n) m (x ∷ xs) zero h = absurd (omega arith)
rest_zero (suc n) m (x ∷ xs) (suc k) h = rest_zero n m xs k (omega arith)

-- where byte 3 is 0 every field is NIL
pub nil_field : (rec : Record) (k : ℕ) → byte_of rec 3 ≡ 0 → field_in rec k ≡ None
nil_field rec k e = rw (e, bit_beyond 0 k (pow_pos k))

-- two names below 256 with equal keys belong to one object
pub key_object : (o m o' m' : ℕ) → m < 256 → m' < 256 → key o m ≡ key o' m' → o ≡ o'
key_object o m o' m' h h' e = omega arith

-- a pair and its key are told apart alike
pair_key : (o m o' m' : ℕ) → m < 256 → m' < 16 → (eqb o' o && eqb m' m) ≡ eqb (key o' m') (key o m)
pair_key o m o' m' h h' = elim (truth (eqb (key o' m') (key o m))) [
  | holds e ↦
      let q : key o' m' ≡ key o m = eqb-true (key o' m') (key o m) e in
      and_both (eqb o' o) (eqb m' m) (eq-eqb o' o (omega arith)) (eq-eqb m' m (omega arith)) ∙ sym e
  | fails e ↦
      refuted (eqb o' o && eqb m' m) (λ t.
      eqb-false (key o' m') (key o m) e
      (let p : o' ≡ o = eqb-true o' o (and_left (eqb o' o) (eqb m' m) t) in
      let q : m' ≡ m = eqb-true m' m (and_right (eqb o' o) (eqb m' m) t) in
      omega arith)) ∙ sym e
]

-- each record of a kind is of that kind; each step of an accepted session has a name below 16, and each step of a method is of its object
module _ (s : List ℕ) where
  pub kinds : (k : ℕ) → every (λ rec. eqb (kind_of rec) k) (of_kind k s) ≡ true
  unfolding of_kind
  kinds k = select_passes (λ rec. eqb (kind_of rec) k) (records_of s)

  pub method_kinds : (k : ℕ) → every (λ rec. eqb (kind_of rec) 3) (method_records s k) ≡ true
  unfolding method_records
  method_kinds k = every-select (λ rec. eqb (key_of rec) k) (λ rec. eqb (kind_of rec) 3) (step_records s) (kinds 3)

  pub steps_valid : AllYes s → every (script_valid (level_count s) (object_count s) (step_records s)) (step_records s) ≡ true
  unfolding scripts_valid
  steps_valid y = and_right (rising_from key_of 0 (step_records s)) (methods_valid (level_count s) (object_count s) (step_records s)) y.seven

  pub step_name : (rec : Record) → script_valid (level_count s) (object_count s) (step_records s) rec ≡ true → ltb (name_of rec) 16 ≡ true
  unfolding script_valid step_valid
  step_name rec e = search (and_left, and_right)

  -- the steps of a method, by their keys
  pub method_is : AllYes s → (o m : ℕ) → m < 256 → method_of s o m ≡ map step_of (method_records s (key o m))
  unfolding method_of method_records
  method_is y o m h =
      ap (map step_of) (select_same (λ rec. eqb (object_of rec) o && eqb (name_of rec) m) (λ rec. eqb (key_of rec) (key o m))
      (script_valid (level_count s) (object_count s) (step_records s))
      (λ rec v. pair_key o m (object_of rec) (name_of rec) h (ltb-true (name_of rec) 16 (step_name rec v))) (step_records s) (steps_valid y))

  pub method_none : AllYes s → (o m : ℕ) → 256 ≤ m → method_of s o m ≡ []
  unfolding method_of
  method_none y o m h =
      ap (map step_of) (select_none (λ rec. eqb (object_of rec) o && eqb (name_of rec) m) (step_records s)
      (every_then (script_valid (level_count s) (object_count s) (step_records s)) (λ rec. not (eqb (object_of rec) o && eqb (name_of rec) m))
      (λ rec v.
      let l : name_of rec < 16 = ltb-true (name_of rec) 16 (step_name rec v) in
      ap not (and_fails_right (eqb (object_of rec) o) _ (ne_eqb (name_of rec) m (omega arith)))) (step_records s) (steps_valid y)))

  pub method_object : AllYes s → (o m : ℕ) → m < 256 → every (λ rec. eqb (number_of rec) o) (method_records s (key o m)) ≡ true
  unfolding method_records
  method_object y o m h =
      every_then (λ rec. eqb (key_of rec) (key o m) && script_valid (level_count s) (object_count s) (step_records s) rec) (λ rec. eqb (number_of rec) o) same (method_records s (key o m))
      (every_both (λ rec. eqb (key_of rec) (key o m)) (script_valid (level_count s) (object_count s) (step_records s)) (method_records s (key o m))
      (select_passes (λ rec. eqb (key_of rec) (key o m)) (step_records s))
      (every-select (λ rec. eqb (key_of rec) (key o m)) (script_valid (level_count s) (object_count s) (step_records s)) (step_records s) (steps_valid y)))
    where
      same : (rec : Record) → (eqb (key_of rec) (key o m) && script_valid (level_count s) (object_count s) (step_records s) rec) ≡ true → eqb (number_of rec) o ≡ true
      same rec e =
          let l : name_of rec < 16 = ltb-true (name_of rec) 16 (step_name rec (and_right (eqb (key_of rec) (key o m)) (script_valid (level_count s) (object_count s) (step_records s) rec) e)) in
          eq-eqb (number_of rec) o
          (key_object (number_of rec) (name_of rec) o m (omega arith) h
          (eqb-true (key_of rec) (key o m) (and_left (eqb (key_of rec) (key o m)) (script_valid (level_count s) (object_count s) (step_records s) rec) e)))

-- the level of an object of the session is in its record
pub own_level : (s : List ℕ) (o : ℕ) → o < object_count s → level_of s o ≡ level_byte (get_or (object_records s) o [])
unfolding level_of
own_level s o h = rw (lt-ltb o (object_count s) h) refl

module _ (s : List ℕ) (c : ℕ) where
  -- an object's record that is to be blanked
  abbrev pub hidden : Record → Bool
  hidden rec = eqb (kind_of rec) 2 && hides s c (level_byte rec)

  -- `blanked`: the record itself, or its first three bytes and zeros
  pub blanked_not : (rec : Record) → hidden rec ≡ false → blanked s c rec ≡ rec
  unfolding blanked
  blanked_not rec e = rw e

  pub blanked-zero : (rec : Record) → hidden rec ≡ true → (k : ℕ) → 3 ≤ k → byte_of (blanked s c rec) k ≡ 0
  unfolding blanked
  blanked-zero rec e k h = rw e (rest_zero 3 13 rec k h)

  pub blanked_byte : (k : ℕ) → k < 3 → (rec : Record) → byte_of (blanked s c rec) k ≡ byte_of rec k
  unfolding blanked
  blanked_byte k h rec = elim (truth (hidden rec)) [
    | holds e ↦ rw e (head_kept 3 13 rec k h)
    | fails e ↦ rw e
  ]

  pub blanked_whole : (rec : Record) → whole rec ≡ true → whole (blanked s c rec) ≡ true
  unfolding blanked
  blanked_whole rec w = elim (truth (hidden rec)) [
    | holds e ↦ rw e (eq-eqb (length (take 3 rec ++ replicate 13 0)) 16 (simp (length-append, length-take, length-replicate) (omega (arith, eqb-true (length rec) 16 w))))
    | fails e ↦ rw e w
  ]

  -- records of another kind than 2 are kept, those of another kind than 3 stay
  pub blanked_other : (k : ℕ) → (k ≡ 2 → ⊥) → (rec : Record) → eqb (kind_of rec) k ≡ true → blanked s c rec ≡ rec
  blanked_other k n rec e =
      blanked_not rec (and_fails_left (eqb (kind_of rec) 2) _ (ne_eqb (kind_of rec) 2 (λ t. n (sym (eqb-true (kind_of rec) k e) ∙ t))))

  pub stays_other : (k : ℕ) → (k ≡ 3 → ⊥) → (rec : Record) → eqb (kind_of rec) k ≡ true → stays s c rec ≡ true
  unfolding stays
  stays_other k n rec e = rw (ne_eqb (kind_of rec) 3 (λ t. n (sym (eqb-true (kind_of rec) k e) ∙ t)))

  -- a step stays exactly where the level dominates its object's level
  pub stays_seen : (rec : Record) → dominates (masks_of s) c (level_of s (number_of rec)) ≡ true → stays s c rec ≡ true
  unfolding stays
  stays_seen rec e = rw (e, and_comm)

  pub stays_hidden : (rec : Record) → eqb (kind_of rec) 3 ≡ true → dominates (masks_of s) c (level_of s (number_of rec)) ≡ false → stays s c rec ≡ false
  unfolding stays
  stays_hidden rec t e = rw (t, e)

  pub seen_stays : (rec : Record) → eqb (kind_of rec) 3 ≡ true → stays s c rec ≡ true → dominates (masks_of s) c (level_of s (number_of rec)) ≡ true
  seen_stays rec t e = elim (truth (dominates (masks_of s) c (level_of s (number_of rec)))) [
    | holds d ↦ d
    | fails d ↦ absurd (not_both (stays s c rec) e (stays_hidden rec t d))
  ]

  -- the records of the emptied session, and its length
  abbrev pub staying : List Record
  staying = select (stays s c) (records_of s)

  emptied_whole : every whole (map (blanked s c) staying) ≡ true
  emptied_whole =
      every_map (blanked s c) whole staying
      ∙ every_then whole (λ rec. whole (blanked s c rec)) blanked_whole staying (every-select (stays s c) whole (records_of s) (records_whole s))

  pub emptied_records : records_of (emptied c s) ≡ map (blanked s c) (select (stays s c) (records_of s))
  unfolding emptied
  emptied_records = records_joined (map (blanked s c) staying) emptied_whole

  pub emptied-length : length (emptied c s) ≡ 16 * length staying
  unfolding emptied
  emptied-length = length-joined (map (blanked s c) staying) emptied_whole ∙ ap (λ n. 16 * n) (length-map staying (blanked s c))

  -- its records of each kind: kinds 1 and 4 are the same, objects are blanked, hidden steps are left out
  pub emptied_kind : (k : ℕ) → of_kind k (emptied c s) ≡ map (blanked s c) (select (stays s c) (of_kind k s))
  unfolding of_kind
  emptied_kind k =
      ap (select (λ rec. eqb (kind_of rec) k)) emptied_records
      ∙ select-map (blanked s c) (λ rec. eqb (kind_of rec) k) staying
      ∙ ap (λ p. map (blanked s c) (select p staying)) (fun_ext (λ rec. ap (λ b. eqb b k) (blanked_byte 0 (omega arith) rec)))
      ∙ ap (map (blanked s c)) (select_swap (λ rec. eqb (kind_of rec) k) (stays s c) (records_of s))

  kind_stays : (k : ℕ) → (k ≡ 3 → ⊥) → select (stays s c) (of_kind k s) ≡ of_kind k s
  kind_stays k n = select-all (stays s c) (of_kind k s) (every_then _ (stays s c) (stays_other k n) (of_kind k s) (kinds s k))

  kind_kept : (k : ℕ) → (k ≡ 2 → ⊥) → (xs : List Record) → every (λ rec. eqb (kind_of rec) k) xs ≡ true → map (blanked s c) xs ≡ xs
  kind_kept k n xs e = map-kept _ (blanked s c) (blanked_other k n) xs e

  pub emptied_same : (k : ℕ) → (k ≡ 2 → ⊥) → (k ≡ 3 → ⊥) → of_kind k (emptied c s) ≡ of_kind k s
  emptied_same k n2 n3 = emptied_kind k ∙ ap (map (blanked s c)) (kind_stays k n3) ∙ kind_kept k n2 (of_kind k s) (kinds s k)

  pub emptied_levels : of_kind 1 (emptied c s) ≡ of_kind 1 s
  emptied_levels = emptied_same 1 (omega arith) (omega arith)

  pub emptied_objects : of_kind 2 (emptied c s) ≡ map (blanked s c) (of_kind 2 s)
  emptied_objects = emptied_kind 2 ∙ ap (map (blanked s c)) (kind_stays 2 (omega arith))

  pub emptied_steps : of_kind 3 (emptied c s) ≡ select (stays s c) (of_kind 3 s)
  emptied_steps = emptied_kind 3 ∙ kind_kept 3 (omega arith) (select (stays s c) (of_kind 3 s)) (every-select (stays s c) _ (of_kind 3 s) (kinds s 3))

  pub emptied_roots : of_kind 4 (emptied c s) ≡ of_kind 4 s
  emptied_roots = emptied_same 4 (omega arith) (omega arith)

  -- its level table and what that table hides
  pub emptied_masks : masks_of (emptied c s) ≡ masks_of s
  unfolding masks_of
  emptied_masks = ap (map mask_of) emptied_levels

  -- its numbers of levels and objects, the objects' levels, and its root message
  pub emptied_level_count : level_count (emptied c s) ≡ level_count s
  emptied_level_count = ap length emptied_levels

  pub emptied_count : object_count (emptied c s) ≡ object_count s
  emptied_count = ap length emptied_objects ∙ length-map (object_records s) (blanked s c)

  pub emptied_object : (o : ℕ) → get_or (object_records (emptied c s)) o [] ≡ blanked s c (get_or (object_records s) o [])
  unfolding blanked
  emptied_object o = ap (λ l. get_or l o []) emptied_objects ∙ get_or-map (blanked s c) (object_records s) o []

  pub emptied_level : (o : ℕ) → level_of (emptied c s) o ≡ level_of s o
  unfolding level_of
  emptied_level o =
      ap₂ (λ n l. cond (ltb o n) (level_byte (get_or (object_records (emptied c s)) o [])) (owner_of l o)) emptied_count emptied_level_count
      ∙ ap (λ b. cond (ltb o (object_count s)) b (owner_of (level_count s) o)) (ap level_byte (emptied_object o) ∙ blanked_byte 2 (omega arith) (get_or (object_records s) o []))

  -- the others have no fields
  no_field : (o k : ℕ) → object_count s ≤ o → field_of (emptied c s) o k ≡ None
  no_field o k g =
      nil_field (get_or (object_records (emptied c s)) o []) k (ap (λ rec. byte_of rec 3) (get_or-eq_default (object_records (emptied c s)) [] (omega (arith, emptied_count, g))))

  pub emptied_root : root_record (emptied c s) ≡ root_record s
  emptied_root = ap (λ l. get_or l 0 []) emptied_roots

  pub emptied_message : root_of (emptied c s) ≡ root_of s
  emptied_message = ap (λ rec. record { object = object_of rec; name = name_of rec; parameter = parameter_of rec }) emptied_root

  -- the fields of an object that the level dominates, and of one that it does not
  pub emptied_field : (o k : ℕ) → dominates (masks_of s) c (level_of s o) ≡ true → field_of (emptied c s) o k ≡ field_of s o k
  emptied_field o k e = elim (dec_lt o (object_count s)) [
    | yes l ↦
        ap (λ rec. field_in rec k)
        (emptied_object o ∙ blanked_not (get_or (object_records s) o []) (and_fails_right (eqb (kind_of (get_or (object_records s) o [])) 2) _ (ap not (rw (own_level s o l) at e))))
    | no g ↦
        no_field o k (omega (arith, g))
        ∙ sym (nil_field (get_or (object_records s) o []) k (ap (λ rec. byte_of rec 3) (get_or-eq_default (object_records s) [] (omega (arith, g)))))
  ]

  pub emptied_field_hidden : (o k : ℕ) → dominates (masks_of s) c (level_of s o) ≡ false → field_of (emptied c s) o k ≡ None
  emptied_field_hidden o k e = elim (dec_lt o (object_count s)) [
    | yes l ↦ nil_field (get_or (object_records (emptied c s)) o []) k (
        ap (λ rec. byte_of rec 3) (emptied_object o)
        ∙ blanked-zero (get_or (object_records s) o [])
        (and_both _ _ (every_each (λ rec. eqb (kind_of rec) 2) [] (object_records s) (kinds s 2) o l) (ap not (rw (own_level s o l) at e))) 3 (omega arith))
    | no g ↦ no_field o k (omega (arith, g))
  ]

  -- the steps of a method of the emptied session are those of them that stay
  pub emptied_method_stays : (k : ℕ) → method_records (emptied c s) k ≡ select (stays s c) (method_records s k)
  unfolding method_records
  emptied_method_stays k =
      ap (select (λ rec. eqb (key_of rec) k)) emptied_steps ∙ select_swap (λ rec. eqb (key_of rec) k) (stays s c) (step_records s)

  -- the steps of a method of an object that the level dominates, and of one that it does not
  pub emptied_method_seen : AllYes s → (o m : ℕ) → m < 256 → dominates (masks_of s) c (level_of s o) ≡ true → method_records (emptied c s) (key o m) ≡ method_records s (key o m)
  emptied_method_seen y o m h e =
      emptied_method_stays (key o m)
      ∙ select-all (stays s c) (method_records s (key o m))
      (every_then (λ rec. eqb (number_of rec) o) (stays s c)
      (λ rec t. stays_seen rec (rw (eqb-true (number_of rec) o t) e)) (method_records s (key o m)) (method_object s y o m h))

  pub emptied_method_absent : AllYes s → (o m : ℕ) → m < 256 → dominates (masks_of s) c (level_of s o) ≡ false → method_records (emptied c s) (key o m) ≡ []
  emptied_method_absent y o m h e =
      emptied_method_stays (key o m)
      ∙ select_none (stays s c) (method_records s (key o m))
      (every_then (λ rec. eqb (kind_of rec) 3 && eqb (number_of rec) o) (λ rec. not (stays s c rec)) absent (method_records s (key o m))
      (every_both (λ rec. eqb (kind_of rec) 3) (λ rec. eqb (number_of rec) o) (method_records s (key o m)) (method_kinds s (key o m)) (method_object s y o m h)))
    where
      absent : (rec : Record) → (eqb (kind_of rec) 3 && eqb (number_of rec) o) ≡ true → not (stays s c rec) ≡ true
      absent rec t =
          ap not (stays_hidden rec (and_left (eqb (kind_of rec) 3) (eqb (number_of rec) o) t)
          (rw (eqb-true (number_of rec) o (and_right (eqb (kind_of rec) 3) (eqb (number_of rec) o) t)) e))

  pub emptied_method : AllYes s → AllYes (emptied c s) → (o m : ℕ) → dominates (masks_of s) c (level_of s o) ≡ true → method_of (emptied c s) o m ≡ method_of s o m
  emptied_method y z o m e = elim (dec_lt m 256) [
    | yes h ↦ method_is (emptied c s) z o m h ∙ ap (map step_of) (emptied_method_seen y o m h e) ∙ sym (method_is s y o m h)
    | no g ↦ method_none (emptied c s) z o m (omega arith) ∙ sym (method_none s y o m (omega arith))
  ]

  pub emptied_method_hidden : AllYes s → AllYes (emptied c s) → (o m : ℕ) → dominates (masks_of s) c (level_of s o) ≡ false → method_of (emptied c s) o m ≡ []
  emptied_method_hidden y z o m e = elim (dec_lt m 256) [
    | yes h ↦ method_is (emptied c s) z o m h ∙ ap (map step_of) (emptied_method_absent y o m h e)
    | no g ↦ method_none (emptied c s) z o m (omega arith)
  ]
