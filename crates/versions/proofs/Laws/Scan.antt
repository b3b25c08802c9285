-- A backward scan of a log for the newest version of a field: how far a version's first number lies above the field's key, modulo 2^32,
-- says whether it is one. Assumes nothing.
use Rattle.std.proofs.Common.{◌≡◌, ℕ, suc, ◌+◌, ◌-◌, ◌*◌, ◌/◌, ◌%◌, ◌^◌, ◌<◌, ◌≤◌, true, false, eqb, List, refl, arith, eq-eqb, eqb-true}
use Rattle.lists.proofs.Laws.Range.{refuted, and_left, and_right, and_both}
use Rattle.session.specs.Value.{Value}
use Rattle.model.specs.Level.{is_of, newest}
use Rattle.versions.specs.Log.{key_of, version_of, version_at, log_of}

-- d is the distance, modulo 2^32, from the key of a field up to the first number of a version
pub record Distance (packed object field d : ℕ) : Type 0 where
  pub object_fits : object < 2 ^ 8
  pub field_fits : field < 2 ^ 2
  pub packed_fits : packed < 2 ^ 32
  pub fits : d < 2 ^ 32
  pub distance : (d + key_of object field) % 2 ^ 32 ≡ packed

-- a difference that wraps is the distance
pub distance_of : (packed object field key : ℕ) → object < 2 ^ 8 → field < 2 ^ 2 → packed < 2 ^ 32 → key ≡ key_of object field
    → Distance packed object field ((packed + (2 ^ 32 - key)) % 2 ^ 32)
distance_of packed object field key o k p e =
    record { object_fits = o; field_fits = k; packed_fits = p; fits = omega arith; distance = omega arith }

-- a number is its part from bit 17 on and the rest
parts : (packed object field : ℕ) → packed / 2 ^ 19 ≡ object → packed / 2 ^ 17 % 2 ^ 2 ≡ field → packed ≡ key_of object field + packed % 2 ^ 17
parts packed object field o k =
    let q : packed / 2 ^ 17 ≡ 4 * object + field = omega arith in
    omega arith

-- a distance that does not wrap
distance_is : {packed object field d : ℕ} → Distance packed object field d → (r : ℕ) → packed ≡ key_of object field + r → d ≡ r
distance_is h r e = omega arith

too_far : {d : ℕ} (r : ℕ) → d ≡ r → r < 2 ^ 17 → 2 ^ 17 ≤ d → ⊥
too_far r e s l = omega arith

module _ (packed number object field d : ℕ) (h : Distance packed object field d) where
  pub near_is : d < 2 ^ 17 → is_of object field (version_of packed number) ≡ true
  unfolding version_of
  near_is l =
      let whole : packed ≡ d + key_of object field = omega arith in
      let o : packed / 2 ^ 19 ≡ object = omega arith in
      let q : packed / 2 ^ 17 ≡ 4 * object + field = omega arith in
      let k : packed / 2 ^ 17 % 2 ^ 2 ≡ field = omega arith in
      and_both _ _ (eq-eqb _ _ o) (eq-eqb _ _ k)

  pub far_is_not : 2 ^ 17 ≤ d → is_of object field (version_of packed number) ≡ false
  unfolding version_of
  far_is_not l = refuted (is_of object field (version_of packed number)) λ t.
      let is_object = eqb (packed / 2 ^ 19) object in
      let is_field = eqb (packed / 2 ^ 17 % 2 ^ 2) field in
      let o : packed / 2 ^ 19 ≡ object = eqb-true _ _ (and_left is_object is_field t) in
      let k : packed / 2 ^ 17 % 2 ^ 2 ≡ field = eqb-true _ _ (and_right is_object is_field t) in
      absurd (too_far (packed % 2 ^ 17) (distance_is h (packed % 2 ^ 17) (parts packed object field o k)) (omega arith) l)

module _ (w : List ℕ) (start n : ℕ) (initial : Value) (object field : ℕ) where
  pub scan_none : newest initial object field (log_of w start 0) ≡ initial
  unfolding newest log_of
  scan_none = refl

  -- the newest version is one of the field, or the scan goes on below it
  pub scan_found : is_of object field (version_at w (start + 2 * n)) ≡ true → newest initial object field (log_of w start (suc n)) ≡ (version_at w (start + 2 * n)).value
  unfolding newest log_of
  scan_found e = rw e

  pub scan_past : is_of object field (version_at w (start + 2 * n)) ≡ false → newest initial object field (log_of w start (suc n)) ≡ newest initial object field (log_of w start n)
  unfolding newest log_of
  scan_past e = rw e
