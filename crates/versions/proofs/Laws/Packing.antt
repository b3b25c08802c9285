-- A version that is packed into two numbers is read back. Assumes nothing.
use Rattle.std.proofs.Common.{◌≡◌, ℕ, ◌+◌, ◌*◌, ◌/◌, ◌%◌, ◌^◌, ◌<◌, refl, arith}
use Rattle.session.specs.Value.{Value}
use Rattle.std.specs.Prelude.{None, Some}
use Rattle.scripts.specs.Value.{tag}
use Rattle.fields.proofs.Laws.Fields.{value_back}
use Rattle.model.specs.Level.{Version}
use Rattle.versions.specs.Log.{key_of, first_of, second_of, version_of}

-- the parts of a first number p with the tag t
module _ (p t s o k : ℕ) (e : p ≡ key_of o k + 2 * s + t) (low : t < 2) (stamp : s < 2 ^ 16) (field : k < 2 ^ 2) where
  stamp_back : p / 2 % 2 ^ 16 ≡ s
  stamp_back =
      let q : p / 2 ≡ 262144 * o + 65536 * k + s = omega arith in
      omega arith

  object_back : p / 2 ^ 19 ≡ o
  object_back = omega arith

  field_back : p / 2 ^ 17 % 2 ^ 2 ≡ k
  field_back =
      let q : p / 2 ^ 17 ≡ 4 * o + k = omega arith in
      omega arith

  tag_back : p % 2 ≡ t
  tag_back = omega arith

-- the value of a tag and a number
tagged : (x : Value) → tag x < 2
tagged None = omega arith
tagged (Some n) = omega arith

-- a version whose write stamp and field fit is read back from its two numbers
pub version_back : (v : Version) → v.stamp < 2 ^ 16 → v.field < 2 ^ 2 → version_of (first_of v) (second_of v) ≡ v
unfolding version_of
version_back v h l =
    let p = first_of v in
    let t = tag v.value in
    let s = v.stamp in
    let o = v.object in
    let k = v.field in
    let m = tagged v.value in
    rw (stamp_back p t s o k refl m h l, object_back p t s o k refl m h l, field_back p t s o k refl m h l, tag_back p t s o k refl m h l, value_back v.value) refl
