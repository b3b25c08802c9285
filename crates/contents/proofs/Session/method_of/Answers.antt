-- The index says where the method starts and ends.
use Prim.Native.Nat.{ℕ, ◌+◌, ◌*◌, ◌/◌, ◌%◌, ◌<◌}
use mathlib.Core.Path.{◌≡◌, ◌∙◌, ap, ap₂}
use mathlib.Core.List.{List}
use native.Mathlib.Omega.{arith}
use lib.ListN.{length, get_or}
use Rattle.session.specs.Limits.{names}
use Rattle.session.specs.Parts.{object_count, key}
use Rattle.session.specs.Questions.{verdict_of, Accepted}
use Rattle.session.specs.Meaning.{method_of}
use Rattle.contents.specs.Reading.{method_start, index_of}
use Rattle.session.proofs.Laws.Contents.{object_limit, method_length}
use Rattle.contents.proofs.Laws.Methods.{index_length, slot_first, slot_end}
use Rattle.contents.proofs.Session.method_of.Goals as goal

-- what the index holds for a method: where it starts, and where it ends
module _ (s index : List ℕ) (a : verdict_of s ≡ Accepted) (e : index ≡ index_of s) (slot : ℕ) (there : slot / names < object_count s) where
  abbrev o : ℕ
  o = slot / names

  abbrev m : ℕ
  m = slot % names

  same : slot ≡ names * o + m
  same = omega arith

  low : m < names
  low = omega arith

  starts : get_or index slot 0 ≡ method_start s (key o m)
  starts = ap₂ (λ l i. get_or l i 0) e same ∙ slot_first s a o m there low

  ends : get_or index (slot + 1) 0 ≡ method_start s (key o m) + length (method_of s o m)
  ends = ap₂ (λ l i. get_or l (i + 1) 0) e same ∙ rw (method_length s a o m (omega (arith, low))) (slot_end s a o m there low)

pub offset_bounds-self-slot : goal.offset_bounds-self-slot
offset_bounds-self-slot c = omega (arith, object_limit c.args.self.now.bytes.now c.args.self.now.accepted, c.requires)

pub bounds-self-slot : goal.bounds-self-slot
bounds-self-slot c =
    omega (arith, object_limit c.args.self.now.bytes.now c.args.self.now.accepted, c.requires, ap length c.args.self.now.index_is, index_length c.args.self.now.bytes.now c.args.self.now.accepted)

pub overflow_add-end : goal.overflow_add-end
overflow_add-end c =
    omega (arith, object_limit c.args.self.now.bytes.now c.args.self.now.accepted, c.requires)

pub offset_bounds-self-slot-2 : goal.offset_bounds-self-slot-2
offset_bounds-self-slot-2 c =
    omega (arith, object_limit c.args.self.now.bytes.now c.args.self.now.accepted, c.requires)

pub bounds-self-slot-2 : goal.bounds-self-slot-2
bounds-self-slot-2 c =
    omega (arith, object_limit c.args.self.now.bytes.now c.args.self.now.accepted, c.requires, ap length c.args.self.now.index_is, index_length c.args.self.now.bytes.now c.args.self.now.accepted)

pub overflow_sub-count : goal.overflow_sub-count
overflow_sub-count c =
    let t = c.args.self.now.bytes.now in
    let first = starts t c.args.self.now.index.now c.args.self.now.accepted c.args.self.now.index_is c.args.slot c.requires in
    let end = ends t c.args.self.now.index.now c.args.self.now.accepted c.args.self.now.index_is c.args.slot c.requires in
    omega arith

pub returns : goal.returns
returns c =
    let t = c.args.self.now.bytes.now in
    let first = starts t c.args.self.now.index.now c.args.self.now.accepted c.args.self.now.index_is c.args.slot c.requires in
    let end = ends t c.args.self.now.index.now c.args.self.now.accepted c.args.self.now.index_is c.args.slot c.requires in
    record { start_is = first; count_is = omega arith }
