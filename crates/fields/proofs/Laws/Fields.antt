-- Fields kept in words: one set, one remembered, one forgotten, and all filled. Assumes nothing.
use Prim.Native.Nat.{ℕ, ◌+◌, ◌*◌, ◌<◌}
use mathlib.Core.Path.{◌≡◌, refl, ◌∙◌, ap, ap₂}
use mathlib.Core.Bool.{true, not}
use mathlib.Core.List.{List}
use native.Mathlib.Omega.{arith}
use lib.Dec.{eqb}
use lib.ListN.{get_or, set, length-set}
use lib.Seq.{get_or-set_same, get_or-set_other}
use Rattle.session.specs.Parts.{object_count}
use Rattle.session.specs.Program.{program_of}
use Rattle.session.specs.Value.{Value}
use Rattle.std.specs.Prelude.{None, Some}
use Rattle.lists.proofs.Laws.Rising.{less, same, more, order}
use Rattle.scripts.specs.Value.{tag, number_in}
use Rattle.scripts.specs.Existence.{initially}
use Rattle.fields.specs.Limits.{value_words, object_values}
use Rattle.lists.specs.Outside.{Outside}
use Rattle.fields.specs.Fields.{value_of, field_place, field_at, FieldThere, stored_in, Stored, FieldSet, known_tag, Remembered, Forgotten, WordsAre, Filled}
use Rattle.lists.proofs.Laws.Outside.{outside_none, outside_wider, outside_then, outside_set}

-- a value is read back from its two words
pub value_back : (v : Value) → value_of (tag v) (number_in v) ≡ v
value_back None = refl
value_back (Some n) = refl

-- so is one that was read
known_back : (v : Value) → value_of (known_tag v) (number_in v) ≡ v
known_back None = refl
known_back (Some n) = refl

known_tag_lem : (v : Value) → not (eqb (known_tag v) 0) ≡ true
known_tag_lem None = refl
known_tag_lem (Some n) = refl

-- where only the words of one field may have changed, those of another are as they were
field_apart : (ws ws' : List ℕ) (o k o' k' : ℕ) → k < object_values → k' < object_values → (o' ≡ o → k' ≡ k → ⊥) → Outside ws ws' (field_place o k) (field_place o k + value_words)
    → (get_or ws' (field_place o' k') 0 ≡ get_or ws (field_place o' k') 0) × (get_or ws' (field_place o' k' + 1) 0 ≡ get_or ws (field_place o' k' + 1) 0)
field_apart ws ws' o k o' k' h h' apart out = elim (order (object_values * o' + k') (object_values * o + k)) [
  | less g ↦ (out.below (field_place o' k') (omega arith), out.below (field_place o' k' + 1) (omega arith))
  | same g ↦ absurd (apart (omega arith) (omega arith))
  | more g ↦ (out.above (field_place o' k') (omega arith), out.above (field_place o' k' + 1) (omega arith))
]

-- the words of a field after a store, and the others
module _ (ws : List ℕ) (o k t n : ℕ) where
  stored-tag : FieldThere ws o k → get_or (stored_in ws o k t n) (field_place o k) 0 ≡ t
  stored-tag h =
      let at = field_place o k in
      get_or-set_other (set ws at t) (at + 1) at n 0 (omega arith) ∙ get_or-set_same ws at t 0 (omega (arith, h.room, h.object, h.field))

  stored_number : FieldThere ws o k → get_or (stored_in ws o k t n) (field_place o k + 1) 0 ≡ n
  stored_number h =
      let at = field_place o k in
      get_or-set_same (set ws at t) (at + 1) n 0 (omega (arith, length-set ws at t, h.room, h.object, h.field))

  stored_outside : Outside ws (stored_in ws o k t n) (field_place o k) (field_place o k + value_words)
  stored_outside =
      let at = field_place o k in
      outside_set ws (set ws at t) at (at + value_words) (at + 1) n (omega arith) (omega arith)
      (outside_set ws ws at (at + value_words) at t (omega arith) (omega arith) (outside_none ws at (at + value_words)))

-- a field whose words were replaced by a tag and a number that say a value holds it, and the others hold what they held
module _ (ws ws' : List ℕ) (o k t n : ℕ) (v : Value) (h : FieldThere ws o k) (is : ws' ≡ stored_in ws o k t n) (en : n ≡ number_in v) where
  field_stored : (u : ℕ) → t ≡ u → value_of u (number_in v) ≡ v → Stored ws ws' o k u v
  unfolding field_at
  field_stored u et back =
      let out : Outside ws ws' (field_place o k) (field_place o k + value_words) = rw is (stored_outside ws o k t n) in
      record {
        words = is ∙ ap₂ (stored_in ws o k) et en;
        set = rw is (ap₂ value_of (stored-tag ws o k t n h ∙ et) (stored_number ws o k t n h ∙ en) ∙ back);
        others = λ o' k' l m.
            let kept = field_apart ws ws' o k o' k' h.field l m out in
            ap₂ value_of kept.0 kept.1;
        outside = out;
      }

  pub field_set : t ≡ tag v → FieldSet ws ws' o k v
  field_set et = field_stored (tag v) et (value_back v)

  pub field_remembered : t ≡ known_tag v → Remembered ws ws' o k v
  field_remembered et =
      let stored = field_stored (known_tag v) et (known_back v) in
      let kept : get_or ws' (field_place o k) 0 ≡ t = rw is (stored-tag ws o k t n h) in
      record {
        field = stored;
        known = ap (λ x. not (eqb x 0)) (kept ∙ et) ∙ known_tag_lem v;
        others = λ o' k' l m. ap (λ x. not (eqb x 0)) (field_apart ws ws' o k o' k' h.field l m stored.outside).0;
      }

-- a field whose tag became 0 is forgotten
pub field_forgotten : (ws : List ℕ) (o k : ℕ) → FieldThere ws o k → Forgotten ws (set ws (field_place o k) 0) o k
unfolding field_at
field_forgotten ws o k h =
    let at = field_place o k in
    let out = outside_set ws ws at (at + value_words) at 0 (omega arith) (omega arith) (outside_none ws at (at + value_words)) in
    record {
      words = refl;
      known = ap (λ x. not (eqb x 0)) (get_or-set_same ws at 0 0 (omega (arith, h.room, h.object, h.field)));
      others = λ o' k' l m.
          let kept = field_apart ws (set ws at 0) o k o' k' h.field l m out in
          (ap (λ x. not (eqb x 0)) kept.0, ap₂ value_of kept.0 kept.1);
    }

-- the words of the first i fields are filled
pub record Filling (s ws ws' : List ℕ) (i : ℕ) : Type 0 where
  pub filled : (o k : ℕ) → k < object_values → object_values * o + k < i → WordsAre ws' o k (initially (program_of s) o k)
  pub outside : Outside ws ws' 0 (value_words * i)

pub fill_none : (s ws : List ℕ) → Filling s ws ws 0
fill_none s ws = record { filled = λ o k h l. absurd (omega arith); outside = outside_none ws 0 0 }

pub fill_more : (s ws ws' ws'' : List ℕ) (i object field : ℕ) (v : Value) → i ≡ object_values * object + field → Filling s ws ws' i → FieldThere ws' object field → FieldSet ws' ws'' object field v
    → v ≡ initially (program_of s) object field → Filling s ws ws'' (i + 1)
fill_more s ws ws' ws'' i object field v at f h t e =
    record {
      filled = λ o k l m. elim (order (object_values * o + k) i) [
        | less g ↦
            let kept = field_apart ws' ws'' object field o k h.field l (λ p q. omega (arith, p, q)) t.outside in
            (kept.0 ∙ (f.filled o k l g).0, kept.1 ∙ (f.filled o k l g).1)
        | same g ↦
            let p : o ≡ object = omega (arith, h.field) in
            let q : k ≡ field = omega (arith, h.field) in
            rw (p, q, t.words)
            (stored-tag ws' object field (tag v) (number_in v) h ∙ ap tag e, stored_number ws' object field (tag v) (number_in v) h ∙ ap number_in e)
        | more g ↦ absurd (omega arith)
      ];
      outside =
          outside_then ws ws' ws'' 0 (value_words * (i + 1))
          (outside_wider ws ws' 0 (value_words * i) 0 (value_words * (i + 1)) (omega arith) (omega arith) f.outside)
          (outside_wider ws' ws'' (field_place object field) (field_place object field + value_words) 0 (value_words * (i + 1)) (omega arith) (omega arith) t.outside);
    }

pub fill_all : (s ws ws' : List ℕ) (i : ℕ) → i ≡ object_values * object_count s → Filling s ws ws' i → Filled s ws ws'
unfolding field_at
fill_all s ws ws' i e f =
    record {
      words_are = λ o k h l. f.filled o k l (omega arith);
      fields_are = λ o k h l. let is = f.filled o k l (omega arith) in ap₂ value_of is.0 is.1 ∙ value_back (initially (program_of s) o k);
      outside = outside_wider ws ws' 0 (value_words * i) 0 (field_place (object_count s) 0) (omega arith) (omega arith) f.outside;
    }
