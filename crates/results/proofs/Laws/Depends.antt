-- What the bytes of a result depend on. Assumes nothing.
use Prim.Native.Nat.{ℕ, ◌+◌, ◌*◌, ◌≤◌, ◌<◌}
use mathlib.Core.Path.{◌≡◌, refl, sym, ◌∙◌, ap, ap₂}
use mathlib.Core.Bool.{true}
use mathlib.Core.List.{List, ◌++◌, map}
use native.Mathlib.Nat.{zero-add}
use native.Mathlib.Omega.{arith}
use Rattle.dominance.specs.Table.{dominates}
use Rattle.session.specs.Limits.{fields, max_objects, made_objects}
use Rattle.lists.specs.Lists.{joined}
use Rattle.session.specs.Parts.{level_count, object_count, masks_of}
use Rattle.session.specs.Meaning.{Numbered}
use Rattle.session.specs.Program.{Program, program_of}
use Rattle.session.specs.Value.{Value}
use Rattle.lists.proofs.Laws.Lists.{holds, fails, truth}
use Rattle.lists.proofs.Laws.Fill.{tab_ext}
use Rattle.session.proofs.Laws.Numbers.{number_own, number_made}
use Rattle.scripts.specs.Existence.{existence}
use Rattle.model.specs.Result.{Result, object_record, history_record, reply_record, reply_of}
use Rattle.results.specs.Writing.{bytes_in, shown_object, shown_objects, shown_level, shown_reply}
use Rattle.results.proofs.Laws.Written.{numbers_shown, bytes_are}

-- an object's record takes its three fields
record_depends : (o level : ℕ) (f g : ℕ → Value) → ((k : ℕ) → k < fields → f k ≡ g k) → object_record o level f ≡ object_record o level g
unfolding object_record
record_depends o level f g e = rw (e 0 (omega arith), e 1 (omega arith), e 2 (omega arith)) refl

-- what is shown of an object takes its existence too
object_depends : (p : Program) (f g : ℕ → ℕ → Value) (c o : ℕ) → ((k : ℕ) → k ≤ existence → f o k ≡ g o k) → shown_object p f c o ≡ shown_object p g c o
unfolding shown_object
object_depends p f g c o e =
    rw (e existence (omega arith), record_depends o (p.level o) (f o) (g o) (λ k h. e k (omega arith))) refl

module _ (s : List ℕ) (r r' : Result) (c : ℕ) where
  objects_depend : ((o k : ℕ) → Numbered s o → k ≤ existence → r.field o k ≡ r'.field o k) → shown_objects (program_of s) r.field c ≡ shown_objects (program_of s) r'.field c
  unfolding program_of
  objects_depend e =
      numbers_shown (program_of s) r.field c
      ∙ ap₂ (λ x y. joined x ++ joined y)
      (tab_ext (object_count s) _ _ (λ i h. object_depends (program_of s) r.field r'.field c (0 + i) (λ k. e (0 + i) k (number_own s (0 + i) (rw zero-add h)))))
      (tab_ext (made_objects * level_count s) _ _ (λ i h. object_depends (program_of s) r.field r'.field c (max_objects + i) (λ k. e (max_objects + i) k (number_made s (max_objects + i) (omega arith) (omega arith)))))
      ∙ sym (numbers_shown (program_of s) r'.field c)

  level_depends : (l : ℕ) → ((program_of s).dom c l ≡ true → r.ended l ≡ r'.ended l) → shown_level (program_of s).dom r.ended c l ≡ shown_level (program_of s).dom r'.ended c l
  unfolding shown_level
  level_depends l e = elim (truth ((program_of s).dom c l)) [
    | holds t ↦ rw t (ap (λ hs. joined (map (history_record l) hs)) (e t))
    | fails t ↦ rw t refl
  ]

  reply_depends : (l : ℕ) → ((program_of s).dom c l ≡ true → r.ended l ≡ r'.ended l) → shown_reply (program_of s).dom r.ended c l ≡ shown_reply (program_of s).dom r'.ended c l
  unfolding shown_reply
  reply_depends l e = elim (truth ((program_of s).dom c l)) [
    | holds t ↦ rw t (ap (λ hs. reply_record l (reply_of hs)) (e t))
    | fails t ↦ rw t refl
  ]

  -- on the fields and the existence of objects that have numbers, and the histories of the levels that the clearance dominates
  pub bytes_depend : (rootLevel : ℕ) → rootLevel < level_count s
      → ((o k : ℕ) → Numbered s o → k ≤ existence → r.field o k ≡ r'.field o k)
      → ((l : ℕ) → l < level_count s → dominates (masks_of s) c l ≡ true → r.ended l ≡ r'.ended l)
      → bytes_in s r c rootLevel ≡ bytes_in s r' c rootLevel
  unfolding program_of
  bytes_depend rootLevel h f e =
      bytes_are (program_of s) r c rootLevel
      ∙ ap₂ ◌++◌
      (ap₂ ◌++◌ (objects_depend f) (ap joined (tab_ext (level_count s) _ _ (λ l m. level_depends l (e l m)))))
      (reply_depends rootLevel (e rootLevel h))
      ∙ sym (bytes_are (program_of s) r' c rootLevel)
