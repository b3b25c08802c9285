-- What is shown of one object, one level and the reply: placed, and its length. Assumes nothing.
use Prim.Native.Nat.{ℕ, zero, suc, ◌+◌, ◌*◌, ◌≤◌, ◌<◌}
use mathlib.Core.Path.{◌≡◌, refl, sym, ◌∙◌, ap}
use mathlib.Core.Bool.{true, false, ◌&&◌}
use mathlib.Core.List.{List, [], ◌∷◌, map}
use native.Mathlib.Nat.{mul-suc}
use native.Mathlib.Omega.{arith}
use lib.ListN.{length, get_or, length-append}
use Rattle.dominance.specs.Order.{Dominance}
use Rattle.dominance.specs.Table.{dominates}
use Rattle.lists.proofs.Laws.Range.{and_both, and_fails_left, and_fails_right}
use Rattle.session.specs.Limits.{record_bytes}
use Rattle.lists.specs.Lists.{tab, joined}
use Rattle.session.specs.Parts.{masks_of}
use Rattle.session.specs.Meaning.{level_of}
use Rattle.session.specs.Program.{Program, program_of}
use Rattle.session.specs.Value.{Value}
use Rattle.std.specs.Prelude.{None}
use Rattle.lists.proofs.Laws.Lists.{holds, fails, truth}
use Rattle.scripts.specs.Existence.{existence, is_there}
use Rattle.fields.specs.Fields.{value_of}
use Rattle.model.specs.Limits.{max_managers}
use Rattle.model.specs.History.{History}
use Rattle.model.specs.Result.{object_record, history_record, reply_record, reply_of}
use Rattle.rows.specs.Rows.{row_at, rows_at}
use Rattle.histories.specs.Limits.{tag_place, number_place}
use Rattle.histories.specs.Histories.{history_of_row, history_place, histories_at}
use Rattle.results.specs.Writing.{shown_object, shown_level, shown_reply}
use Rattle.lists.specs.Placed.{Placed}
use Rattle.histories.proofs.Laws.Histories.{map-tab, history_at, histories_tab}
use Rattle.lists.proofs.Laws.Placed.{placed_none}

-- an object: its record where it is there and the clearance dominates its level, and else nothing
module _ (s masks : List ℕ) (field : ℕ → ℕ → Value) (c o level at next : ℕ) (b b' : List ℕ) (m : masks ≡ masks_of s) (l : level ≡ level_of s o) where
  pub object_shown : (made : List ℕ) → is_there (field o existence) ≡ true → dominates masks c level ≡ true → made ≡ object_record o level (field o) → Placed made at b b' next
      → Placed (shown_object (program_of s) field c o) at b b' next
  unfolding shown_object program_of
  object_shown made t d e p =
      let d' : dominates (masks_of s) c (level_of s o) ≡ true = rw (m, l) at d in
      let e' : made ≡ object_record o (level_of s o) (field o) = rw l at e in
      rw (and_both (dominates (masks_of s) c (level_of s o)) (is_there (field o existence)) d' t, sym e') p

  pub object_hidden : dominates masks c level ≡ false → at ≤ length b → Placed (shown_object (program_of s) field c o) at b b at
  unfolding shown_object program_of
  object_hidden d h =
      let d' : dominates (masks_of s) c (level_of s o) ≡ false = rw (m, l) at d in
      rw (and_fails_left (dominates (masks_of s) c (level_of s o)) (is_there (field o existence)) d') (placed_none at b h)

pub object_absent : (p : Program) (field : ℕ → ℕ → Value) (c o at : ℕ) (b : List ℕ) → is_there (field o existence) ≡ false → at ≤ length b → Placed (shown_object p field c o) at b b at
unfolding shown_object
object_absent p field c o at b t h = rw (and_fails_right (p.dom c (p.level o)) (is_there (field o existence)) t) (placed_none at b h)

-- a level and the reply
module _ (dom : Dominance) (ended : ℕ → List History) (c l at next : ℕ) (b b' : List ℕ) where
  pub level_shown : dom c l ≡ true → Placed (joined (map (history_record l) (ended l))) at b b' next → Placed (shown_level dom ended c l) at b b' next
  unfolding shown_level
  level_shown d p = rw d p

  pub level_hidden : dom c l ≡ false → at ≤ length b → Placed (shown_level dom ended c l) at b b at
  unfolding shown_level
  level_hidden d h = rw d (placed_none at b h)

  pub reply_shown_lem : (made : List ℕ) (v : Value) → dom c l ≡ true → made ≡ reply_record l v → v ≡ reply_of (ended l) → Placed made at b b' next
      → Placed (shown_reply dom ended c l) at b b' next
  unfolding shown_reply
  reply_shown_lem made v d e r p =
      let e' : made ≡ reply_record l (reply_of (ended l)) = rw r at e in
      rw (d, sym e') p

  pub reply_hidden : dom c l ≡ false → at ≤ length b → Placed (shown_reply dom ended c l) at b b at
  unfolding shown_reply
  reply_hidden d h = rw d (placed_none at b h)

-- the histories of a level, row by row
abbrev pub history_bytes : List ℕ → ℕ → ℕ → List ℕ
history_bytes ws l i = history_record l (history_at ws l i)

pub histories_rows : (ws : List ℕ) (l n : ℕ) → map (history_record l) (histories_at ws l n) ≡ tab n (history_bytes ws l)
histories_rows ws l n = ap (map (history_record l)) (histories_tab ws l n) ∙ map-tab (history_record l) n (history_at ws l)

-- the reply of a level's first history
pub reply_none : (ws : List ℕ) (l n : ℕ) → n ≡ 0 → None ≡ reply_of (histories_at ws l n)
unfolding histories_at rows_at tab
reply_none ws l n e = rw e refl

pub reply_first : (ws : List ℕ) (l n : ℕ) → (n ≡ 0 → ⊥) → value_of (get_or ws (history_place l 0 + tag_place) 0) (get_or ws (history_place l 0 + number_place) 0) ≡ reply_of (histories_at ws l n)
unfolding histories_at history_of_row rows_at row_at tab
reply_first ws l zero h = absurd (h refl)
reply_first ws l (suc n) h = refl

-- what is shown of the objects from a number on
abbrev pub shown_from : Program → (ℕ → ℕ → Value) → ℕ → ℕ → ℕ → List ℕ
shown_from p field c first i = shown_object p field c (first + i)

-- how long each is
pub object_length : (p : Program) (field : ℕ → ℕ → Value) (c o : ℕ) → length (shown_object p field c o) ≤ record_bytes
unfolding shown_object object_record
object_length p field c o = elim (truth (p.dom c (p.level o) && is_there (field o existence))) [
  | holds e ↦ rw e (omega arith)
  | fails e ↦ rw e (omega arith)
]

pub reply_length : (dom : Dominance) (ended : ℕ → List History) (c l : ℕ) → length (shown_reply dom ended c l) ≤ record_bytes
unfolding shown_reply reply_record
reply_length dom ended c l = elim (truth (dom c l)) [
  | holds e ↦ rw e (omega arith)
  | fails e ↦ rw e (omega arith)
]

records_length : (l : ℕ) (hs : List History) → length (joined (map (history_record l) hs)) ≡ record_bytes * length hs
unfolding joined history_record
records_length l [] = refl
records_length l (h ∷ hs) = length-append (history_record l h) (joined (map (history_record l) hs)) ∙ omega (arith, records_length l hs)

pub level_length : (dom : Dominance) (ended : ℕ → List History) (c l : ℕ) → length (ended l) ≤ max_managers → length (shown_level dom ended c l) ≤ record_bytes * max_managers
unfolding shown_level
level_length dom ended c l h = elim (truth (dom c l)) [
  | holds e ↦ rw e (omega (arith, records_length l (ended l)))
  | fails e ↦ rw e (omega arith)
]

-- groups of at most k bytes each
pub groups_length : (k n : ℕ) (g : ℕ → List ℕ) → ((i : ℕ) → i < n → length (g i) ≤ k) → length (joined (tab n g)) ≤ k * n
unfolding tab joined
groups_length k zero g h = omega arith
groups_length k (suc n) g h =
    omega (arith, length-append (g zero) (joined (tab n (λ i. g (suc i)))), h zero (omega arith), mul-suc k n, groups_length k n (λ i. g (suc i)) (λ i l. h (suc i) (omega arith)))

-- what is shown of n objects
pub range_length : (p : Program) (field : ℕ → ℕ → Value) (c first n : ℕ) → length (joined (tab n (shown_from p field c first))) ≤ record_bytes * n
range_length p field c first n = groups_length record_bytes n (shown_from p field c first) (λ i l. object_length p field c (first + i))
