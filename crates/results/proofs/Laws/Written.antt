-- The bytes of a result as what is shown of each object, each level and the reply, and how many there are. Assumes nothing.
use Prim.Native.Nat.{ℕ, ◌+◌, ◌*◌, ◌≤◌, ◌<◌}
use mathlib.Core.Path.{◌≡◌, refl, sym, ◌∙◌, ap, ap₂}
use mathlib.Core.Bool.{Bool, cond}
use mathlib.Core.List.{List, [], ◌∷◌, ◌++◌, map, append-nil, map-append}
use native.Mathlib.Nat.{zero-add}
use native.Mathlib.Omega.{arith}
use lib.ListN.{length, length-append}
use Rattle.dominance.specs.Table.{dominates}
use Rattle.session.specs.Limits.{record_bytes, max_levels, max_objects, made_objects, max_numbers}
use Rattle.lists.specs.Lists.{tab, select, joined}
use Rattle.session.specs.Parts.{level_count, masks_of}
use Rattle.session.specs.Program.{Program, program_of}
use Rattle.session.specs.Value.{Value}
use Rattle.lists.proofs.Laws.Lists.{holds, fails, truth}
use Rattle.lists.proofs.Laws.Fill.{tab_ext}
use Rattle.session.proofs.Laws.Contents.{masks_length, level_limit, object_limit}
use Rattle.fields.specs.Fields.{field_at, FieldsReady}
use Rattle.model.specs.Limits.{max_managers, result_bytes}
use Rattle.model.specs.Result.{Result, object_record, history_record, reply_record, reply_of, numbers_of, is_shown, objects_shown, levels_shown, histories_shown, reply_shown, bytes_of}
use Rattle.lists.proofs.Laws.Choice.{chosen_groups}
use Rattle.histories.specs.Histories.{ended_in, HistoriesReady}
use Rattle.results.specs.Writing.{result_in, bytes_in, shown_object, shown_objects, shown_level, shown_reply}
use Rattle.lists.specs.Placed.{Placed, Written}
use Rattle.histories.proofs.Laws.Histories.{ended_few, map-tab}
use Rattle.lists.proofs.Laws.Placed.{placed_then, placed-written, joined-append}
use Rattle.results.proofs.Laws.Shown.{shown_from, range_length, level_length, reply_length, groups_length}

-- groups of records joined: all at once or group by group
joined_groups : (g : ℕ → List (List ℕ)) (xs : List ℕ) → joined (joined (map g xs)) ≡ joined (map (λ x. joined (g x)) xs)
unfolding joined
joined_groups g [] = refl
joined_groups g (x ∷ xs) = joined-append (g x) (joined (map g xs)) ∙ ap (λ t. joined (g x) ++ t) (joined_groups g xs)

-- groups of the elements that pass joined: of those chosen first, or of all, where the others have none
joined_chosen : (t : ℕ → Bool) (g : ℕ → List ℕ) (xs : List ℕ) → joined (map g (select t xs)) ≡ joined (map (λ x. cond (t x) (g x) []) xs)
unfolding joined select
joined_chosen t g [] = refl
joined_chosen t g (x ∷ xs) = elim (truth (t x)) [
  | holds e ↦ rw e (ap (λ l. g x ++ l) (joined_chosen t g xs))
  | fails e ↦ rw e (joined_chosen t g xs)
]

-- what is shown of the session's objects and of those that can be made
module _ (p : Program) (field : ℕ → ℕ → Value) (c : ℕ) where
  pub numbers_shown : shown_objects p field c ≡ joined (tab p.objects (shown_from p field c 0)) ++ joined (tab (made_objects * p.levels) (shown_from p field c max_objects))
  numbers_shown =
      let own = tab p.objects (λ o. o) in
      let made = tab (made_objects * p.levels) (λ i. max_objects + i) in
      let shown = shown_object p field c in
      ap joined (map-append shown own made)
      ∙ joined-append (map shown own) (map shown made)
      ∙ ap₂ (λ x y. joined x ++ joined y)
      (map-tab shown p.objects (λ o. o) ∙ tab_ext p.objects shown (shown_from p field c 0) (λ i h. ap shown (sym (zero-add i))))
      (map-tab shown (made_objects * p.levels) (λ i. max_objects + i))

  -- placed one behind the other they are all
  pub numbers_placed : (objects made m n : ℕ) (b b1 b2 : List ℕ) → objects ≡ p.objects → made ≡ made_objects * p.levels
      → Placed (joined (tab objects (shown_from p field c 0))) 0 b b1 m → Placed (joined (tab made (shown_from p field c max_objects))) m b1 b2 n
      → Placed (shown_objects p field c) 0 b b2 n
  numbers_placed objects made m n b b1 b2 eo em po pm =
      let own = joined (tab p.objects (shown_from p field c 0)) in
      let others = joined (tab (made_objects * p.levels) (shown_from p field c max_objects)) in
      let po' : Placed own 0 b b1 m = rw eo at po in
      let pm' : Placed others m b1 b2 n = rw em at pm in
      rw numbers_shown (placed_then b b1 own 0 m po' b2 others n pm')

  pub objects_length : p.levels ≤ max_levels → p.objects ≤ max_objects → length (shown_objects p field c) ≤ record_bytes * max_numbers
  objects_length hl ho =
      omega (
        arith,
        ap length numbers_shown,
        length-append (joined (tab p.objects (shown_from p field c 0))) (joined (tab (made_objects * p.levels) (shown_from p field c max_objects))),
        range_length p field c 0 p.objects,
        range_length p field c max_objects (made_objects * p.levels),
      )

module _ (p : Program) (r : Result) (c : ℕ) where
  objects_bytes : joined (objects_shown p r c) ≡ shown_objects p r.field c
  unfolding objects_shown shown_object
  objects_bytes = joined_chosen (is_shown p r c) (λ o. object_record o (p.level o) (r.field o)) (numbers_of p)

  histories_bytes : joined (histories_shown p r c) ≡ joined (tab p.levels (shown_level p.dom r.ended c))
  unfolding histories_shown shown_level
  histories_bytes =
      joined_groups (λ l. map (history_record l) (r.ended l)) (levels_shown p c)
      ∙ chosen_groups (p.dom c) (λ l. joined (map (history_record l) (r.ended l))) p.levels (λ l. l)

  reply_bytes : (rootLevel : ℕ) → joined (reply_shown p r c rootLevel) ≡ shown_reply p.dom r.ended c rootLevel
  unfolding joined reply_shown shown_reply
  reply_bytes rootLevel = elim (truth (p.dom c rootLevel)) [
    | holds e ↦ rw e (append-nil (reply_record rootLevel (reply_of (r.ended rootLevel))))
    | fails e ↦ rw e refl
  ]

  -- the bytes
  pub bytes_are : (rootLevel : ℕ) → bytes_of p rootLevel r c
      ≡ shown_objects p r.field c ++ joined (tab p.levels (shown_level p.dom r.ended c)) ++ shown_reply p.dom r.ended c rootLevel
  unfolding bytes_of
  bytes_are rootLevel =
      joined-append (objects_shown p r c ++ histories_shown p r c) (reply_shown p r c rootLevel)
      ∙ ap₂ ◌++◌ (joined-append (objects_shown p r c) (histories_shown p r c) ∙ ap₂ ◌++◌ objects_bytes histories_bytes) (reply_bytes rootLevel)

  -- "at most 8 levels, 32 objects", 4 made a level, and 32 managers a level: they fit question 11's buffer
  pub bytes_fit : (rootLevel : ℕ) → p.levels ≤ max_levels → p.objects ≤ max_objects → ((l : ℕ) → l < p.levels → length (r.ended l) ≤ max_managers)
      → length (bytes_of p rootLevel r c) ≤ result_bytes
  bytes_fit rootLevel hl ho h =
      let objects = shown_objects p r.field c in
      let histories = joined (tab p.levels (shown_level p.dom r.ended c)) in
      let reply = shown_reply p.dom r.ended c rootLevel in
      omega (
        arith,
        ap length (bytes_are rootLevel),
        length-append (objects ++ histories) reply,
        length-append objects histories,
        objects_length p r.field c hl ho,
        groups_length 512 p.levels (shown_level p.dom r.ended c) (λ l m. level_length p.dom r.ended c l (h l m)),
        reply_length p.dom r.ended c rootLevel,
      )

-- a run's words, of an accepted session
module _ (s masks fields histories counts : List ℕ) (c : ℕ) (f : FieldsReady s masks fields) (h : HistoriesReady histories counts) where
  -- as many masks as levels, and at most 8
  pub table_length : length masks ≡ level_count s
  table_length = ap length f.table ∙ masks_length s f.accepted

  pub table_few : length masks ≤ max_levels
  table_few = omega (arith, table_length, level_limit s f.accepted)

  -- how many bytes the objects and the levels take at most
  pub objects_few : length (shown_objects (program_of s) (field_at fields) c) ≤ record_bytes * max_numbers
  objects_few = objects_length (program_of s) (field_at fields) c (unfold program_of in level_limit s f.accepted) (unfold program_of in object_limit s f.accepted)

  pub levels_few : length (joined (tab (length masks) (shown_level (dominates masks) (ended_in histories counts) c))) ≤ 4096
  levels_few =
      omega (
        arith,
        table_few,
        groups_length 512 (length masks) (shown_level (dominates masks) (ended_in histories counts) c)
            (λ l m. level_length (dominates masks) (ended_in histories counts) c l (ended_few histories counts h l (omega (arith, table_few)))),
      )

  -- objects, levels and reply, placed one behind the other, are the whole result
  pub all-written : (rootLevel m n k : ℕ) (b b1 b2 b3 : List ℕ)
      → Placed (shown_objects (program_of s) (field_at fields) c) 0 b b1 m
      → Placed (joined (tab (length masks) (shown_level (dominates masks) (ended_in histories counts) c))) m b1 b2 n
      → Placed (shown_reply (dominates masks) (ended_in histories counts) c rootLevel) n b2 b3 k
      → Written (bytes_in s (result_in fields histories counts) c rootLevel) b b3 k
  unfolding program_of
  all-written rootLevel m n k b b1 b2 b3 po pl pr =
      let ended = ended_in histories counts in
      let objects = shown_objects (program_of s) (field_at fields) c in
      let levels = joined (tab (level_count s) (shown_level (dominates (masks_of s)) ended c)) in
      let reply = shown_reply (dominates (masks_of s)) ended c rootLevel in
      let pl' : Placed levels m b1 b2 n = rw (table_length, f.table) at pl in
      let pr' : Placed reply n b2 b3 k = rw f.table at pr in
      let all : Placed (objects ++ levels ++ reply) 0 b b3 k =
      placed_then b b2 (objects ++ levels) 0 n (placed_then b b1 objects 0 m po b2 levels n pl') b3 reply k pr' in
      rw (bytes_are (program_of s) (result_in fields histories counts) c rootLevel) (placed-written (objects ++ levels ++ reply) b b3 k all)
