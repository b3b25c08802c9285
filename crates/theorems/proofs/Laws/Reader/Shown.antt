-- What a reader cleared to level c is shown of a list that finishes is what he is shown of the depth-first run of what c sees.
-- Assumes nothing.
use Prim.Native.Nat.{ℕ, ◌≤◌, ◌<◌}
use mathlib.Core.Path.{◌≡◌, refl, sym, ap, ap₂, fun_ext}
use mathlib.Core.Bool.{true}
use mathlib.Core.List.{List, [], ◌∷◌, ◌++◌, map}
use Rattle.lists.proofs.Laws.Range.{and_left}
use Rattle.lists.specs.Lists.{joined}
use Rattle.session.specs.Record.{Record}
use Rattle.session.specs.Program.{Program, seen_by}
use Rattle.session.specs.declared.Message.{Message}
use Rattle.lists.proofs.Laws.Lists.{holds, fails, truth}
use Rattle.session.specs.Limits.{max_levels}
use Rattle.scripts.specs.Existence.{existence, is_there}
use Rattle.scripts.proofs.Laws.Effects.{Sound}
use Rattle.model.specs.Level.{newest}
use Rattle.model.specs.Step.{State, level_at}
use Rattle.model.specs.Schedule.{finished, run_of}
use Rattle.model.specs.DepthFirst.{depth_first}
use Rattle.model.specs.Result.{result_of, result_of_depth_first, object_record, history_record, numbers_of, is_shown, objects_shown, histories_shown, reply_record, reply_of, reply_shown, bytes_of}
use Rattle.theorems.specs.Isolation.{SameUnder}
use Rattle.theorems.proofs.Laws.Steps.Moves.{seen_sound}
use Rattle.theorems.proofs.Laws.Steps.Reads.{seen_field}
use Rattle.theorems.proofs.Laws.Reader.Isolation.{seen_same}
use Rattle.theorems.proofs.Laws.Deep.Root.{same_result}
use Rattle.theorems.proofs.Laws.Reader.Bytes.{map_chosen, chosen_same}

module _ (p : Program) (so : Sound p) (c : ℕ) (t t' : State) (same : SameUnder p c t t') where
  -- a field of an object that c dominates
  field_seen_lem : (o : ℕ) → p.dom c (p.level o) ≡ true → (result_of p t).field o ≡ (result_of (seen_by c p) t').field o
  unfolding seen_by
  field_seen_lem o d =
      fun_ext λ k. ap₂ (λ i v. newest i o k v.versions) (sym (seen_field c p o k d)) (same (p.level o) (so.placed o) d)

  -- and whether it is shown
  shown_seen : (o : ℕ) → is_shown p (result_of p t) c o ≡ is_shown (seen_by c p) (result_of (seen_by c p) t') c o
  unfolding seen_by
  shown_seen o = elim (truth (p.dom c (p.level o))) [
    | holds d ↦ rw d (ap (λ f. is_there (f existence)) (field_seen_lem o d))
    | fails d ↦ rw d refl
  ]

  objects_seen : objects_shown p (result_of p t) c ≡ objects_shown (seen_by c p) (result_of (seen_by c p) t') c
  unfolding objects_shown seen_by
  objects_seen =
      chosen_same (is_shown p (result_of p t) c) (is_shown (seen_by c p) (result_of (seen_by c p) t') c) (λ o. object_record o (p.level o) ((result_of p t).field o)) (λ o. object_record o (p.level o) ((result_of (seen_by c p) t').field o)) shown_seen
      (λ o s. ap (object_record o (p.level o)) (field_seen_lem o (and_left (p.dom c (p.level o)) _ s))) (numbers_of p)

  reply_seen : (l : ℕ) → l < p.levels → reply_shown p (result_of p t) c l ≡ reply_shown (seen_by c p) (result_of (seen_by c p) t') c l
  unfolding reply_shown seen_by
  reply_seen l h = elim (truth (p.dom c l)) [
    | holds d ↦ rw d (ap (λ v. reply_record l (reply_of v.ended) ∷ []) (same l h d))
    | fails d ↦ rw d refl
  ]

  histories_seen : histories_shown p (result_of p t) c ≡ histories_shown (seen_by c p) (result_of (seen_by c p) t') c
  unfolding histories_shown seen_by
  histories_seen =
      ap joined (map_chosen (p.dom c) (group t) (group t') p.levels (λ l. l) (λ l h d. ap (λ v. map (history_record l) v.ended) (same l h d)))
    where
      group : State → ℕ → List Record
      group st l = map (history_record l) (level_at st l).ended

  -- what is shown
  seen_bytes : (l : ℕ) → l < p.levels → bytes_of p l (result_of p t) c ≡ bytes_of (seen_by c p) l (result_of (seen_by c p) t') c
  unfolding bytes_of
  seen_bytes l h = ap joined (ap₂ ◌++◌ (ap₂ ◌++◌ objects_seen histories_seen) (reply_seen l h))

-- of a list that finishes, and of the depth-first run of what c sees
pub reader_sees : (p : Program) → Sound p → p.levels ≤ max_levels → (root : Message) (c : ℕ) → c < p.levels → (ls : List ℕ) (t : State) → run_of p root ls ≡ finished t → bytes_of p (p.level root.object) (result_of p t) c ≡ bytes_of (seen_by c p) (p.level root.object) (result_of_depth_first (seen_by c p) (depth_first (seen_by c p) root)) c
reader_sees p so few root c hc ls t e =
    let (ms, (t', (e', same))) = seen_same p so few root c hc ls t e in
    rw (sym (same_result (seen_by c p) (seen_sound c p so) (unfold seen_by in few) root ms t' e'))
    (seen_bytes p so c t t' same (p.level root.object) (so.placed root.object))
