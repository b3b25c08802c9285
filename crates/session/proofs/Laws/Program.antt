-- An emptied session is what the level sees of the session. Assumes nothing.
use Prim.Native.Nat.{ℕ}
use mathlib.Core.Path.{◌≡◌, sym, ◌∙◌, ap}
use mathlib.Core.Bool.{cond}
use mathlib.Core.List.{List}
use lib.ListN.{get_or}
use Rattle.dominance.specs.Table.{dominates}
use Rattle.session.specs.Parts.{masks_of}
use Rattle.session.specs.Questions.{verdict_of, Accepted}
use Rattle.session.specs.Meaning.{level_of, field_of, step_at}
use Rattle.session.specs.Emptied.{emptied}
use Rattle.session.specs.Program.{program_of, seen_by}
use Rattle.std.specs.Prelude.{None}
use Rattle.session.specs.declared.Step.TheVariants.{End}
use Rattle.lists.proofs.Laws.Lists.{holds, fails, truth}
use Rattle.session.proofs.Laws.Emptied.{emptied_masks, emptied_level_count, emptied_count, emptied_level, emptied_field, emptied_field_hidden}
use Rattle.session.proofs.Laws.EmptiedAccepted.{emptied_method, emptied_method_hidden}

module _ (s : List ℕ) (c : ℕ) (a : verdict_of s ≡ Accepted) where
  field_seen_lem : (o k : ℕ) → field_of (emptied c s) o k ≡ cond (dominates (masks_of s) c (level_of s o)) (field_of s o k) None
  field_seen_lem o k = elim (truth (dominates (masks_of s) c (level_of s o))) [
    | holds e ↦ emptied_field s c o k e ∙ ap (λ b. cond b (field_of s o k) None) (sym e)
    | fails e ↦ emptied_field_hidden s c o k e ∙ ap (λ b. cond b (field_of s o k) None) (sym e)
  ]

  step_seen : (o m j : ℕ) → step_at (emptied c s) o m j ≡ cond (dominates (masks_of s) c (level_of s o)) (step_at s o m j) End
  step_seen o m j = elim (truth (dominates (masks_of s) c (level_of s o))) [
    | holds e ↦ ap (λ l. get_or l j End) (emptied_method s c a o m e) ∙ ap (λ b. cond b (step_at s o m j) End) (sym e)
    | fails e ↦ ap (λ l. get_or l j End) (emptied_method_hidden s c a o m e) ∙ ap (λ b. cond b (step_at s o m j) End) (sym e)
  ]

  -- what a run takes from the emptied session is what the level sees of the session's
  pub emptied_program : program_of (emptied c s) ≡ seen_by c (program_of s)
  unfolding program_of seen_by
  emptied_program =
      λ i. record {
        levels = emptied_level_count s c i;
        dom = dominates (emptied_masks s c i);
        objects = emptied_count s c i;
        level = λ o. emptied_level s c o i;
        field = λ o k. field_seen_lem o k i;
        step = λ o m j. step_seen o m j i;
      }
