-- A SEND of an accepted session, by the lent level table: it does what becomes of its message, and forks go to levels of 8 bits. Assumes
-- nothing.
use Prim.Native.Nat.{ℕ, ◌<◌}
use mathlib.Core.Path.{◌≡◌, sym, ◌∙◌, ap, subst}
use mathlib.Core.Bool.{true}
use mathlib.Core.List.{List}
use lib.ListN.{length}
use Rattle.dominance.specs.Table.{dominates, is_ordered}
use Rattle.session.specs.Parts.{level_count, masks_of}
use Rattle.session.specs.Meaning.{level_of}
use Rattle.session.specs.Program.{program_of}
use Rattle.session.specs.Value.{Value}
use Rattle.session.specs.declared.Step.TheVariants.{Send}
use Rattle.session.proofs.Laws.Verdict.{accepted}
use Rattle.session.proofs.Laws.Contents.{masks_length}
use Rattle.session.proofs.Laws.Accepted.{levels_join, level_present}
use Rattle.fates.specs.Filter.{fate_of}
use Rattle.fates.specs.declared.Fate.{Fate}
use Rattle.fates.specs.declared.Fate.TheVariants.{Fork}
use Rattle.fates.proofs.Laws.Fate.{Rises, fate_rises}
use Rattle.scripts.specs.Manager.{sent, operated}
use Rattle.scripts.specs.Valid.{Leveled}
use Rattle.scripts.specs.State.{Frame, Manager}

module _ (s masks : List ℕ) (lent : Leveled s masks) where
  -- the lent table passed question 4
  pub lent_ordered : is_ordered masks ≡ true
  lent_ordered = ap is_ordered lent.masks_are ∙ (accepted s lent.accepted).four

  lent_length : length masks ≡ level_count s
  lent_length = ap length lent.masks_are ∙ masks_length s lent.accepted

  -- what becomes of a message, by the lent table, is what becomes of it
  pub lent_fate : (l x y : ℕ) → fate_of (length masks) (dominates masks) l x y ≡ fate_of (level_count s) (dominates (masks_of s)) l x y
  lent_fate l x y = rw (lent_length, lent.masks_are)

  -- a fork goes to a present level
  pub fork_present : (l x c u : ℕ) → l < level_count s → fate_of (length masks) (dominates masks) l x (level_of s c) ≡ Fork u → u < level_count s
  fork_present l x c u hl e =
      let n = level_count s in
      let dom = dominates (masks_of s) in
      let t : fate_of n dom l x (level_of s c) ≡ Fork u = sym (lent_fate l x (level_of s c)) ∙ e in
      let r : Rises n dom l (Fork u) =
      subst (Rises n dom l) t (fate_rises n dom (levels_join s lent.accepted) l x (level_of s c) hl (level_present s lent.accepted c)) in
      r.0

  -- a SEND, by what becomes of its message
  pub send_by : (read : ℕ → ℕ → Value) (m : Manager) (f : Frame) (a b c l x y : ℕ) (t : Fate) → m.level ≡ l → x ≡ level_of s f.object → y ≡ level_of s c → fate_of (length masks) (dominates masks) l x y ≡ t → operated (program_of s) read m f (Send a b c) ≡ sent read m f a b c t
  unfolding operated program_of
  send_by read m f a b c l x y t el ex ey e =
      ap (sent read m f a b c) (rw (el, sym ex, sym ey) (sym (lent_fate l x y) ∙ e))
