-- What a script step may write, by what is read: a field, the withdrawal of an object that is there, or what makes the level's next object.
-- Assumes nothing.
use Prim.Native.Nat.{ℕ, zero, suc, ◌+◌, ◌<◌}
use mathlib.Core.Path.{◌≡◌, refl, ap}
use mathlib.Core.Bool.{true, false}
use mathlib.Core.List.{List, [], ◌∷◌}
use lib.Dec.{ltb}
use Rattle.lists.proofs.Laws.Range.{not_both}
use Rattle.session.specs.Limits.{fields, made_objects}
use Rattle.session.specs.Meaning.{made_number}
use Rattle.session.specs.Program.{Program}
use Rattle.session.specs.Value.{Value}
use Rattle.std.specs.Prelude.{None, Some}
use Rattle.session.specs.declared.Step.{Step}
use Rattle.session.specs.declared.Step.TheVariants.{End, Set, Add, Jump, Read, Write, Send, Quit, Create, Withdraw}
use Rattle.lists.proofs.Laws.Lists.{holds, fails, truth}
use Rattle.fates.specs.declared.Fate.{Fate}
use Rattle.fates.specs.declared.Fate.TheVariants as fate
use Rattle.scripts.specs.Existence.{existence, is_there, used_of, making, withdrawn}
use Rattle.scripts.specs.Limits.{max_forks}
use Rattle.scripts.specs.Value.{number_in}
use Rattle.scripts.specs.Frame.{at_step}
use Rattle.scripts.specs.Manager.{top, next_step, written, created, called, forked, sent, operated, stepped}
use Rattle.scripts.specs.State.{Frame, Manager}
use Rattle.scripts.specs.Effect.{Written, Effect}
use Rattle.scripts.specs.Effect as effect
use Rattle.scripts.proofs.Laws.Charged.{written_way, created_way}
use Rattle.scripts.proofs.Laws.Effects.{Fielded, Sound}
use Rattle.scripts.proofs.Laws.Within.{next_fielded}

-- what is written at level l: by WRITE, by WITHDRAW, and by CREATE, which gives the new object the script of one that is there
pub data Writes (p : Program) (read : ℕ → ℕ → Value) (l : ℕ) (ws : List Written) : Type 0 where
  field : (o k : ℕ) (v : Value) → k < fields → ws ≡ record { object = o; field = k; value = v } ∷ [] → Writes p read l ws
  withdraws : (o : ℕ) → p.level o ≡ l → is_there (read o existence) ≡ true → ws ≡ record { object = o; field = existence; value = withdrawn } ∷ [] → Writes p read l ws
  makes : (v0 v1 v2 : Value) (w : ℕ) → used_of read l < made_objects → ws ≡ making (made_number l (used_of read l)) v0 v1 v2 (suc w) → Writes p read l ws

abbrev pub Writing : Program → (ℕ → ℕ → Value) → ℕ → Effect → Type 0
Writing p read l effect.Nothing = Unit
Writing p read l (effect.Write ws) = Writes p read l ws
Writing p read l (effect.Fork u message) = Unit

-- the script of an object that is there is that of some object
there_script : (v : Value) → is_there v ≡ true → (w : ℕ) × (number_in v ≡ suc w)
there_script None e = absurd (not_both false e refl)
there_script (Some zero) e = absurd (not_both false e refl)
there_script (Some (suc w)) e = (w, refl)

module _ (p : Program) (read : ℕ → ℕ → Value) (m : Manager) (f : Frame) where
  field_writing : (k : ℕ) (v : Value) → k < fields → Writing p read m.level (written p read m f k v).effect
  field_writing k v h =
      written_way (λ d. Writing p read m.level d.effect) p read m f k v (λ l t c. field f.object k v h refl) tt tt

  withdrawal_writing : Writing p read m.level (written p read m f existence withdrawn).effect
  withdrawal_writing =
      written_way (λ d. Writing p read m.level d.effect) p read m f existence withdrawn (λ l t c. withdraws f.object l t refl) tt tt

  created_writing : (a : ℕ) → Writing p read m.level (created p read m f a).effect
  created_writing a =
      created_way (λ d. Writing p read m.level d.effect) p read m f a
      (λ l t u c.
      let (w, e) = there_script (read f.object existence) t in
      makes f.r1 f.r2 f.r3 w u (ap (making (made_number m.level (used_of read m.level)) f.r1 f.r2 f.r3) e))
      tt tt

  sent_writing : (a b c : ℕ) (t : Fate) → Writing p read m.level (sent read m f a b c t).effect
  unfolding sent called forked
  sent_writing a b c fate.Call = tt
  sent_writing a b c fate.Discard = tt
  sent_writing a b c fate.Block = tt
  sent_writing a b c (fate.Fork u) = elim (truth (ltb m.forks max_forks)) [
    | holds e ↦ rw e tt
    | fails e ↦ rw e tt
  ]

  operated_writing : (i : Step) → Fielded i → Writing p read m.level (operated p read m f i).effect
  unfolding operated
  operated_writing End w = tt
  operated_writing (Set a n) w = tt
  operated_writing (Add a b) w = tt
  operated_writing (Jump a b) w = tt
  operated_writing (Read a b) w = tt
  operated_writing (Write a b) w = field_writing b _ w
  operated_writing (Send a b c) w = sent_writing a b c _
  operated_writing (Quit a) w = tt
  operated_writing (Create a) w = created_writing a
  operated_writing Withdraw w = withdrawal_writing

pub stepped_writing : (p : Program) (read : ℕ → ℕ → Value) (m : Manager) → Sound p → Writing p read m.level (stepped p read m).effect
unfolding stepped
stepped_writing p read m so =
    operated_writing p read m (at_step (top m) ((top m).next + 1)) (next_step p (top m)) (next_fielded p so (top m).script (top m).name (top m).next)
