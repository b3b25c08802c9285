-- WRITE, WITHDRAW and CREATE by what becomes of them: what holds of each way holds of all. Assumes nothing.
use Prim.Native.Nat.{ℕ, ◌+◌, ◌≤◌, ◌<◌}
use mathlib.Core.Path.{◌≡◌}
use mathlib.Core.Bool.{true, ◌&&◌}
use mathlib.Core.List.{List, [], ◌∷◌}
use borrow.Author.Tests.{leb-true, ltb-true, eqb-true}
use lib.Dec.{eqb, leb, ltb}
use lib.ListN.{length}
use Rattle.lists.proofs.Laws.Range.{and_left, and_right}
use Rattle.session.specs.Limits.{made_objects}
use Rattle.session.specs.Meaning.{made_number}
use Rattle.session.specs.Program.{Program}
use Rattle.session.specs.Value.{Value}
use Rattle.std.specs.Prelude.{None, Some}
use Rattle.lists.proofs.Laws.Lists.{holds, fails, truth}
use Rattle.scripts.specs.Limits.{max_writes}
use Rattle.scripts.specs.Existence.{existence, script_seen, is_there, used_of, making}
use Rattle.scripts.specs.Frame.{with_register}
use Rattle.scripts.specs.Manager.{with_counts, with_top, owns, charged, written, created}
use Rattle.scripts.specs.State.{Frame, Manager, Stepped}
use Rattle.scripts.specs.Effect.{Written}
use Rattle.scripts.specs.Effect as effect
use Rattle.scripts.specs.declared.Ending.TheVariants.{OutOfWrites}

-- what is written takes effect, under top frame g; or it is too much, or nothing happens, under top frame f
abbrev pub takes_effect : Manager → Frame → List Written → Stepped
takes_effect m g ws =
    record {
      manager = with_counts (with_top m g) m.steps (m.writes + length ws) m.forks m.stamp m.ending;
      effect = effect.Write ws;
    }

abbrev pub too_much : Manager → Frame → Stepped
too_much m f =
    record {
      manager = with_counts (with_top m f) m.steps m.writes m.forks m.stamp OutOfWrites;
      effect = effect.Nothing;
    }

abbrev pub without : Manager → Frame → Stepped
without m f = record { manager = with_top m f; effect = effect.Nothing }

-- one value of the frame's own object
abbrev pub own_field : Frame → ℕ → Value → List Written
own_field f k v = record { object = f.object; field = k; value = v } ∷ []

module _ (Q : Stepped → Type 0) where
  charged_way : (m : Manager) (f g : Frame) (ws : List Written) → (m.writes + length ws ≤ max_writes → Q (takes_effect m g ws)) → Q (too_much m f) → Q (charged m f g ws)
  unfolding charged
  charged_way m f g ws x y = elim (truth (leb (m.writes + length ws) max_writes)) [
    | holds e ↦ rw e (x (leb-true (m.writes + length ws) max_writes e))
    | fails e ↦ rw e y
  ]

  module _ (p : Program) (read : ℕ → ℕ → Value) (m : Manager) (f : Frame) where
    pub written_way : (k : ℕ) (v : Value)
        → (p.level f.object ≡ m.level → is_there (read f.object existence) ≡ true → m.writes + 1 ≤ max_writes → Q (takes_effect m f (own_field f k v)))
        → Q (too_much m f) → Q (without m f) → Q (written p read m f k v)
    unfolding written
    written_way k v x y z = elim (truth (owns p read m f)) [
      | holds e ↦
          let l = eqb-true (p.level f.object) m.level (and_left _ _ e) in
          let t = and_right (eqb (p.level f.object) m.level) _ e in
          rw e (charged_way m f f (own_field f k v) (x l t) y)
      | fails e ↦ rw e z
    ]

    pub created_way : (a : ℕ)
        → (p.level f.object ≡ m.level → is_there (read f.object existence) ≡ true → used_of read m.level < made_objects → m.writes + 4 ≤ max_writes
        → Q (takes_effect m (with_register f a (Some (made_number m.level (used_of read m.level))))
        (making (made_number m.level (used_of read m.level)) f.r1 f.r2 f.r3 (script_seen read f.object))))
        → Q (too_much m f) → Q (without m (with_register f a None)) → Q (created p read m f a)
    unfolding created
    created_way a x y z = elim (truth (owns p read m f && ltb (used_of read m.level) made_objects)) [
      | holds e ↦
          let o = and_left (owns p read m f) _ e in
          let l = eqb-true (p.level f.object) m.level (and_left _ _ o) in
          let t = and_right (eqb (p.level f.object) m.level) _ o in
          let u = ltb-true (used_of read m.level) made_objects (and_right (owns p read m f) _ e) in
          rw e (charged_way m f _ _ (x l t u) y)
      | fails e ↦ rw e z
    ]
