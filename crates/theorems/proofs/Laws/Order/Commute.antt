-- Forks of two levels have different stamps, in every state with the invariant. Assumes nothing.
use Prim.Native.Nat.{ℕ, ◌<◌}
use mathlib.Core.Path.{◌≡◌}
use mathlib.Core.List.{List, ◌∷◌}
use Rattle.session.specs.Program.{Program}
use Rattle.scripts.proofs.Laws.Effects.{Sound}
use Rattle.model.specs.Fork.{child_of}
use Rattle.model.specs.Step.{State, Arrival, none, at, move_at}
use Rattle.lists.specs.Each.{Each}
use Rattle.theorems.proofs.Laws.Invariant.Tree.{Entry, Related, children_apart}
use Rattle.theorems.proofs.Laws.Steps.Locality.{Above, Apart}
use Rattle.theorems.proofs.Laws.Steps.Moves.{move_above}
use Rattle.theorems.proofs.Laws.Invariant.Entries.{running_entry}
use Rattle.theorems.proofs.Laws.Invariant.Change.{Change, internal, forks}
use Rattle.theorems.proofs.Laws.Invariant.Forks.{entries_in, step_change, ForkInvariant}
use Rattle.theorems.proofs.Laws.Invariant.Preserved.{fertile, first_of}

apart_left : (b c : Arrival) → b ≡ none → Apart b c
apart_left b c q = rw q tt

apart_right : (b c : Arrival) → c ≡ none → Apart b c
apart_right none c q = tt
apart_right (at u x) c q = rw q tt

apart_both : (b c d e : Arrival) → b ≡ d → c ≡ e → Apart d e → Apart b c
apart_both b c d e q r a = rw (q, r) a

module _ (p : Program) (so : Sound p) (st : State) (o : ForkInvariant p st) (l k : ℕ) (hl : l < p.levels) (hk : k < p.levels) (n : l ≡ k → ⊥) where
  -- the running managers of two levels are related
  heads : (a b : Entry) (Z W : List Entry) → entries_in st l ≡ a ∷ Z → entries_in st k ≡ b ∷ W → Related p.dom a b
  heads a b Z W e g =
      first_of (Related p.dom a) b W (entries_in st k) g
      (first_of (λ a. Each (Related p.dom a) (entries_in st k)) a Z (entries_in st l) e (o.grown.forest.across l k hl hk n))

  apart : (G H : List Entry) (b c : Arrival) → Change p l (entries_in st l) G b → Change p k (entries_in st k) H c → Apart b c
  apart G H b c (internal q r) d = apart_left b c q
  apart G H b c (forks u x m message Z q e r hu s f zx) (internal t g) = apart_right b c t
  apart G H b c (forks u x m message Z q e r hu s f zx) (forks w y j text W t g z hw v i zy) =
      apart_both b c (at u (child_of l x m message)) (at w (child_of k y j text)) q t
      (unfold child_of in
      children_apart p.dom (running_entry l x m.forks) (running_entry k y j.forks) (fertile p so st o l hl x m.forks Z e f) (fertile p so st o k hk y j.forks W g i)
      (heads (running_entry l x m.forks) (running_entry k y j.forks) Z W e g))

  -- forks from two levels have different stamps
  pub moves_apart : Apart (move_at p l st).arrival (move_at p k st).arrival
  moves_apart =
      apart _ _ (move_at p l st).arrival (move_at p k st).arrival (step_change p l st so hl (o.placed l hl) (o.positive l hl)) (step_change p k st so hk (o.placed k hk) (o.positive k hk))

-- a step's fork goes strictly above
pub fork_invariant_above : (p : Program) → Sound p → (st : State) → ForkInvariant p st → (l : ℕ) → l < p.levels → Above p l (move_at p l st).arrival
fork_invariant_above p so st o l h = move_above p l st so h (o.placed l h)
