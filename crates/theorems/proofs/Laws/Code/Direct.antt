-- What a scheduler step does, made from the whole program and the whole state. Assumes nothing.
use Prim.Native.Nat.{ℕ, ◌<◌}
use mathlib.Core.Path.{◌≡◌, ◌∙◌, ap}
use mathlib.Core.List.{List, ◌∷◌}
use Rattle.session.specs.Program.{Program}
use Rattle.scripts.specs.Manager.{started, stepped}
use Rattle.scripts.specs.State.{Manager, Stepped}
use Rattle.scripts.proofs.Laws.Effects.{Sound}
use Rattle.lists.specs.Changed.{modify}
use Rattle.model.specs.Fork.{Fork}
use Rattle.model.specs.Level.{idle, busy, Level, after}
use Rattle.model.specs.Step.{State, level_at, read_at, versions_after, arrival_of, begun, advanced, moved, applied, delivered, step_at}
use Rattle.theorems.proofs.Laws.Invariant.Forks.{ForkInvariant}
use Rattle.theorems.proofs.Laws.Invariant.Contained.{AllContained, move_direct}

begins : (p : Program) (st : State) (l : ℕ) (v : Level) (x : Fork) (xs : List Fork) → v.waiting ≡ x ∷ xs → applied l (moved p st l v idle) st ≡ modify l (λ _. after v xs v.versions x (started p (read_at p st l x) l v.next x.message)) st
unfolding moved begun delivered
begins p st l v x xs e = ap (λ ws. applied l (begun p st l v ws) st) e

advances : (p : Program) (st : State) (l : ℕ) (v : Level) (x : Fork) (m : Manager) (s : Stepped) → stepped p (read_at p st l x) m ≡ s → applied l (moved p st l v (busy x m)) st ≡ delivered (arrival_of l x m s.effect) (modify l (λ _. after v v.waiting (versions_after m s.effect v.versions) x s.manager) st)
unfolding moved advanced
advances p st l v x m s e =
    ap (λ s. delivered (arrival_of l x m s.effect) (modify l (λ _. after v v.waiting (versions_after m s.effect v.versions) x s.manager) st)) e

-- what a scheduler step does to the state, by what the level is about to do
module _ (p : Program) (so : Sound p) (st : State) (o : ForkInvariant p st) (i : AllContained p st) (l : ℕ) (h : l < p.levels) where
  step_is : step_at p l st ≡ applied l (moved p st l (level_at st l) (level_at st l).activity) st
  unfolding step_at
  step_is = ap (λ m. applied l m st) (move_direct p so st o i l h)

  -- it starts the first fork that waits
  pub step_start : (x : Fork) (xs : List Fork) → (level_at st l).activity ≡ idle → (level_at st l).waiting ≡ x ∷ xs → step_at p l st ≡ modify l (λ _. after (level_at st l) xs (level_at st l).versions x (started p (read_at p st l x) l (level_at st l).next x.message)) st
  step_start x xs q e = step_is ∙ ap (λ a. applied l (moved p st l (level_at st l) a) st) q ∙ starts
    where
      starts : applied l (moved p st l (level_at st l) idle) st ≡ modify l (λ _. after (level_at st l) xs (level_at st l).versions x (started p (read_at p st l x) l (level_at st l).next x.message)) st
      starts = begins p st l (level_at st l) x xs e

  -- it makes one script step of the manager that runs
  pub step_advance : (x : Fork) (m : Manager) (s : Stepped) → (level_at st l).activity ≡ busy x m → stepped p (read_at p st l x) m ≡ s → step_at p l st ≡ delivered (arrival_of l x m s.effect) (modify l (λ _. after (level_at st l) (level_at st l).waiting (versions_after m s.effect (level_at st l).versions) x s.manager) st)
  step_advance x m s q e = step_is ∙ ap (λ a. applied l (moved p st l (level_at st l) a) st) q ∙ advances p st l (level_at st l) x m s e
