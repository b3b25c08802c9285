-- Where a scheduler step sends its fork, and what it does to its own level. Assumes nothing.
use Prim.Native.Nat.{ℕ, ◌<◌}
use mathlib.Core.Path.{◌≡◌, sym, ap}
use mathlib.Core.Bool.{cond}
use mathlib.Core.List.{List, [], ◌∷◌}
use Rattle.session.specs.Program.{Program, seen_by}
use Rattle.session.specs.declared.Step.TheVariants.{End}
use Rattle.lists.proofs.Laws.Lists.{Truth, holds, fails, truth}
use Rattle.scripts.specs.Manager.{stepped}
use Rattle.scripts.specs.State.{Manager}
use Rattle.scripts.specs.Effect.{Effect}
use Rattle.scripts.specs.Effect as effect
use Rattle.scripts.proofs.Laws.Effects.{Fielded, Sound, Fits, stepped_fits}
use Rattle.model.specs.Fork.{Fork}
use Rattle.model.specs.Level.{Activity, idle, busy, Level}
use Rattle.model.specs.Step.{State, level_at, view_of, read_at, Arrival, none, at, arrival_of, begun, advanced, moved, move_at}
use Rattle.theorems.proofs.Laws.Steps.Locality.{Above}
use Rattle.theorems.proofs.Laws.Steps.Diamond.{seen_level}

-- the manager that runs at level l is one of that level
abbrev pub AtLevel : ℕ → Activity → Type 0
AtLevel l idle = Unit
AtLevel l (busy x m) = m.level ≡ l

-- what a level sees is sound too
pub seen_sound : (l : ℕ) (p : Program) → Sound p → Sound (seen_by l p)
unfolding seen_by
seen_sound l p so =
    record {
      lattice = so.lattice;
      placed = so.placed;
      fielded = λ o name j. seen o name j (truth (p.dom l (p.level o)));
      owned = so.owned;
    }
  where
    seen : (o name j : ℕ) → Truth (p.dom l (p.level o)) → Fielded (cond (p.dom l (p.level o)) (p.step o name j) End)
    seen o name j (holds e) = rw e (so.fielded o name j)
    seen o name j (fails e) = rw e tt

arrival_above : (p : Program) (l : ℕ) (x : Fork) (m : Manager) (e : Effect) → m.level ≡ l → Fits p m e → Above p l (arrival_of l x m e)
arrival_above p l x m effect.Nothing q f = tt
arrival_above p l x m (effect.Write ws) q f = tt
arrival_above p l x m (effect.Fork u message) q f = (f.0, rw (sym q) f.1.0)

moved_above : (p : Program) (st : State) (l : ℕ) (v : Level) (a : Activity) → Sound p → l < p.levels → AtLevel l a → Above p l (moved p st l v a).arrival
unfolding moved advanced
moved_above p st l v idle so h q = starts v.waiting
  where
    starts : (xs : List Fork) → Above p l (begun p st l v xs).arrival
    starts [] = unfold begun in tt
    starts (x ∷ xs) = unfold begun in tt
moved_above p st l v (busy x m) so h q =
    arrival_above p l x m (stepped p (read_at p st l x) m).effect q (stepped_fits p (read_at p st l x) m so (rw q h))

-- a step's fork goes strictly above
pub move_above : (p : Program) (l : ℕ) (st : State) → Sound p → l < p.levels → AtLevel l (level_at st l).activity → Above p l (move_at p l st).arrival
unfolding move_at
move_above p l st so h q =
    let view = view_of p l st in
    let same = seen_level p l l st h (so.lattice.order.itself l h) in
    above_seen (moved (seen_by l p) view l (level_at view l) (level_at view l).activity).arrival
    (moved_above (seen_by l p) view l (level_at view l) (level_at view l).activity (seen_sound l p so) (here l p h) (rw same q))
  where
    here : (l : ℕ) (p : Program) → l < p.levels → l < (seen_by l p).levels
    here l p h = unfold seen_by in h

    above_seen : (b : Arrival) → Above (seen_by l p) l b → Above p l b
    above_seen none a = tt
    above_seen (at u x) a = unfold seen_by in a

-- a step is made from what the level sees, with the level as it is
pub move_is : (p : Program) (l : ℕ) (st : State) → Sound p → l < p.levels → move_at p l st ≡ moved (seen_by l p) (view_of p l st) l (level_at st l) (level_at st l).activity
unfolding move_at
move_is p l st so h =
    ap (λ v. moved (seen_by l p) (view_of p l st) l v v.activity) (seen_level p l l st h (so.lattice.order.itself l h))
