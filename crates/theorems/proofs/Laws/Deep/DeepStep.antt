-- A script step of a manager that runs depth-first, and the same step of its level: nothing, a write, a fork that is dropped.
-- Assumes nothing.
use Prim.Native.Nat.{ℕ, suc, ◌+◌, ◌≤◌, ◌<◌}
use mathlib.Core.Path.{◌≡◌, refl, sym, ◌∙◌, ap}
use mathlib.Core.Bool.{true, false, cond, ◌&&◌}
use mathlib.Core.List.{List, [], ◌∷◌, ◌++◌, map}
use native.Mathlib.Decide.{ℕ_discrete}
use native.Mathlib.Omega.{arith}
use borrow.Author.Tests.{ne_eqb}
use lib.Dec.{eqb}
use lib.ListN.{length, get_or}
use Rattle.lists.proofs.Laws.Range.{not_both}
use Rattle.session.specs.Program.{Program}
use Rattle.session.specs.Value.{Value}
use Rattle.scripts.specs.Existence.{initially}
use Rattle.scripts.specs.Ending.{is_running}
use Rattle.scripts.specs.Manager.{stepped}
use Rattle.scripts.specs.State.{Manager, Stepped}
use Rattle.scripts.specs.Effect.{Written, Effect}
use Rattle.scripts.specs.Effect as effect
use Rattle.scripts.proofs.Laws.Counts.{Counts, counts, grown, one_more, stepped_counts}
use Rattle.scripts.proofs.Laws.Effects.{Sound, Fits, stepped_fits}
use Rattle.scripts.proofs.Laws.Endings.{running_few}
use Rattle.scripts.proofs.Laws.Within.{stepped_within}
use Rattle.model.specs.Fork.{Fork, child_stamp}
use Rattle.model.specs.Level.{Version, version_of, after, newest}
use Rattle.model.specs.Step.{State, level_at, none, versions_after, arrival_of, move_at, step_at}
use Rattle.model.specs.DepthFirst.{Tally, Progress, new_tally, tally_at, current, field_now}
use Rattle.lists.specs.Each.{Each}
use Rattle.lists.proofs.Laws.Each.{each_map, each_any, each_append, each_made}
use Rattle.theorems.proofs.Laws.Seen.{each_seen}
use Rattle.theorems.proofs.Laws.Invariant.Forks.{ForkInvariant}
use Rattle.theorems.proofs.Laws.Invariant.Preserved.{grown_level, other_level}
use Rattle.theorems.proofs.Laws.Invariant.Measure.{grown_steps}
use Rattle.theorems.proofs.Laws.Invariant.WriteStamps.{after_versions}
use Rattle.theorems.proofs.Laws.Invariant.Became.{level_stepped, level_internal}
use Rattle.theorems.proofs.Laws.Invariant.State.{StateInvariant, steady_preserves}
use Rattle.theorems.proofs.Laws.Safe.Safe.{safe_managed}
use Rattle.theorems.proofs.Laws.Deep.Quiescent.{quiescent_level}
use Rattle.theorems.proofs.Laws.Deep.Working.{end_of, FieldsAgree, fields_legible, Around, Working, working_safe, working_move}
use Rattle.theorems.proofs.Laws.Deep.Ready.{Leads, leads_one, leads_both, leads_none, fields-kept, around_next}

-- a write stamp does not fall in a step
stamp_grown : (c : Counts) (e : Effect) → c.stamp ≤ (one_more (grown c e)).stamp
stamp_grown c effect.Nothing = omega arith
stamp_grown c (effect.Write ws) = omega arith
stamp_grown c (effect.Fork u message) = omega arith

-- versions lie at or below the write stamp
versions_written : (m : Manager) (e : Effect) (vs : List Version) (b : ℕ) → m.stamp ≤ b → Each (λ w. w.stamp ≤ m.stamp) vs → Each (λ w. w.stamp ≤ b) (versions_after m e vs)
versions_written m e vs b h low = by e (each_map (λ w. w.stamp ≤ m.stamp) (λ w. w.stamp ≤ b) (λ w g. omega (arith, g)) vs low)
  where
    by : (e : Effect) → Each (λ w. w.stamp ≤ b) vs → Each (λ w. w.stamp ≤ b) (versions_after m e vs)
    by effect.Nothing l = l
    by (effect.Write ws) l =
        each_append (λ w. w.stamp ≤ b) (map (version_of m.stamp) ws) vs (each_made (version_of m.stamp) (λ w. w.stamp ≤ b) ws (each_any _ (λ w. h) ws)) l
    by (effect.Fork u message) l = l

-- a manager's level takes nothing else of what was there before
after_quiescent_level : (t t' : Tally) (vs vs' : List Version) (c : Fork) (m : Manager) → t ≡ t' → after (quiescent_level t vs) [] vs' c m ≡ after (quiescent_level t' vs') [] vs' c m
unfolding after
after_quiescent_level t t' vs vs' c m q = ap (λ t. after (quiescent_level t vs') [] vs' c m) q

module _ (p : Program) (so : Sound p) (st : State) (g : Progress) (u : ℕ) (hu : u < p.levels) (c : Fork) (m : Manager) (k : ℕ) (w : Working p st g u c m (suc k)) (r : is_running m.ending ≡ true) where
  abbrev pub made : Stepped
  made = stepped p (field_now p g) m

  abbrev fork_invariant : ForkInvariant p st
  fork_invariant = w.around.steady.fork_invariant

  answered : counts made.manager ≡ one_more (grown (counts m) made.effect)
  answered = stepped_counts p (field_now p g) m

  pub own_next : level_at (step_at p u st) u ≡ after (quiescent_level (tally_at g u) w.versions) [] (versions_after m made.effect w.versions) c made.manager
  own_next = level_stepped p so st fork_invariant u hu ∙ ap (λ m. m.own) (working_move p so st g u hu c m (suc k) w r)

  pub sends_next : (move_at p u st).arrival ≡ arrival_of u c m made.effect
  sends_next = ap (λ m. m.arrival) (working_move p so st g u hu c m (suc k) w r)

  pub steady_next : StateInvariant p (step_at p u st)
  steady_next = steady_preserves p so st w.around.steady u hu (safe_managed (working_safe p so st g u hu c m (suc k) w r))

  -- the manager works on where its level is as this step left it, whatever its descendants did above
  pub working_next : (st' : State) (g' : Progress) → level_at st' u ≡ level_at (step_at p u st) u → tally_at g' u ≡ tally_at g u → child_stamp c.stamp c.depth (made.manager.forks + 1) ≤ end_of c → Around p st' g' u c (child_stamp c.stamp c.depth (made.manager.forks + 1)) → Working p st' g' u c made.manager k
  working_next st' g' q t room a =
      let grows : m.stamp ≤ made.manager.stamp = rw (ap (λ c. c.stamp) answered) (stamp_grown (counts m) made.effect) in
      let steps : made.manager.steps ≡ m.steps + 1 = ap (λ c. c.steps) answered ∙ grown_steps (counts m) made.effect in
      record {
        versions = versions_after m made.effect w.versions;
        is = q ∙ own_next ∙ after_quiescent_level (tally_at g u) (tally_at g' u) w.versions (versions_after m made.effect w.versions) c made.manager (sym t);
        written = versions_written m made.effect w.versions made.manager.stamp grows w.written;
        early = rw (ap (λ t. t.ended) t) w.early;
        positive = omega (arith, grows, w.positive);
        level = ap (λ c. c.level) answered ∙ grown_level (counts m) made.effect ∙ w.level;
        within = stepped_within p so (field_now p g) (fields_legible p so st g w.around.steady.contained w.around.fields) u m hu w.level r w.within;
        steps = omega (arith, steps, w.steps);
        live = running_few p (field_now p g) m;
        room = room;
        around = a;
      }

-- safe steps to a state in which the manager of fork c is m, and may make k script steps more
pub record Advances (p : Program) (st : State) (g g' : Progress) (u : ℕ) (c : Fork) (m : Manager) (k : ℕ) : Type 0 where
  pub to : State
  pub leads : Leads p u st g to g'
  pub working : Working p to g' u c m k

-- the fields after a write, in both runs
abbrev pub wrote : List Written → Progress → Progress
wrote ws g = record { written = ws ++ g.written; levels = g.levels }

newest_wrote : (i j : Value) (s o k : ℕ) (ws : List Written) (vs : List Version) (gs : List Written) → newest i o k vs ≡ current j o k gs → newest i o k (map (version_of s) ws ++ vs) ≡ current j o k (ws ++ gs)
unfolding newest current
newest_wrote i j s o k [] vs gs e = e
newest_wrote i j s o k (w ∷ ws) vs gs e =
    ap (cond (eqb w.object o && eqb w.field k) w.value) (newest_wrote i j s o k ws vs gs e)

current_other : (i : Value) (o k : ℕ) (ws gs : List Written) → Each (λ w. w.object ≡ o → ⊥) ws → current i o k (ws ++ gs) ≡ current i o k gs
unfolding current Each
current_other i o k [] gs n = refl
current_other i o k (w ∷ ws) gs n = rw (ne_eqb w.object o n.0) (current_other i o k ws gs n.1)

module _ (p : Program) (so : Sound p) (st : State) (g : Progress) (u : ℕ) (hu : u < p.levels) (c : Fork) (m : Manager) (k : ℕ) (w : Working p st g u c m (suc k)) (r : is_running m.ending ≡ true) where
  abbrev pub after_it : Stepped
  after_it = stepped p (field_now p g) m

  abbrev here : ForkInvariant p st
  here = w.around.steady.fork_invariant

  not_same : (j : ℕ) → p.dom u j ≡ false → j ≡ u → ⊥
  not_same j d e = not_both (p.dom u j) (rw e (so.lattice.order.itself u hu)) d

  pub leads_next : Leads p u st g (step_at p u st) g
  leads_next = leads_one p so u hu st g w.around.steady (working_safe p so st g u hu c m (suc k) w r)

  -- the versions of the level, before and after
  pub versions_before : (level_at st u).versions ≡ w.versions
  versions_before =
      ap (λ v. v.versions) w.is ∙ after_versions (quiescent_level (tally_at g u) w.versions) [] w.versions c m

  pub versions_next : (level_at (step_at p u st) u).versions ≡ versions_after m after_it.effect w.versions
  versions_next =
      ap (λ v. v.versions) (own_next p so st g u hu c m k w r)
      ∙ after_versions (quiescent_level (tally_at g u) w.versions) [] (versions_after m after_it.effect w.versions) c after_it.manager

  -- a step without a fork leaves the other levels
  internal_advances : (move_at p u st).arrival ≡ none → (g' : Progress) → g'.levels ≡ g.levels → FieldsAgree p (step_at p u st) g' → after_it.manager.forks ≡ m.forks → Advances p st g g' u c after_it.manager k
  internal_advances q g' t f e =
      record {
        to = step_at p u st;
        leads = leads_both p u st (step_at p u st) (step_at p u st) g g g' leads_next (leads_none p u (step_at p u st) g g' (λ j h d. tally j));
        working = working_next p so st g u hu c m k w r (step_at p u st) g' refl (tally u) (rw e w.room)
            (rw e (around_next p st (step_at p u st) g g' u c _ _ w.around
            (λ j h s. other j (λ q. other_level p u j s q))
            (λ j h d. rw (other j (not_same j d), tally j) (w.around.quiescent j h d))
            f (ap length t ∙ w.around.counted) (steady_next p so st g u hu c m k w r)));
      }
    where
      tally : (j : ℕ) → tally_at g' j ≡ tally_at g j
      tally j = ap (λ ts. get_or ts j new_tally) t

      other : (j : ℕ) → (j ≡ u → ⊥) → level_at (step_at p u st) j ≡ level_at st j
      other j n = level_internal p so st here u hu q j n

  fits : Fits p m after_it.effect
  fits = stepped_fits p (field_now p g) m so (rw w.level hu)

  answered_it : counts after_it.manager ≡ one_more (grown (counts m) after_it.effect)
  answered_it = stepped_counts p (field_now p g) m

  -- a step that does nothing outside
  pub nothing_advances : after_it.effect ≡ effect.Nothing → Advances p st g g u c after_it.manager k
  nothing_advances e =
      internal_advances (sends_next p so st g u hu c m k w r ∙ ap (arrival_of u c m) e) g refl
      (fields-kept p st (step_at p u st) g versions w.around.fields)
      (ap (λ c. c.forks) answered_it ∙ ap (λ e. (one_more (grown (counts m) e)).forks) e)
    where
      versions : (j : ℕ) → (level_at (step_at p u st) j).versions ≡ (level_at st j).versions
      versions j = elim (ℕ_discrete j u) [
        | yes q ↦ rw q (versions_next ∙ ap (λ e. versions_after m e w.versions) e ∙ sym versions_before)
        | no n ↦ ap (λ v. v.versions) (level_internal p so st here u hu (sends_next p so st g u hu c m k w r ∙ ap (arrival_of u c m) e) j n)
      ]

  -- a write
  pub write_advances : (ws : List Written) → after_it.effect ≡ effect.Write ws → Advances p st g (wrote ws g) u c after_it.manager k
  write_advances ws e =
      internal_advances (sends_next p so st g u hu c m k w r ∙ ap (arrival_of u c m) e) (wrote ws g) refl fields
      (ap (λ c. c.forks) answered_it ∙ ap (λ e. (one_more (grown (counts m) e)).forks) e)
    where
      places : Each (λ w. p.level w.object ≡ m.level) ws
      places = each_seen _ ws (fitted after_it.effect e fits).0
        where
          fitted : (e : Effect) → e ≡ effect.Write ws → Fits p m e → Fits p m (effect.Write ws)
          fitted e q t = rw q at t

      written_at : (level_at (step_at p u st) u).versions ≡ map (version_of m.stamp) ws ++ w.versions
      written_at = versions_next ∙ ap (λ e. versions_after m e w.versions) e

      fields : FieldsAgree p (step_at p u st) (wrote ws g)
      fields o' k' = elim (ℕ_discrete (p.level o') u) [
        | yes q ↦
            ap (λ j. newest (initially p o' k') o' k' (level_at (step_at p u st) j).versions) q
            ∙ ap (newest (initially p o' k') o' k') written_at
            ∙ newest_wrote (initially p o' k') (initially p o' k') m.stamp o' k' ws w.versions g.written (
            ap (newest (initially p o' k') o' k') (sym versions_before)
            ∙ ap (λ j. newest (initially p o' k') o' k' (level_at st j).versions) (sym q)
            ∙ w.around.fields o' k'
            )
        | no n ↦
            ap (λ l. newest (initially p o' k') o' k' l.versions) (level_internal p so st here u hu (sends_next p so st g u hu c m k w r ∙ ap (arrival_of u c m) e) (p.level o') n)
            ∙ w.around.fields o' k'
            ∙ sym (current_other (initially p o' k') o' k' ws g.written (
            each_map (λ x. p.level x.object ≡ m.level) (λ x. x.object ≡ o' → ⊥) (λ x t q. n (ap p.level (sym q) ∙ t ∙ w.level)) ws places
            ))
      ]
