-- A fork in the depth-first run, and the same fork among the level schedulers: dropped, or ready to run. Assumes nothing.
use Prim.Native.Nat.{ℕ, suc, ◌+◌, ◌≤◌, ◌<◌}
use mathlib.Core.Path.{◌≡◌, refl, sym, ◌∙◌, ap}
use mathlib.Core.Bool.{true, false, not}
use mathlib.Core.List.{List, []}
use native.Mathlib.Decide.{ℕ_discrete}
use native.Mathlib.Omega.{arith}
use borrow.Author.Tests.{ne_eqb}
use lib.Dec.{eqb, ltb}
use lib.ListN.{length, get_or, length-set}
use lib.Seq.{get_or-set_same, get_or-set_other}
use Rattle.dominance.specs.Order.{strictly}
use Rattle.lists.proofs.Laws.Range.{and_left, and_both, not_both, refuted}
use Rattle.session.specs.Program.{Program}
use Rattle.session.specs.declared.Message.{Message}
use Rattle.lists.proofs.Laws.Lists.{Truth, holds, fails, truth}
use Rattle.scripts.specs.Ending.{is_running}
use Rattle.scripts.specs.Manager.{stepped}
use Rattle.scripts.specs.State.{Manager, Stepped}
use Rattle.scripts.specs.Effect.{Effect}
use Rattle.scripts.specs.Effect as effect
use Rattle.scripts.proofs.Laws.Counts.{counts, grown, one_more, stepped_counts}
use Rattle.scripts.proofs.Laws.Effects.{Sound, Fits, stepped_fits}
use Rattle.scripts.proofs.Laws.Within.{Reaches, stepped_reaches}
use Rattle.model.specs.Limits.{max_managers, stamp_digits}
use Rattle.model.specs.Fork.{Fork, child_stamp, child_of}
use Rattle.model.specs.Level.{Version, Level, arrived, after}
use Rattle.model.specs.Step.{State, level_at, at, versions_after, arrival_of, move_at, step_at}
use Rattle.model.specs.DepthFirst.{Tally, Progress, tally_at, field_now}
use Rattle.lists.specs.Each.{Each}
use Rattle.theorems.proofs.Laws.Invariant.Rank.{rank, rank_positive}
use Rattle.model.proofs.Laws.Stamps.{child_after, child_next, child_within}
use Rattle.theorems.proofs.Laws.Invariant.Entries.{running_entry, entries_of}
use Rattle.theorems.proofs.Laws.Invariant.Forks.{entries_in, ForkInvariant}
use Rattle.theorems.proofs.Laws.Invariant.Preserved.{other_level, first_of}
use Rattle.theorems.proofs.Laws.Invariant.Became.{level_reached, level_missed}
use Rattle.theorems.proofs.Laws.Deep.Quiescent.{quiescent_level, LevelQuiescent, quiescent_raised, Below, below_narrowed, quiescent_below, arrived-kept, arrived_dropped}
use Rattle.theorems.proofs.Laws.Deep.Working.{end_of, FieldsAgree, Working, busy_is}
use Rattle.theorems.proofs.Laws.Deep.Ready.{Ready, Leads, Done, leads_both, leads_above, fields-kept, around_next}
use Rattle.theorems.proofs.Laws.Deep.DeepStep.{Advances, own_next, sends_next, steady_next, working_next, leads_next, versions_before, versions_next}

-- the level of a manager that has just forked, to the child, which carries s for it
forked-below : (s lo hi j : ℕ) (t : Tally) (vs ws : List Version) (c : Fork) (m : Manager) → 0 < s → Each (λ w. w.stamp ≤ s) ws → hi ≤ child_stamp c.stamp c.depth (m.forks + 1) → Below s lo hi j (after (quiescent_level t vs) [] ws c m)
unfolding after Each
forked-below s lo hi j t vs ws c m h e g =
    let positive : s ≡ 0 → ⊥ = λ q. omega (arith, q) in
    elim (truth (is_running m.ending)) [
      | holds q ↦ rw q (record { later = ((g, positive), tt); readable = λ y l. rw (ne_eqb s 0 positive) e })
      | fails q ↦ rw q (record { later = tt; readable = λ y l. rw (ne_eqb s 0 positive) e })
    ]

-- the manager of fork c at level u, which is m, forks at level t
module _ (p : Program) (so : Sound p) (st : State) (g : Progress) (u : ℕ) (hu : u < p.levels) (c : Fork) (m : Manager) (k : ℕ) (w : Working p st g u c m (suc k)) (r : is_running m.ending ≡ true) (t : ℕ) (message : Message) (e : (stepped p (field_now p g) m).effect ≡ effect.Fork t message) where
  abbrev made : Stepped
  made = stepped p (field_now p g) m

  abbrev child : Fork
  child = child_of u c m message

  abbrev here : ForkInvariant p st
  here = w.around.steady.fork_invariant

  fits : Fits p m (effect.Fork t message)
  fits = fitted made.effect e (stepped_fits p (field_now p g) m so (rw w.level hu))
    where
      fitted : (e : Effect) → e ≡ effect.Fork t message → Fits p m e → Fits p m (effect.Fork t message)
      fitted e q f = rw q at f

  pub target : t < p.levels
  target = fits.0

  pub strict : strictly p.dom t u ≡ true
  strict = rw (sym w.level) fits.1.0

  over : p.dom t u ≡ true
  over = and_left (p.dom t u) (not (eqb t u)) strict

  not_under : p.dom u t ≡ false
  not_under = refuted (p.dom u t) (λ d. other_level p t u strict (so.lattice.order.same u t hu target d over))

  sent : (move_at p u st).arrival ≡ at t child
  sent = sends_next p so st g u hu c m k w r ∙ ap (arrival_of u c m) e

  shallow : c.depth ≤ stamp_digits
  shallow =
      let d = first_of (λ a. a.depth + rank p.levels p.dom u ≤ stamp_digits + 1) (running_entry u c m.forks) [] (entries_in st u) (ap (entries_of u) (busy_is p so st g u hu c m (suc k) w r)) (here.grown.shallow u hu) in
      omega (arith, d, rank_positive p.levels p.dom so.lattice.order u hu)

  -- the child's interval of stamps: from the parent's next child to the one after that
  child_stamp_lem : child.stamp ≡ child_stamp c.stamp c.depth (m.forks + 1)
  child_stamp_lem = unfold child_of in refl

  more_forks : made.manager.forks ≡ m.forks + 1
  more_forks = ap (λ c. c.forks) (stepped_counts p (field_now p g) m) ∙ ap (λ e. (one_more (grown (counts m) e)).forks) e

  child_end : child_stamp c.stamp c.depth (made.manager.forks + 1) ≡ end_of child
  child_end =
      ap (λ f. child_stamp c.stamp c.depth (f + 1)) more_forks
      ∙ child_next c.stamp c.depth (m.forks + 1)
      ∙ unfold child_of in refl

  pub room_next : child_stamp c.stamp c.depth (made.manager.forks + 1) ≤ end_of c
  room_next =
      let within = child_within c.stamp c.depth m.forks shallow fits.1.1 in
      rw (more_forks, child_next c.stamp c.depth (m.forks + 1)) within

  -- the other levels
  reached : level_at (step_at p u st) t ≡ arrived child (level_at st t)
  reached = level_reached p so st here u hu t child sent

  missed : (j : ℕ) → (j ≡ u → ⊥) → (j ≡ t → ⊥) → level_at (step_at p u st) j ≡ level_at st j
  missed j n q = level_missed p so st here u hu t child sent j n q

  same_versions : (j : ℕ) → (level_at (step_at p u st) j).versions ≡ (level_at st j).versions
  same_versions j = elim (ℕ_discrete j u) [
    | yes q ↦
        rw q (versions_next p so st g u hu c m k w r ∙ ap (λ e. versions_after m e w.versions) e ∙ sym (versions_before p so st g u hu c m k w r))
    | no n ↦ elim (ℕ_discrete j t) [
      | yes q ↦ rw q (ap (λ v. v.versions) reached ∙ kept (level_at st t))
      | no o ↦ ap (λ v. v.versions) (missed j n o)
    ]
  ]
    where
      kept : (v : Level) → (arrived child v).versions ≡ v.versions
      kept v = unfold arrived in refl

  fields_next : FieldsAgree p (step_at p u st) g
  fields_next = fields-kept p st (step_at p u st) g same_versions w.around.fields

  not_u : (j : ℕ) → p.dom u j ≡ false → j ≡ u → ⊥
  not_u j d q = not_both (p.dom u j) (rw q (so.lattice.order.itself u hu)) d

  -- "others are dropped but still use their child number"
  pub dropped_advances : ltb (length (tally_at g t).ended) max_managers ≡ false → Advances p st g g u c made.manager k
  dropped_advances full =
      record {
        to = step_at p u st;
        leads = leads_next p so st g u hu c m k w r;
        working = working_next p so st g u hu c m k w r (step_at p u st) g refl refl room_next
            (around_next p st (step_at p u st) g g u c _ _ w.around
            (λ j h s. missed j (λ q. other_level p u j s q) (λ q. not_both (p.dom u j) (and_left (p.dom u j) (not (eqb u j)) s) (rw q not_under)))
            (λ j h d. rw (unmoved j h d) (quiescent_raised _ _ (tally_at g j) (level_at st j) grows (w.around.quiescent j h d)))
            fields_next w.around.counted (steady_next p so st g u hu c m k w r));
      }
    where
      grows : child_stamp c.stamp c.depth (m.forks + 1) ≤ child_stamp c.stamp c.depth (made.manager.forks + 1)
      grows = rw (more_forks, child_next c.stamp c.depth (m.forks + 1)) (omega arith)

      nothing : level_at (step_at p u st) t ≡ level_at st t
      nothing =
          let q = (w.around.quiescent t target not_under).is in
          reached ∙ ap (arrived child) q ∙ arrived_dropped child (tally_at g t) (w.around.quiescent t target not_under).versions full ∙ sym q

      unmoved : (j : ℕ) → j < p.levels → p.dom u j ≡ false → level_at (step_at p u st) j ≡ level_at st j
      unmoved j h d = elim (ℕ_discrete j t) [
        | yes q ↦ rw q nothing
        | no n ↦ missed j (not_u j d) n
      ]

  -- a level that u dominates is one that t dominates
  under_both : (j : ℕ) → j < p.levels → p.dom t j ≡ false → p.dom u j ≡ false
  under_both j h d =
      refuted (p.dom u j) (λ q. not_both (p.dom t j) (so.lattice.order.through t u j target hu h over q) d)

  not_t : (j : ℕ) → p.dom t j ≡ false → j ≡ t → ⊥
  not_t j d q = not_both (p.dom t j) (rw q (so.lattice.order.itself t target)) d

  -- what the child carries: the sender's write stamp for its level, and what the sender carries for others
  carried_own : get_or child.carried u 0 ≡ m.stamp
  carried_own = unfold child_of in get_or-set_same c.carried u m.stamp 0 (rw w.around.width hu)

  carried_other : (j : ℕ) → (j ≡ u → ⊥) → get_or child.carried j 0 ≡ get_or c.carried j 0
  carried_other j n = unfold child_of in get_or-set_other c.carried u j m.stamp 0 n

  after_parent : c.stamp ≤ child.stamp
  after_parent = rw child_stamp_lem (omega (arith, child_after c.stamp c.depth m.forks))

  child_below : (j : ℕ) → j < p.levels → strictly p.dom t j ≡ true → Below (get_or child.carried j 0) child.stamp (end_of child) j (level_at (step_at p u st) j)
  child_below j h s = elim (ℕ_discrete j u) [
    | yes q ↦ rw q (rw (carried_own, own_next p so st g u hu c m k w r) own)
    | no n ↦ rw (carried_other j n, missed j n (λ q. other_level p t j s q)) (elsewhere n (truth (p.dom u j)))
  ]
    where
      own : Below m.stamp child.stamp (end_of child) u (after (quiescent_level (tally_at g u) w.versions) [] (versions_after m made.effect w.versions) c made.manager)
      own =
          rw e (forked-below m.stamp child.stamp (end_of child) u (tally_at g u) w.versions w.versions c made.manager w.positive w.written (rw child_end (omega arith)))

      elsewhere : (j ≡ u → ⊥) → Truth (p.dom u j) → Below (get_or c.carried j 0) child.stamp (end_of child) j (level_at st j)
      elsewhere n (holds d) =
          below_narrowed (get_or c.carried j 0) c.stamp child.stamp (end_of c) (end_of child) j (level_at st j) after_parent (rw (sym child_end) room_next)
          (w.around.below j h (and_both (p.dom u j) (not (eqb u j)) d (rw (ne_eqb u j (λ q. n (sym q))) refl)))
      elsewhere n (fails d) =
          quiescent_below (get_or c.carried j 0) child.stamp (end_of child) j (tally_at g j) (level_at st j) (w.around.carries j h d) (rw child_stamp_lem (w.around.quiescent j h d))

  -- "a fork that is made and kept": it is ready to run
  pub child_ready : ltb (length (tally_at g t).ended) max_managers ≡ true → Ready p (step_at p u st) g t child
  child_ready room =
      let quiescent = w.around.quiescent t target not_under in
      record {
        versions = quiescent.versions;
        is = reached ∙ ap (arrived child) quiescent.is ∙ arrived-kept child (tally_at g t) quiescent.versions room;
        past = rw child_stamp_lem quiescent.past;
        reaches = reached_object;
        around = record {
          below = child_below;
          quiescent = λ j h d.
              rw (missed j (not_u j (under_both j h d)) (not_t j d), child_stamp_lem) (w.around.quiescent j h (under_both j h d));
          carries = λ j h d. carried_other j (not_u j (under_both j h d)) ∙ w.around.carries j h (under_both j h d);
          fields = fields_next;
          width = unfold child_of in length-set c.carried u m.stamp ∙ w.around.width;
          counted = w.around.counted;
          steady = steady_next p so st g u hu c m k w r;
        };
      }
    where
      reached_object : p.dom t (p.level child.message.object) ≡ true
      reached_object = unfold child_of in object made.effect e (stepped_reaches p (field_now p g) m so (rw w.level hu))
        where
          object : (e : Effect) → e ≡ effect.Fork t message → Reaches p e → p.dom t (p.level message.object) ≡ true
          object e q f = rw q at f

  -- and when it has run whole, its sender works on
  pub kept_advances : (g' : Progress) (st' : State) → Leads p t (step_at p u st) g st' g' → Done p t child st' g' → Advances p st g g' u c made.manager k
  kept_advances g' st' l d =
      record {
        to = st';
        leads = leads_both p u st (step_at p u st) st' g g g' (leads_next p so st g u hu c m k w r) (leads_above p so u t hu target over (step_at p u st) st' g g' l);
        working = working_next p so st g u hu c m k w r st' g' (l.states u hu not_under) (l.tallies u hu not_under) room_next
            (around_next p st st' g g' u c _ _ w.around
            (λ j h s. l.states j h (not_over j h s) ∙ missed j (λ q. other_level p u j s q) (λ q. not_both (p.dom u j) (and_left (p.dom u j) (not (eqb u j)) s) (rw q not_under)))
            quiescent d.fields d.counted d.steady);
      }
    where
      not_over : (j : ℕ) → j < p.levels → strictly p.dom u j ≡ true → p.dom j t ≡ false
      not_over j h s =
          refuted (p.dom j t) (λ q. not_both (p.dom u t) (so.lattice.order.through u j t hu h target (and_left (p.dom u j) (not (eqb u j)) s) q) not_under)

      later : child_stamp c.stamp c.depth (m.forks + 1) ≤ child_stamp c.stamp c.depth (made.manager.forks + 1)
      later = rw (more_forks, child_next c.stamp c.depth (m.forks + 1)) (omega arith)

      quiescent : (j : ℕ) → j < p.levels → p.dom u j ≡ false → LevelQuiescent (child_stamp c.stamp c.depth (made.manager.forks + 1)) (tally_at g' j) (level_at st' j)
      quiescent j h f = elim (truth (p.dom j t)) [
        | holds q ↦ rw child_end (d.quiescent j h q)
        | fails q ↦
            rw (l.tallies j h q, l.states j h q, missed j (not_u j f) (λ n. not_both (p.dom j t) (rw n (so.lattice.order.itself t target)) q))
            (quiescent_raised _ _ (tally_at g j) (level_at st j) later (w.around.quiescent j h f))
      ]
