-- A fork that the depth-first run is about to run, in a state of the level schedulers: its start is a safe step. Assumes nothing.
use Prim.Native.Nat.{ℕ, ◌+◌, ◌≤◌, ◌<◌}
use mathlib.Core.Path.{◌≡◌, refl, sym, ◌∙◌, ap}
use mathlib.Core.Bool.{true, false}
use mathlib.Core.List.{List, [], ◌∷◌, ◌++◌}
use native.Mathlib.Decide.{ℕ_discrete}
use native.Mathlib.Omega.{arith}
use lib.ListN.{length}
use Rattle.dominance.specs.Order.{strictly}
use Rattle.lists.proofs.Laws.Range.{not_both, refuted}
use Rattle.session.specs.Program.{Program, seen_by}
use Rattle.scripts.specs.Existence.{existence, initially}
use Rattle.scripts.specs.Limits.{max_script_steps}
use Rattle.scripts.specs.Manager.{started}
use Rattle.scripts.specs.State.{Manager}
use Rattle.scripts.proofs.Laws.Counts.{started_counts}
use Rattle.scripts.proofs.Laws.Effects.{Sound}
use Rattle.scripts.proofs.Laws.Within.{started_within, started_seen}
use Rattle.model.specs.Fork.{Fork, child_stamp}
use Rattle.model.specs.Level.{Version, idle, after, newest, forks_of}
use Rattle.model.specs.Step.{State, level_at, view_of, read_at, none, begun, moved, move_at, step_at}
use Rattle.model.specs.DepthFirst.{Tally, Progress, tally_at, field_now}
use Rattle.model.specs.Limits.{stamp_digits}
use Rattle.theorems.proofs.Laws.Confluence.{ran, Allowed}
use Rattle.lists.proofs.Laws.Each.{each_map}
use Rattle.theorems.proofs.Laws.Invariant.Rank.{rank, rank_positive}
use Rattle.model.proofs.Laws.Stamps.{child_after, child_within}
use Rattle.theorems.proofs.Laws.Steps.Moves.{move_is}
use Rattle.theorems.proofs.Laws.Invariant.Entries.{waiting_entry, entries_of}
use Rattle.theorems.proofs.Laws.Invariant.Forks.{entries_in}
use Rattle.theorems.proofs.Laws.Invariant.Preserved.{other_level, first_of}
use Rattle.theorems.proofs.Laws.Invariant.WriteStamps.{after_versions}
use Rattle.theorems.proofs.Laws.Invariant.Became.{level_stepped, level_internal, level_unmoved}
use Rattle.theorems.proofs.Laws.Invariant.State.{StateInvariant, steady_preserves}
use Rattle.theorems.proofs.Laws.Safe.Safe.{Safe, safe_managed}
use Rattle.theorems.proofs.Laws.Deep.Quiescent.{quiescent_level, awaiting, Past, LevelQuiescent, quiescent_raised}
use Rattle.theorems.proofs.Laws.Deep.Working.{end_of, FieldsAgree, Around, Working, around_safe, fields_legible, reads_current}

-- fork c waits alone at level u, and is the next to run
pub record Ready (p : Program) (st : State) (g : Progress) (u : ℕ) (c : Fork) : Type 0 where
  pub versions : List Version
  pub is : level_at st u ≡ awaiting c (tally_at g u) versions
  pub past : Past c.stamp (tally_at g u) versions
  pub reaches : p.dom u (p.level c.message.object) ≡ true
  pub around : Around p st g u c c.stamp

-- a list of safe steps from a state to another, beside a part of the depth-first run; both leave the levels that do not dominate u
pub record Leads (p : Program) (u : ℕ) (st : State) (g : Progress) (st' : State) (g' : Progress) : Type 0 where
  pub list : List ℕ
  pub allowed : Allowed (step_at p) (Safe p) list st
  pub ends : ran (step_at p) list st ≡ st'
  pub states : (j : ℕ) → j < p.levels → p.dom j u ≡ false → level_at st' j ≡ level_at st j
  pub tallies : (j : ℕ) → j < p.levels → p.dom j u ≡ false → tally_at g' j ≡ tally_at g j

-- the manager of fork c and all its descendants have ended
pub record Done (p : Program) (u : ℕ) (c : Fork) (st : State) (g : Progress) : Type 0 where
  pub quiescent : (j : ℕ) → j < p.levels → p.dom j u ≡ true → LevelQuiescent (end_of c) (tally_at g j) (level_at st j)
  pub fields : FieldsAgree p st g
  pub counted : length g.levels ≡ p.levels
  pub steady : StateInvariant p st

-- lists one after the other
pub ran_both : {S : Type 0} (act : ℕ → S → S) (ls ks : List ℕ) (s : S) → ran act (ls ++ ks) s ≡ ran act ks (ran act ls s)
unfolding ran
ran_both act [] ks s = refl
ran_both act (l ∷ ls) ks s = ran_both act ls ks (act l s)

pub allowed_both : {S : Type 0} (act : ℕ → S → S) (May : S → ℕ → Type 0) (ls ks : List ℕ) (s : S) → Allowed act May ls s → Allowed act May ks (ran act ls s) → Allowed act May (ls ++ ks) s
unfolding ran Allowed
allowed_both act May [] ks s a b = b
allowed_both act May (l ∷ ls) ks s a b = (a.0, allowed_both act May ls ks (act l s) a.1 b)

pub leads_both : (p : Program) (u : ℕ) (st st' st'' : State) (g g' g'' : Progress) → Leads p u st g st' g' → Leads p u st' g' st'' g'' → Leads p u st g st'' g''
leads_both p u st st' st'' g g' g'' a b =
    record {
      list = a.list ++ b.list;
      allowed = allowed_both (step_at p) (Safe p) a.list b.list st a.allowed (rw a.ends b.allowed);
      ends = ran_both (step_at p) a.list b.list st ∙ ap (ran (step_at p) b.list) a.ends ∙ b.ends;
      states = λ j h d. b.states j h d ∙ a.states j h d;
      tallies = λ j h d. b.tallies j h d ∙ a.tallies j h d;
    }

pub leads_none : (p : Program) (u : ℕ) (st : State) (g g' : Progress) → ((j : ℕ) → j < p.levels → p.dom j u ≡ false → tally_at g' j ≡ tally_at g j) → Leads p u st g st g'
leads_none p u st g g' t =
    record {
      list = [];
      allowed = unfold Allowed in tt;
      ends = unfold ran in refl;
      states = λ j h d. refl;
      tallies = t;
    }

pub leads_one : (p : Program) → Sound p → (u : ℕ) → u < p.levels → (st : State) (g : Progress) → StateInvariant p st → Safe p st u → Leads p u st g (step_at p u st) g
leads_one p so u h st g i s =
    record {
      list = u ∷ [];
      allowed = unfold Allowed in (s, tt);
      ends = unfold ran in refl;
      states = λ j hj d. level_unmoved p so st i.fork_invariant u h j d;
      tallies = λ j hj d. refl;
    }

-- a list for a level above is one for the level
pub leads_above : (p : Program) → Sound p → (u w : ℕ) → u < p.levels → w < p.levels → p.dom w u ≡ true → (st st' : State) (g g' : Progress) → Leads p w st g st' g' → Leads p u st g st' g'
leads_above p so u w hu hw d st st' g g' a =
    record {
      list = a.list;
      allowed = a.allowed;
      ends = a.ends;
      states = λ j h e. a.states j h (not_over j h e);
      tallies = λ j h e. a.tallies j h (not_over j h e);
    }
  where
    not_over : (j : ℕ) → j < p.levels → p.dom j u ≡ false → p.dom j w ≡ false
    not_over j h e = refuted (p.dom j w) (λ t. not_both (p.dom j u) (so.lattice.order.through j w u h hw hu t d) e)

-- the versions decide what is current
pub fields-kept : (p : Program) (st st' : State) (g : Progress) → ((j : ℕ) → (level_at st' j).versions ≡ (level_at st j).versions) → FieldsAgree p st g → FieldsAgree p st' g
fields-kept p st st' g e f = λ o k. ap (newest (initially p o k) o k) (e (p.level o)) ∙ f o k

-- the levels around, where the levels below u are as they were
pub around_next : (p : Program) (st st' : State) (g g' : Progress) (u : ℕ) (c : Fork) (lo lo' : ℕ) → Around p st g u c lo → ((j : ℕ) → j < p.levels → strictly p.dom u j ≡ true → level_at st' j ≡ level_at st j) → ((j : ℕ) → j < p.levels → p.dom u j ≡ false → LevelQuiescent lo' (tally_at g' j) (level_at st' j)) → FieldsAgree p st' g' → length g'.levels ≡ p.levels → StateInvariant p st' → Around p st' g' u c lo'
around_next p st st' g g' u c lo lo' a below quiescent fields counted steady =
    record {
      below = λ j h s. rw (below j h s) (a.below j h s);
      quiescent = quiescent;
      carries = a.carries;
      fields = fields;
      width = a.width;
      counted = counted;
      steady = steady;
    }

moved_awaiting : (p : Program) (st : State) (l : ℕ) (t : Tally) (vs : List Version) (c : Fork) (m : Manager) → started p (read_at p st l c) l t.next c.message ≡ m → moved p st l (awaiting c t vs) idle ≡ record { own = after (quiescent_level t vs) [] vs c m; arrival = none }
unfolding moved begun after
moved_awaiting p st l t vs c m q = ap (λ m. record { own = after (quiescent_level t vs) [] vs c m; arrival = none }) q

-- the start of a fork that is ready
module _ (p : Program) (so : Sound p) (st : State) (g : Progress) (u : ℕ) (hu : u < p.levels) (c : Fork) (r : Ready p st g u c) where
  abbrev pub begins : Manager
  begins = started p (field_now p g) u (tally_at g u).next c.message

  pub ready_safe : Safe p st u
  ready_safe = around_safe p st g u c c.stamp [] hu r.around (ap forks_of r.is)

  ready_move : move_at p u st ≡ record { own = after (quiescent_level (tally_at g u) r.versions) [] r.versions c begins; arrival = none }
  ready_move =
      move_is p u st so hu
      ∙ ap (λ v. moved (seen_by u p) (view_of p u st) u v v.activity) r.is
      ∙ moved_awaiting (seen_by u p) (view_of p u st) u (tally_at g u) r.versions c begins (started_seen p (read_at (seen_by u p) (view_of p u st) u c) (field_now p g) u (tally_at g u).next c.message so (fields_legible p so st g r.around.steady.contained r.around.fields) hu r.reaches (reads_current p so st g u c c.stamp r.around c.message.object existence r.reaches))

  pub ready_shallow : c.depth + rank p.levels p.dom u ≤ stamp_digits + 1
  ready_shallow =
      first_of (λ a. a.depth + rank p.levels p.dom u ≤ stamp_digits + 1) (waiting_entry u c) [] (entries_in st u) (ap (entries_of u) r.is) (r.around.steady.fork_invariant.grown.shallow u hu)

  own_next : level_at (step_at p u st) u ≡ after (quiescent_level (tally_at g u) r.versions) [] r.versions c begins
  own_next = level_stepped p so st r.around.steady.fork_invariant u hu ∙ ap (λ m. m.own) ready_move

  other_next : (j : ℕ) → (j ≡ u → ⊥) → level_at (step_at p u st) j ≡ level_at st j
  other_next j n = level_internal p so st r.around.steady.fork_invariant u hu (ap (λ m. m.arrival) ready_move) j n

  versions_next : (j : ℕ) → (level_at (step_at p u st) j).versions ≡ (level_at st j).versions
  versions_next j = elim (ℕ_discrete j u) [
    | yes e ↦
        rw e (ap (λ v. v.versions) own_next ∙ after_versions (quiescent_level (tally_at g u) r.versions) [] r.versions c begins ∙ sym (ap (λ v. v.versions) r.is))
    | no n ↦ ap (λ v. v.versions) (other_next j n)
  ]

  not_same : (j : ℕ) → p.dom u j ≡ false → j ≡ u → ⊥
  not_same j d e = not_both (p.dom u j) (rw e (so.lattice.order.itself u hu)) d

  pub ready_working : Working p (step_at p u st) g u c begins max_script_steps
  ready_working =
      let counts = started_counts p (field_now p g) u (tally_at g u).next c.message in
      let stamp : begins.stamp ≡ (tally_at g u).next = ap (λ c. c.stamp) counts in
      let none_yet : begins.forks ≡ 0 = ap (λ c. c.forks) counts in
      let steps : begins.steps ≡ 0 = ap (λ c. c.steps) counts in
      let shallow : c.depth ≤ stamp_digits = omega (arith, ready_shallow, rank_positive p.levels p.dom so.lattice.order u hu) in
      let child : c.stamp ≤ child_stamp c.stamp c.depth (begins.forks + 1) = rw none_yet (omega (arith, child_after c.stamp c.depth 0)) in
      record {
        versions = r.versions;
        is = own_next;
        written = each_map (λ w. w.stamp < (tally_at g u).next) (λ w. w.stamp ≤ begins.stamp) (λ w e. omega (arith, e, stamp)) r.versions r.past.written;
        early = r.past.early;
        positive = omega (arith, stamp, r.past.last);
        level = ap (λ c. c.level) counts;
        within = started_within p so (field_now p g) (fields_legible p so st g r.around.steady.contained r.around.fields) u (tally_at g u).next c.message hu r.reaches;
        steps = omega (arith, steps);
        live = λ _. omega (arith, steps);
        room = rw none_yet (omega (arith, child_within c.stamp c.depth 0 shallow (omega arith)));
        around = around_next p st (step_at p u st) g g u c c.stamp _ r.around
            (λ j h s. other_next j (λ e. other_level p u j s e))
            (λ j h d. rw (other_next j (not_same j d)) (quiescent_raised c.stamp _ (tally_at g j) (level_at st j) child (r.around.quiescent j h d)))
            (fields-kept p st (step_at p u st) g versions_next r.around.fields)
            r.around.counted
            (steady_preserves p so st r.around.steady u hu (safe_managed ready_safe));
      }
