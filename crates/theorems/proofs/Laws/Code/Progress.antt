-- Which scheduler steps are allowed, as code finds it out; what stays so after a step; and lists of allowed steps. Assumes nothing.
use Prim.Native.Nat.{ℕ, suc, ◌+◌, ◌≤◌, ◌<◌}
use mathlib.Core.Path.{◌≡◌, refl, sym, ◌∙◌, ap}
use mathlib.Core.Bool.{Bool, true, false, not, ◌||◌}
use mathlib.Core.List.{List, [], ◌∷◌, ◌++◌}
use native.Mathlib.Omega.{arith}
use borrow.Author.Tests.{ltb-true, ne_eqb, not-true}
use Rattle.lists.specs.Range.{all, implies}
use Rattle.dominance.specs.Order.{strictly, PartialOrder}
use Rattle.lists.proofs.Laws.Range.{not_both, refuted, implies_then, implies_when, all_each, all-every}
use Rattle.session.specs.Parts.{level_count}
use Rattle.session.specs.Questions.{verdict_of, Accepted}
use Rattle.session.specs.Meaning.{root_of}
use Rattle.session.specs.Program.{Program, program_of}
use Rattle.lists.proofs.Laws.Lists.{holds, fails, truth}
use Rattle.scripts.proofs.Laws.Effects.{Sound}
use Rattle.model.specs.Fork.{Fork, span}
use Rattle.model.specs.Level.{Activity, idle, busy, Level, is_busy, is_empty, has_manager, forks_of, arrived}
use Rattle.model.specs.Step.{State, level_at, step_at}
use Rattle.model.specs.Schedule.{read_in, question12, question13, holds_back, question14, question15, Rule, refusal_under, step_refusal, finished, refused, run_under, run_from, Leads}
use Rattle.model.specs.Rules.{conservative}
use Rattle.lists.specs.Each.{Each}
use Rattle.lists.proofs.Laws.Each.{each_map}
use Rattle.model.proofs.Laws.Stamps.{within_free, free_within}
use Rattle.theorems.proofs.Laws.Invariant.Tree.{up_to, strictly_through}
use Rattle.theorems.proofs.Laws.Invariant.Entries.{entries_of}
use Rattle.theorems.proofs.Laws.Invariant.Forks.{ForkInvariant}
use Rattle.theorems.proofs.Laws.Invariant.Became.{Became, own, got, stayed, became}
use Rattle.theorems.proofs.Laws.Steps.May.{forks_entries, entries_forks, Before, free_each, each_free, all_yes, may_step, step_may}
use Rattle.theorems.proofs.Laws.Order.Accepted.{sound}
use Rattle.theorems.proofs.Laws.Order.Orderly.{behind}
use Rattle.theorems.proofs.Laws.Order.Progress.{progress, quiet_below, conservative_may}
use Rattle.theorems.proofs.Laws.Order.Chosen.{run_over, run_next}
use Rattle.theorems.proofs.Laws.Code.Reached.{ReachedState, present, live_start, live_step}

-- the number of a step's refusal under a rule, by the first question that says no
module _ (rule : Rule) (p : Program) (st : State) (l : ℕ) where
  pub refusal_absent : question12 p l ≡ false → refusal_under rule p st l ≡ 12
  unfolding refusal_under
  refusal_absent e = rw e refl

  pub refusal_idle : question12 p l ≡ true → question13 st l ≡ false → refusal_under rule p st l ≡ 13
  unfolding refusal_under
  refusal_idle e q = rw (e, q) refl

  pub refusal_blocked : question12 p l ≡ true → question13 st l ≡ true → rule p st l ≡ false → refusal_under rule p st l ≡ 14
  unfolding refusal_under
  refusal_blocked e q r = rw (e, q, r) refl

  pub refusal_none : question12 p l ≡ true → question13 st l ≡ true → rule p st l ≡ true → refusal_under rule p st l ≡ 0
  unfolding refusal_under
  refusal_none e q r = rw (e, q, r) refl

  -- and what an allowed step says
  pub allowed : refusal_under rule p st l ≡ 0 → (l < p.levels) × ((question13 st l ≡ true) × (rule p st l ≡ true))
  unfolding refusal_under
  allowed e =
      let (a, (b, c)) = all_yes (question12 p l) (question13 st l) (rule p st l) e in
      (ltb-true l p.levels a, (b, c))

-- a level with no manager is idle
pub unmanaged_idle : (v : Level) → has_manager v ≡ false → v.activity ≡ idle
unmanaged_idle v h = by v.activity v.waiting h
  where
    by : (b : Activity) (ws : List Fork) → (is_busy b || not (is_empty ws)) ≡ false → b ≡ idle
    by idle ws e = refl
    by (busy x m) ws e = absurd (not_both true refl e)

-- where the conservative rule lets no level step, all managers have ended
pub all_ended : (p : Program) → PartialOrder p.levels p.dom → (st : State) → ((l : ℕ) → l < p.levels → refusal_under conservative p st l ≡ 0 → ⊥) → question15 p st ≡ true
all_ended p po st n = elim (truth (question15 p st)) [
  | holds q ↦ q
  | fails q ↦
      let (k, e) = progress p po st q in
      absurd (n k (allowed conservative p st k e).0 e)
]

module _ (p : Program) (so : Sound p) (st : State) (o : ForkInvariant p st) where
  -- a step changes what runs at its own level only
  pub activity_stays : (l k : ℕ) → l < p.levels → (k ≡ l → ⊥) → (level_at (step_at p l st) k).activity ≡ (level_at st k).activity
  activity_stays l k h n = by (level_at (step_at p l st) k) (became p so st o l h k)
    where
      by : (v : Level) → Became p l st k v → v.activity ≡ (level_at st k).activity
      by v (own e q) = absurd (n e)
      by v (got c e s q) = ap (λ w. w.activity) q ∙ (unfold arrived in refl)
      by v (stayed m q) = ap (λ w. w.activity) q

  -- where the conservative rule allows a level's steps, it still does after the step of a manager: a level that gets a fork has a manager strictly
  -- below
  pub quiet_stays : (k l : ℕ) → l < p.levels → conservative p st l ≡ true → k < p.levels → has_manager (level_at st k) ≡ true → conservative p (step_at p k st) l ≡ true
  unfolding conservative
  quiet_stays k l hl c hk m =
      all-every p.levels _ λ j hj. implies_when (strictly p.dom l j) (not (has_manager (level_at (step_at p k st) j))) λ s. rw (by j hj s (level_at (step_at p k st) j) (became p so st o k hk j)) refl
    where
      -- level k has a manager, so it does not lie strictly below l
      beside : strictly p.dom l k ≡ true → ⊥
      beside s = not_both (has_manager (level_at st k)) m (quiet_below p st l c k hk s)

      by : (j : ℕ) → j < p.levels → strictly p.dom l j ≡ true → (v : Level) → Became p k st j v → has_manager v ≡ false
      by j hj s v (own t q) = absurd (beside (rw t at s))
      by j hj s v (got x t r q) = absurd (beside (strictly_through p.levels p.dom so.lattice.order l j k hl hj hk s r))
      by j hj s v (stayed n q) = rw q (quiet_below p st l c j hj s)

-- whether the first of these forks holds back a manager of this stamp
abbrev pub first_holds : List Fork → ℕ → Bool
first_holds [] stamp = false
first_holds (y ∷ ys) stamp = holds_back y stamp

-- question 14 in a state that a run reaches
module _ (s : List ℕ) (a : verdict_of s ≡ Accepted) (st : State) (i : ReachedState s st) where
  abbrev p : Program
  p = program_of s

  -- a level that runs a manager need not be asked
  pub busy_free : (l : ℕ) → l < level_count s → is_busy (level_at st l).activity ≡ true → question14 p st l ≡ true
  busy_free l h b =
      let m = i.reachable.ordered.running l (present s l h) b in
      each_free p st l m.fork m.others m.first m.free

  -- it is enough to ask the first manager of each level
  firsts_each : (stamp j : ℕ) → j < p.levels → (ys : List Fork) → forks_of (level_at st j) ≡ ys → first_holds ys stamp ≡ false → Each (λ e. stamp < up_to e) (entries_of j (level_at st j))
  unfolding Each
  firsts_each stamp j h [] q e = forks_entries (Before stamp) j (level_at st j) (rw q tt)
  firsts_each stamp j h (y ∷ ys) q e =
      let end : stamp < y.stamp + span y.depth = free_within y stamp (rw e refl) in
      forks_entries (Before stamp) j (level_at st j)
      (rw q (
        end,
        each_map (λ z. y.stamp + span y.depth ≤ z.stamp) (λ z. stamp < z.stamp + span z.depth) (λ z g. omega (arith, g, end)) ys
            (behind p (sound s a) st i.reachable.steady i.reachable.ordered j h y ys q),
      ))

  pub firsts_asked : (l : ℕ) → l < level_count s → (x : Fork) (xs : List Fork) → forks_of (level_at st l) ≡ x ∷ xs → question14 p st l ≡ all p.levels (λ j. implies (p.dom l j) (not (first_holds (forks_of (level_at st j)) x.stamp)))
  firsts_asked l h x xs q = elim (truth (all p.levels (λ j. implies (p.dom l j) (not (first_holds (forks_of (level_at st j)) x.stamp))))) [
    | holds e ↦
        each_free p st l x xs q (λ j hj d.
        firsts_each x.stamp j hj (forks_of (level_at st j)) refl
        (not-true (first_holds (forks_of (level_at st j)) x.stamp) (implies_then (p.dom l j) _ (all_each p.levels _ e j hj) d)))
        ∙ sym e
    | fails e ↦ refuted (question14 p st l) (λ t. not_both _ (all-every p.levels _ λ j hj. implies_when (p.dom l j) _ λ d. ap not (first_free_lem x.stamp j (level_at st j) (free_each p st l x xs q t j hj d))) e) ∙ sym e
  ]
    where
      first_free_lem : (stamp j : ℕ) (v : Level) → Each (λ e. stamp < up_to e) (entries_of j v) → first_holds (forks_of v) stamp ≡ false
      first_free_lem stamp j v f = by (forks_of v) (entries_forks (Before stamp) j v f)
        where
          by : (ys : List Fork) → Each (λ y. stamp < y.stamp + span y.depth) ys → first_holds ys stamp ≡ false
          by [] g = refl
          by (y ∷ ys) g = not-true (holds_back y stamp) (within_free y stamp (unfold Each in g.0))

  -- every step that the conservative rule allows is allowed
  pub still_allowed : (l : ℕ) → refusal_under conservative p st l ≡ 0 → step_refusal p st l ≡ 0
  still_allowed l e =
      step_may p st l (conservative_may p (sound s a) st i.reachable.steady i.reachable.ordered l e)

-- a list of steps from position i on: an allowed step is made, one that is not ends the run
pub run_made : (i : ℕ) (p : Program) (l : ℕ) (ls : List ℕ) (st : State) → step_refusal p st l ≡ 0 → run_from i p (l ∷ ls) st ≡ run_from (suc i) p ls (step_at p l st)
run_made i p l ls st e = run_next i p l ls st (may_step p st l e)

pub run_stops : (i : ℕ) (p : Program) (l : ℕ) (ls : List ℕ) (st : State) (n : ℕ) → step_refusal p st l ≡ n → (n ≡ 0 → ⊥) → run_from i p (l ∷ ls) st ≡ refused n i
unfolding run_under
run_stops i p l ls st n e f = rw (e, ne_eqb n 0 f) refl

-- the end of the list, by question 15
pub run_ends : (i : ℕ) (p : Program) (st : State) → question15 p st ≡ true → run_from i p [] st ≡ finished st
run_ends i p st q = run_over i p [] st q refl

pub run_unended : (i : ℕ) (p : Program) (st : State) → question15 p st ≡ false → run_from i p [] st ≡ refused 15 0
unfolding run_under
run_unended i p st q = rw q refl

-- no steps, and one step more
pub leads_none : (p : Program) (st : State) → Leads p st [] st
unfolding Leads
leads_none p st = refl

pub leads_more : (p : Program) (st : State) (ls : List ℕ) (t : State) (l : ℕ) → Leads p st ls t → step_refusal p t l ≡ 0 → Leads p st (ls ++ (l ∷ [])) (step_at p l t)
unfolding Leads
leads_more p st [] t l a e = (rw a e, ap (step_at p l) a)
leads_more p st (k ∷ ks) t l a e = (a.0, leads_more p (step_at p k st) ks t l a.1 e)

-- steps that lead to a state with all managers ended are a run that finishes there
pub leads_run : (i : ℕ) (p : Program) (st : State) (ls : List ℕ) (t : State) → Leads p st ls t → question15 p t ≡ true → run_from i p ls st ≡ finished t
unfolding Leads
leads_run i p st [] t a q = run_ends i p st (rw a q) ∙ ap finished a
leads_run i p st (l ∷ ls) t a q = run_made i p l ls st a.0 ∙ leads_run (suc i) p (step_at p l st) ls t a.1 q

-- what steps of an accepted session lead to, a run reaches
module _ (s : List ℕ) (a : verdict_of s ≡ Accepted) where
  leads_preserves : (st : State) (ls : List ℕ) (t : State) → ReachedState s st → Leads (program_of s) st ls t → ReachedState s t
  unfolding Leads program_of
  leads_preserves st [] t i b = rw (sym b) i
  leads_preserves st (l ∷ ls) t i b =
      leads_preserves (step_at (program_of s) l st) ls t (live_step s a st i l (allowed question14 (program_of s) st l b.0).0 b.0) b.1

  pub leads_live : (ls : List ℕ) (t : State) → Leads (program_of s) (read_in (program_of s) (root_of s)) ls t → ReachedState s t
  leads_live ls t b = leads_preserves (read_in (program_of s) (root_of s)) ls t (live_start s a) b
