-- The plain run: level after level, until all managers have ended. Assumes nothing.
use Prim.Native.Nat.{ℕ, zero, suc, ◌+◌, ◌*◌, ◌-◌, ◌≤◌, ◌<◌}
use mathlib.Core.Path.{◌≡◌, refl, sym, ◌∙◌, ap, subst}
use mathlib.Core.Bool.{true, false, cond}
use mathlib.Core.List.{List, [], ◌∷◌, ◌++◌}
use native.Mathlib.Decide.{ℕ_discrete}
use native.Mathlib.Omega.{arith}
use lib.ListN.{length, get_or}
use Rattle.lists.proofs.Laws.Range.{not_both}
use Rattle.session.specs.Limits.{max_levels}
use Rattle.session.specs.Parts.{level_count, masks_of}
use Rattle.session.specs.Meaning.{root_of}
use Rattle.session.specs.Program.{Program, program_of}
use Rattle.session.specs.Questions.{verdict_of, Accepted}
use Rattle.session.proofs.Laws.Contents.{level_limit, masks_length}
use Rattle.scripts.specs.Limits.{max_script_steps}
use Rattle.scripts.specs.Valid.{Leveled}
use Rattle.model.specs.Limits.{max_managers}
use Rattle.model.specs.Level.{idle, Level, is_busy, has_manager}
use Rattle.model.specs.Step.{State, level_at, step_at}
use Rattle.model.specs.Schedule.{initial_state, finished, question14, question15, refusal_under, step_refusal, run_of, Leads}
use Rattle.std.specs.Prelude.{Option, None, Some, MatchOption}
use Rattle.plain.specs.Lowest.{NoneLowest}
use Rattle.model.specs.Rules.{conservative}
use Rattle.theorems.proofs.Laws.Order.Accepted.{sound}
use Rattle.theorems.proofs.Laws.Invariant.Measure.{left, cost}
use Rattle.theorems.proofs.Laws.Invariant.Bounded.{total, step_less}
use Rattle.theorems.proofs.Laws.Code.Reached.{ReachedState, live_step}
use Rattle.theorems.proofs.Laws.Code.Progress.{allowed, all_ended, leads_none, leads_run}
use Rattle.level_state.specs.Representation.{Words, RunInvariant}
use Rattle.permits.specs.Permits.{lowest_of, Countable}
use Rattle.level_state.specs.Ends.{Quiescent, SameRest}
use Rattle.fork_runs.specs.Levels.{LevelReady, LevelDone, Done}
use Rattle.level_state.proofs.Laws.Step.{invariant_live}
use Rattle.level_state.proofs.Laws.Asked.{lowest_allowed, lowest_refused}
use Rattle.fork_runs.proofs.Laws.Level.{any_manager}

-- the managers that the levels from i on, k of them, have room for still
unfoldable pub room_from : List ℕ → ℕ → ℕ → ℕ
room_from tallies i zero = 0
room_from tallies i (suc k) = (max_managers - get_or tallies i 0) + room_from tallies (suc i) k

-- where no manager runs, the steps that a state has left are counted so
room_is : (tallies : List ℕ) (st : State) (i : ℕ) → ((j : ℕ) → j < length st → (get_or tallies (i + j) 0 ≡ length (level_at st j).ended) × ((level_at st j).activity ≡ idle)) → (1 + max_script_steps) * room_from tallies i (length st) ≡ total st
unfolding room_from total
room_is tallies [] i f = refl
room_is tallies (v ∷ vs) i f =
    let rest = room_is tallies vs (suc i) (λ j h. let q = f (suc j) (omega arith) in (ap (λ k. get_or tallies k 0) (shift i j) ∙ q.0, q.1)) in
    let own = f 0 (omega arith) in
    let first : get_or tallies i 0 ≡ length v.ended = ap (λ k. get_or tallies k 0) (start i) ∙ own.0 in
    let here : cost v ≡ (1 + max_script_steps) * (max_managers - length v.ended) = cost_idle v own.1 in
    omega (arith, rest, first, here)
  where
    shift : (i j : ℕ) → suc i + j ≡ i + suc j
    shift i j = omega arith

    start : (i : ℕ) → i ≡ i + 0
    start i = omega arith

    cost_idle : (v : Level) → v.activity ≡ idle → cost v ≡ (1 + max_script_steps) * (max_managers - length v.ended)
    cost_idle v e =
        ap (λ a. (1 + max_script_steps) * (max_managers - (length v.ended + cond {A = ℕ} (is_busy a) 1 0)) + left a) e ∙ omega arith

-- allowed steps one list after the other
leads_then : (p : Program) (ls ks : List ℕ) (st t u : State) → Leads p st ls t → Leads p t ks u → Leads p st (ls ++ ks) u
leads_then p [] ks st t u a b =
    let e : st ≡ t = unfold Leads in a in
    from e b
  where
    from : {st t : State} → st ≡ t → Leads p t ks u → Leads p st ks u
    from e b = rw e b
leads_then p (l ∷ ls) ks st t u a b =
    let q : (step_refusal p st l ≡ 0) × Leads p (step_at p l st) ls t = unfold Leads in a in
    let r = leads_then p ls ks (step_at p l st) t u q.1 b in
    pair (ls ++ ks) q.0 r
  where
    pair : (z : List ℕ) → step_refusal p st l ≡ 0 → Leads p (step_at p l st) z u → Leads p st (l ∷ z) u
    pair z x y = unfold Leads in (x, y)

module _ (s : List ℕ) (a : verdict_of s ≡ Accepted) where
  less : (st : State) → ReachedState s st → (l : ℕ) → step_refusal (program_of s) st l ≡ 0 → (total (step_at (program_of s) l st) < total st) × ReachedState s (step_at (program_of s) l st)
  less st i l ok =
      let yes = allowed question14 (program_of s) st l ok in (
        step_less (program_of s) (sound s a) st i.reachable.steady.fork_invariant i.reachable.steady.bounded l yes.0 yes.1.0,
        live_step s a st i l (unfold program_of in yes.0) ok,
      )

  no_more : (ls : List ℕ) (st t : State) → ReachedState s st → Leads (program_of s) st ls t → total t ≤ total st
  no_more [] st t i z =
      let e : st ≡ t = unfold Leads in z in
      same e
    where
      same : {st t : State} → st ≡ t → total t ≤ total st
      same e = rw e (omega arith)
  no_more (l ∷ ls) st t i z =
      let q : (step_refusal (program_of s) st l ≡ 0) × Leads (program_of s) (step_at (program_of s) l st) ls t = unfold Leads in z in
      let f = less st i l q.0 in
      omega (arith, f.0, no_more ls (step_at (program_of s) l st) t f.1 q.1)

  -- a level that has lost its managers has made a step
  fewer : (ls : List ℕ) (st t : State) (l : ℕ) → ReachedState s st → Leads (program_of s) st ls t → has_manager (level_at st l) ≡ true → has_manager (level_at t l) ≡ false → total t < total st
  fewer [] st t l i z h d =
      let e : st ≡ t = unfold Leads in z in
      absurd (none e h d)
    where
      none : {st t : State} → st ≡ t → has_manager (level_at st l) ≡ true → has_manager (level_at t l) ≡ false → ⊥
      none {st} {t} e h d = not_both (has_manager (level_at t l)) (rw e at h) d
  fewer (k ∷ ls) st t l i z h d =
      let q : (step_refusal (program_of s) st k ≡ 0) × Leads (program_of s) (step_at (program_of s) k st) ls t = unfold Leads in z in
      let f = less st i k q.0 in
      omega (arith, f.0, no_more ls (step_at (program_of s) k st) t f.1 q.1)

-- allowed steps were made from the session as read in; no manager runs, and no level below this number may step by the conservative rule
pub record Ran (s : List ℕ) (w : Words) (level : ℕ) : Type 0 where
  pub state : State
  pub list : List ℕ
  pub leads : Leads (program_of s) (initial_state s) list state
  pub quiescent : Quiescent s w state
  pub lower : (j : ℕ) → j < level → refusal_under conservative (program_of s) state j ≡ 0 → ⊥

pub ran_start : (s : List ℕ) (w : Words) → Quiescent s w (initial_state s) → Ran s w 0
ran_start s w r =
    record {
      state = initial_state s;
      list = [];
      leads = leads_none (program_of s) (initial_state s);
      quiescent = r;
      lower = λ j h _. absurd (omega (arith, h));
    }

module _ (s masks : List ℕ) (a : verdict_of s ≡ Accepted) (table : masks ≡ masks_of s) (long : length masks ≡ level_count s) (w : Words) (level : ℕ) (g : Ran s w level) where
  abbrev st : State
  st = g.state

  abbrev represented : RunInvariant s w (λ _. any_manager) st
  represented = g.quiescent.invariant (λ _. any_manager)

  -- a level that may not step is passed
  pub ran_skip : level < length masks → lowest_of masks w.tallies level ≡ false → Ran s w (level + 1)
  ran_skip h z =
      record { state = st; list = g.list; leads = g.leads; quiescent = g.quiescent; lower = lower }
    where
      own : (j : ℕ) → j ≡ level → refusal_under conservative (program_of s) st j ≡ 0 → ⊥
      own j q o =
          lowest_refused s masks table long w (λ _. any_manager) st represented.represents level h z (ap (refusal_under conservative (program_of s) st) (sym q) ∙ o)

      lower : (j : ℕ) → j < level + 1 → refusal_under conservative (program_of s) st j ≡ 0 → ⊥
      lower j h o = elim (ℕ_discrete j level) [
        | yes q ↦ own j q o
        | no q ↦ g.lower j (omega (arith, h, q)) o
      ]

  -- one that may step is run
  module _ (l : ℕ) (h : l < length masks) (z : lowest_of masks w.tallies l ≡ true) where
    ran_allowed : refusal_under conservative (program_of s) st l ≡ 0
    ran_allowed = lowest_allowed s masks table long w (λ _. any_manager) st represented.represents l h z

    pub ran_ready : LevelReady s w l
    ran_ready = (st, (g.quiescent, ran_allowed))

    pub ran_level : (w' : Words) → LevelDone s w w' l → Ran s w' 0
    ran_level w' d =
        let r = d.ran st g.quiescent ran_allowed in
        record {
          state = r.state;
          list = g.list ++ r.list;
          leads = leads_then (program_of s) g.list r.list (initial_state s) st r.state g.leads r.leads;
          quiescent = r.quiescent;
          lower = λ j h _. absurd (omega (arith, h));
        }

    counted : (w : Words) (st : State) → Quiescent s w st → (1 + max_script_steps) * room_from w.tallies 0 (length masks) ≡ total st
    counted w st r =
        let y = (r.invariant (λ _. any_manager)).represents in
        ap (λ n. (1 + max_script_steps) * room_from w.tallies 0 n) (long ∙ sym y.levels)
        ∙ room_is w.tallies st 0 (λ j h. let hj : j < level_count s = rw (sym y.levels) h in (ap (λ k. get_or w.tallies k 0) (zero_less j) ∙ (y.level j hj).ended_count, r.idle_all j hj))
      where
        zero_less : (j : ℕ) → 0 + j ≡ j
        zero_less j = omega arith

    -- and then there is room for fewer managers
    pub ran_less : (w' : Words) → LevelDone s w w' l → room_from w'.tallies 0 (length masks) < room_from w.tallies 0 (length masks)
    ran_less w' d =
        let r = d.ran st g.quiescent ran_allowed in
        let live = invariant_live s a w (λ _. any_manager) st represented in
        let f = fewer s a r.list st r.state l live r.leads (allowed conservative (program_of s) st l ran_allowed).1.0 r.no_manager_lem in
        omega (arith, f, counted w st g.quiescent, counted w' r.state r.quiescent)

  -- where none may step all managers have ended
  pub ran_end : length masks ≤ level → Done s w
  ran_end h = (g.list, ((λ _. any_manager), (st, (over, represented.represents))))
    where
      ended : question15 (program_of s) st ≡ true
      ended =
          all_ended (program_of s) (sound s a).lattice.order st (λ l hl o. g.lower l (omega (arith, count l hl, h, long)) o)
        where
          count : (l : ℕ) → l < (program_of s).levels → l < level_count s
          count l hl = unfold program_of in hl

      over : run_of (program_of s) (root_of s) g.list ≡ finished st
      over = unfold run_of in leads_run 0 (program_of s) (initial_state s) g.list st g.leads ended

-- the loop over the levels
pub record PlainLoop (s masks : List ℕ) (w₀ w : Words) (level : ℕ) : Type 0 where
  pub ran : Ran s w level
  pub low : level ≤ length masks
  pub rest : SameRest w₀.work w.work

-- its measure: the managers that there is room for, and the levels before the last
abbrev pub plain_left : List ℕ → List ℕ → ℕ → ℕ
plain_left masks tallies level = 9 * room_from tallies 0 (length masks) + (length masks - level)

pub plain_start : {s masks : List ℕ} {w : Words} → Quiescent s w (initial_state s) → PlainLoop s masks w w 0
plain_start {s} {masks} {w} r =
    record {
      ran = ran_start s w r;
      low = omega arith;
      rest = refl;
    }

module _ {s masks : List ℕ} (y : Leveled s masks) {w₀ w : Words} {level : ℕ} (i : PlainLoop s masks w₀ w level) where
  a : verdict_of s ≡ Accepted
  a = y.accepted

  few : level_count s ≤ max_levels
  few = level_limit s y.accepted

  long : length masks ≡ level_count s
  long = ap length y.masks_are ∙ masks_length s y.accepted

  pub plain-counted : Countable masks w.tallies
  plain-counted =
      record { few = omega (arith, long, few); room = (i.ran.quiescent.invariant (λ _. any_manager)).represents.roomy.tallies }

  pub plain_done : length masks ≤ level → Done s w
  plain_done h = ran_end s masks a y.masks_are long w level i.ran h

  -- a level that may step
  module _ {l : ℕ} (h : l < length masks) where
    module _ (z : lowest_of masks w.tallies l ≡ true) where
      pub plain_ready : LevelReady s w l
      plain_ready = ran_ready s masks a y.masks_are long w level i.ran l h z

      module _ {w' : Words} (d : LevelDone s w w' l) where
        pub plain_less : plain_left masks w'.tallies 0 < plain_left masks w.tallies level
        plain_less =
            omega (arith, h, long, few, ran_less s masks a y.masks_are long w level i.ran l h z w' d)

        pub plain_again : PlainLoop s masks w₀ w' 0
        plain_again =
            record {
              ran = ran_level s masks a y.masks_are long w level i.ran l h z w' d;
              low = omega arith;
              rest = d.rest ∙ i.rest;
            }

-- where none may step all managers have ended
module _ {s masks : List ℕ} (y : Leveled s masks) {w₀ w : Words} (i : PlainLoop s masks w₀ w 0) (z : NoneLowest masks w.tallies) where
  skipped : (n : ℕ) → n ≤ length masks → Ran s w n
  skipped zero h = i.ran
  skipped (suc n) h =
      let e : n + 1 ≡ suc n = omega arith in
      subst (Ran s w) e (ran_skip s masks y.accepted y.masks_are (ap length y.masks_are ∙ masks_length s y.accepted) w n (skipped n (omega (arith, h))) (omega (arith, h)) (z n (omega (arith, h))))

  pub plain_over : Done s w
  plain_over =
      ran_end s masks y.accepted y.masks_are (ap length y.masks_are ∙ masks_length s y.accepted) w (length masks) (skipped (length masks) (omega arith)) (omega arith)

-- what a search of the levels finds
pub found_lowest : (masks tallies : List ℕ) (r : Option ℕ)
    → MatchOption r ((k : ℕ) → 0 ≤ k → k < length masks → lowest_of masks tallies k ≡ false) (λ i. (0 ≤ i) × (i < length masks) × (lowest_of masks tallies i ≡ true) × ((k : ℕ) → 0 ≤ k → k < i → lowest_of masks tallies k ≡ false))
    → MatchOption r (NoneLowest masks tallies) (λ l. (l < length masks) × (lowest_of masks tallies l ≡ true))
found_lowest masks tallies None h = λ k l. h k (omega arith) l
found_lowest masks tallies (Some i) h = (h.1, h.2)
