-- A run by a timetable, step by step. Assumes nothing.
use Prim.Native.Nat.{ℕ, suc, ◌+◌, ◌≤◌, ◌<◌, ◌^◌}
use mathlib.Core.Path.{◌≡◌, refl, sym, ◌∙◌, ap}
use mathlib.Core.Bool.{Bool, true, false}
use mathlib.Core.List.{List, ◌∷◌}
use native.Mathlib.Decide.{ℕ_discrete}
use native.Mathlib.Omega.{arith}
use borrow.Author.Tests.{eqb-true, ltb-true, ltb-false}
use lib.ListN.{length, get_or, set, drop, replicate, length-set, length-replicate, get_or-replicate}
use lib.Seq.{drop-cons, drop-length, get_or-set_same, get_or-set_other}
use Rattle.lists.proofs.Laws.Range.{not_both}
use Rattle.session.specs.Limits.{max_levels, fields}
use Rattle.session.specs.Parts.{level_count, masks_of}
use Rattle.session.specs.Meaning.{root_of}
use Rattle.session.specs.Program.{program_of}
use Rattle.session.specs.Questions.{verdict_of, Accepted}
use Rattle.session.proofs.Laws.Contents.{level_limit, masks_length}
use Rattle.lists.proofs.Laws.Lists.{holds, fails, truth}
use Rattle.scripts.specs.Existence.{existence}
use Rattle.scripts.specs.Valid.{Leveled}
use Rattle.scripts.specs.Ending.{is_running}
use Rattle.scripts.specs.State.{Manager}
use Rattle.fields.specs.Limits.{field_words}
use Rattle.fields.specs.Fields.{FieldThere, Forgotten}
use Rattle.cores.specs.Core.{effect_of, is_asking}
use Rattle.operations.specs.Operations.{asking}
use Rattle.cores.specs.declared.Effect.TheVariants as act
use Rattle.managers.specs.Manager.{manager_of}
use Rattle.managers.specs.Steps.{WellFormed, Advanceable, Stepped}
use Rattle.managers.specs.declared.Manager as code
use Rattle.model.specs.Limits.{max_schedule}
use Rattle.model.specs.Step.{State, step_at}
use Rattle.model.specs.Schedule.{initial_state, finished, question14, step_refusal, run_from, run_of, refused}
use Rattle.theorems.proofs.Laws.Order.Accepted.{sound}
use Rattle.theorems.proofs.Laws.Order.PlainRun.{read_in_total}
use Rattle.theorems.proofs.Laws.Invariant.Bounded.{total, step_less}
use Rattle.theorems.proofs.Laws.Code.Progress.{allowed, run_made, run_stops, run_ends, run_unended}
use Rattle.tallies.specs.Places.{busy_place, unchanged, busy_in}
use Rattle.level_state.specs.Representation.{Words, RunInvariant, placed}
use Rattle.permits.specs.Permits.{number_of_permit, ended_of, permit_of, Askable}
use Rattle.level_state.specs.Steps.{Tables, Readable, ReadReady, Answered, PerformReady, SettleReady, CoreSettled, Changing, ChangedBy, StepDone, StartReady, Started}
use Rattle.level_state.specs.Ends.{Quiescent, SameRest, Ends}
use Rattle.timetable_steps.specs.Refusals.{refusal_at, end_of}
use Rattle.std.specs.Prelude.{Result, Ok, Err}
use Rattle.calls.specs.declared.Refusal.{Refusal}
use Rattle.calls.specs.declared.Refusal.TheVariants.{Unended}
use Rattle.calls.specs.declared.Refusal.TheVariants as refusal
use Rattle.permits.specs.declared.Permit.{Permit}
use Rattle.permits.specs.declared.Permit.TheVariants.{Given, Absent, Idle, Blocked}
use Rattle.level_state.proofs.Laws.Settle.{placed_own, placed_other}
use Rattle.level_state.proofs.Laws.Step.{invariant_live, invariant_held}
use Rattle.level_state.specs.Script.{Blank, ScriptStep, Waits, Unseen}
use Rattle.level_state.proofs.Laws.Seen.{blank_zeros, kept-blank, Seeing, forgotten_others}
use Rattle.level_state.proofs.Laws.Script.{running, readable, able, step_is}
use Rattle.level_state.proofs.Laws.Told.{waits_of, stepped_same, tells, told_sees, told_others, told_forgets, makes, told_made}
use Rattle.level_state.proofs.Laws.Changes.{change_ready, change_runs, change_room, change_represented}
use Rattle.level_state.proofs.Laws.Made.{Stepping, MayStep, StepRepresented, Advancing, start_here, start_done, busy_here, done_performs, done_settles, step_represented}
use Rattle.level_state.proofs.Laws.Asked.{askable, asked_is, ended_is}

-- the managers that an array of the code's holds
abbrev pub held_in : List code.Manager → code.Manager → ℕ → Manager
held_in managers d k = manager_of (get_or managers k d)

-- an array in which the manager of level l was stored
held_set : (managers : List code.Manager) (d : code.Manager) (l : ℕ) (r : code.Manager) → l < length managers → (k : ℕ) → held_in (set managers l r) d k ≡ placed l (manager_of r) (held_in managers d) k
held_set managers d l r h k = elim (ℕ_discrete k l) [
  | yes e ↦
      rw e (ap manager_of (get_or-set_same managers l r d h) ∙ sym (placed_own l (manager_of r) (held_in managers d)))
  | no e ↦
      ap manager_of (get_or-set_other managers l k r d e) ∙ sym (placed_other l (manager_of r) (held_in managers d) k e)
]

-- those that run are as start and their steps leave them
abbrev pub AllWellFormed : List ℕ → List code.Manager → code.Manager → Type 0
AllWellFormed s managers d = (k : ℕ) → k < length managers → is_running (get_or managers k d).core.ending ≡ true → WellFormed s (get_or managers k d)

held_all : (s : List ℕ) (managers : List code.Manager) (d : code.Manager) (l : ℕ) (r : code.Manager) → WellFormed s r → AllWellFormed s managers d → AllWellFormed s (set managers l r) d
held_all s managers d l r now all k h run = elim (ℕ_discrete k l) [
  | yes e ↦ rw (e, get_or-set_same managers l r d (rw (length-set managers l r, e) at h)) now
  | no e ↦
      let same = get_or-set_other managers l k r d e in
      rw same (all k (rw (length-set managers l r) at h) (rw same at run))
]

-- the first i steps of a timetable are made: the words represent a state from which the rest ends as the whole does
pub record StepsMade (s ls : List ℕ) (i : ℕ) (w : Words) (ms : ℕ → Manager) : Type 0 where
  pub state : State
  pub invariant : RunInvariant s w ms state
  pub run : run_from i (program_of s) (drop i ls) state ≡ run_of (program_of s) (root_of s) ls
  pub pace : i + total state ≤ max_schedule

module _ (s : List ℕ) (a : verdict_of s ≡ Accepted) (few : level_count s ≤ max_levels) (ls : List ℕ) where
  few_program : (program_of s).levels ≤ max_levels
  few_program = unfold program_of in few

  pub steps_made_start : (w : Words) (ms : ℕ → Manager) → Quiescent s w (initial_state s) → StepsMade s ls 0 w ms
  steps_made_start w ms r =
      record {
        state = initial_state s;
        invariant = r.invariant ms;
        run = unfold run_of in refl;
        pace = omega (arith, read_in_total (program_of s) (sound s a) few_program (root_of s));
      }

  module _ (i : ℕ) (w : Words) (ms : ℕ → Manager) (g : StepsMade s ls i w ms) where
    -- the position fits its number
    pub steps_made_fits : i < 2 ^ 32
    steps_made_fits = omega (arith, g.pace)

    -- other managers, one by one the same
    pub steps_made_held : (ms' : ℕ → Manager) → ((k : ℕ) → ms' k ≡ ms k) → StepsMade s ls i w ms'
    steps_made_held ms' e =
        record { state = g.state; invariant = invariant_held s w ms ms' g.state e g.invariant; run = g.run; pace = g.pace }

    module _ (masks : List ℕ) (table : masks ≡ masks_of s) (long : length masks ≡ level_count s) where
      -- at its end
      pub steps_made_ends : i ≡ length ls → ended_of masks w.tallies ≡ true → Ends s ls w (Ok tt)
      steps_made_ends e z = (ms, (g.state, (over, g.invariant.represents)))
        where
          over : run_of (program_of s) (root_of s) ls ≡ finished g.state
          over =
              sym g.run
              ∙ ap (λ k. run_from i (program_of s) (drop k ls) g.state) e
              ∙ ap (λ xs. run_from i (program_of s) xs g.state) (drop-length ls)
              ∙ run_ends i (program_of s) g.state (sym (ended_is s masks table long w ms g.state g.invariant.represents) ∙ z)

      pub steps_made_unended : i ≡ length ls → ended_of masks w.tallies ≡ false → Ends s ls w (Err Unended)
      steps_made_unended e z =
          sym g.run
          ∙ ap (λ k. run_from i (program_of s) (drop k ls) g.state) e
          ∙ ap (λ xs. run_from i (program_of s) xs g.state) (drop-length ls)
          ∙ run_unended i (program_of s) g.state (sym (ended_is s masks table long w ms g.state g.invariant.represents) ∙ z)

      module _ (h : i < length ls) where
        abbrev l : ℕ
        l = get_or ls i 0

        next : run_of (program_of s) (root_of s) ls ≡ run_from i (program_of s) (l ∷ drop (suc i) ls) g.state
        next = sym g.run ∙ ap (λ xs. run_from i (program_of s) xs g.state) (drop-cons ls i 0 h)

        -- a step that is not permitted
        pub steps_made_stops : (p : Permit) → p ≡ permit_of masks w.tallies w.queue l → (p ≡ Given → ⊥) → run_of (program_of s) (root_of s) ls ≡ refused (number_of_permit p) i
        steps_made_stops p e d =
            next
            ∙ run_stops i (program_of s) l (drop (suc i) ls) g.state (number_of_permit p) (sym (asked_is s masks a few table long w ms g.state g.invariant l) ∙ ap number_of_permit (sym e)) (none p d)
          where
            none : (p : Permit) → (p ≡ Given → ⊥) → number_of_permit p ≡ 0 → ⊥
            none Given d q = d refl
            none Absent d q = omega (arith, q)
            none Idle d q = omega (arith, q)
            none Blocked d q = omega (arith, q)

        -- one that is
        module _ (e : permit_of masks w.tallies w.queue l ≡ Given) where
          pub steps_made_allowed : step_refusal (program_of s) g.state l ≡ 0
          steps_made_allowed = sym (asked_is s masks a few table long w ms g.state g.invariant l) ∙ ap number_of_permit e

          pub steps_made_present : l < level_count s
          unfolding program_of
          steps_made_present = (allowed question14 (program_of s) g.state l steps_made_allowed).0

          pub steps_made_may : (m : code.Manager) → ms l ≡ manager_of m → Stepping s w l m ms g.state
          steps_made_may m is = record { invariant = g.invariant; allowed = steps_made_allowed; held = is }

          pub steps_made_step : (m : code.Manager) → ms l ≡ manager_of m → (w' : Words) (cache' : List ℕ) (r : code.Manager) → StepRepresented s l m w w' cache' r → StepsMade s ls (suc i) w' (placed l (manager_of r) ms)
          steps_made_step m is w' cache' r d =
              let live = invariant_live s a w ms g.state g.invariant in
              let yes = allowed question14 (program_of s) g.state l steps_made_allowed in
              record {
                state = step_at (program_of s) l g.state;
                invariant = d.invariant ms g.state (steps_made_may m is);
                run = sym (next ∙ run_made i (program_of s) l (drop (suc i) ls) g.state steps_made_allowed);
                pace = omega (arith, g.pace, step_less (program_of s) (sound s a) g.state live.reachable.steady.fork_invariant live.reachable.steady.bounded l yes.0 yes.1.0);
              }

-- the loop over a timetable
pub record ListLoop (s ls : List ℕ) (d : code.Manager) (w₀ w : Words) (managers : List code.Manager) (cache : List ℕ) (i : ℕ) : Type 0 where
  pub steps_made : StepsMade s ls i w (held_in managers d)
  pub low : i ≤ length ls
  pub managers_long : length managers ≡ max_levels
  pub held : AllWellFormed s managers d
  pub blank : Blank cache
  pub cache_long : length cache ≡ field_words
  pub rest : SameRest w₀.work w.work

pub list_start : {s masks : List ℕ} (ls : List ℕ) (d : code.Manager) {none : code.Manager} {w : Words} → Leveled s masks → is_running none.core.ending ≡ false → Quiescent s w (initial_state s) → ListLoop s ls d w w (replicate max_levels none) (replicate field_words 0) 0
list_start {s} ls d {none} {w} y over r =
    record {
      steps_made = steps_made_start s y.accepted (level_limit s y.accepted) ls w (held_in (replicate max_levels none) d) r;
      low = omega arith;
      managers_long = length-replicate max_levels none;
      held = λ k h run. absurd (not_both (is_running none.core.ending) (rw (get_or-replicate max_levels k none d (rw (length-replicate max_levels none) at h)) at run) over);
      blank = blank_zeros field_words;
      cache_long = length-replicate {A = ℕ} field_words 0;
      rest = refl;
    }

module _ {s masks : List ℕ} (y : Leveled s masks) {ls : List ℕ} {d : code.Manager} {w₀ w : Words} {managers : List code.Manager} {cache : List ℕ} {i : ℕ} (g : ListLoop s ls d w₀ w managers cache i) where
  few : level_count s ≤ max_levels
  few = level_limit s y.accepted

  long : length masks ≡ level_count s
  long = ap length y.masks_are ∙ masks_length s y.accepted

  pub list_askable : Askable masks w.tallies w.queue
  list_askable = askable s masks y.accepted few y.masks_are long w (held_in managers d) g.steps_made.state g.steps_made.invariant

  pub list_fits : i < 2 ^ 32
  list_fits = steps_made_fits s y.accepted few ls i w (held_in managers d) g.steps_made

  -- question 15
  pub list_ends : length ls ≤ i → {r : Result Unit Refusal} → r ≡ end_of (ended_of masks w.tallies) → Ends s ls w r
  list_ends h q =
      let e : i ≡ length ls = omega (arith, h, g.low) in
      elim (truth (ended_of masks w.tallies)) [
        | holds z ↦
            rw (q, z) (steps_made_ends s y.accepted few ls i w (held_in managers d) g.steps_made masks y.masks_are long e z)
        | fails z ↦
            rw (q, z) (steps_made_unended s y.accepted few ls i w (held_in managers d) g.steps_made masks y.masks_are long e z)
      ]

  module _ (h : i < length ls) {p : Permit} (e : p ≡ permit_of masks w.tallies w.queue (get_or ls i 0)) where
    -- the step is not permitted, and the run ends with the refusal of its place
    pub list_refused : (p ≡ Given → ⊥) → (w' : Words) {a : Result ℕ Refusal} {r : Result Unit Refusal} → a ≡ refusal_at p i → ((x : Refusal) → a ≡ Err x → r ≡ Err x) → Ends s ls w' r
    list_refused z w' {a} {r} q same =
        at_place p z (λ x n. same x (q ∙ n)) (steps_made_stops s y.accepted few ls i w (held_in managers d) g.steps_made masks y.masks_are long h p e z)
      where
        at_place : (p : Permit) → (p ≡ Given → ⊥) → ((x : Refusal) → refusal_at p i ≡ Err x → r ≡ Err x) → run_of (program_of s) (root_of s) ls ≡ refused (number_of_permit p) i → Ends s ls w' r
        at_place Given z same e = absurd (z refl)
        at_place Absent z same e = rw (same (refusal.Absent i) refl) e
        at_place Idle z same e = rw (same (refusal.Idle i) refl) e
        at_place Blocked z same e = rw (same (refusal.Blocked i) refl) e

-- the next step is permitted
pub record Permitted (s masks index ls : List ℕ) (d : code.Manager) (w₀ w : Words) (managers : List code.Manager) (cache : List ℕ) (i : ℕ) : Type 0 where
  pub read : Tables s masks index
  pub loop : ListLoop s ls d w₀ w managers cache i
  pub more : i < length ls
  pub given : permit_of masks w.tallies w.queue (get_or ls i 0) ≡ Given

pub permitted : {s masks index ls : List ℕ} {d : code.Manager} {w₀ w : Words} {managers : List code.Manager} {cache : List ℕ} {i : ℕ} {p : Permit} → Tables s masks index → ListLoop s ls d w₀ w managers cache i → i < length ls → p ≡ permit_of masks w.tallies w.queue (get_or ls i 0) → p ≡ Given → Permitted s masks index ls d w₀ w managers cache i
permitted a g h e z = record { read = a; loop = g; more = h; given = sym e ∙ z }

module _ {s masks index ls : List ℕ} {d : code.Manager} {w₀ w : Words} {managers : List code.Manager} {cache : List ℕ} {i : ℕ} (g : Permitted s masks index ls d w₀ w managers cache i) where
  abbrev level : ℕ
  level = get_or ls i 0

  abbrev m : code.Manager
  m = get_or managers level d

  abbrev y : Leveled s masks
  y = g.read.leveled

  pub list_present : level < max_levels
  list_present =
      omega (arith, few y g.loop, steps_made_present s y.accepted (few y g.loop) ls i w (held_in managers d) g.loop.steps_made masks y.masks_are (long y g.loop) g.more g.given)

  there : level < length managers
  there = omega (arith, g.loop.managers_long, list_present)

  may : MayStep s w level m
  may = (
    held_in managers d,
    (g.loop.steps_made.state, steps_made_may s y.accepted (few y g.loop) ls i w (held_in managers d) g.loop.steps_made masks y.masks_are (long y g.loop) g.more g.given m refl),
  )

  -- what the manager may look at: nothing is kept of what managers have read
  cache_there : field_words ≤ length cache
  cache_there = rw g.loop.cache_long (omega arith)

  sees : {u : Bool} → u ≡ unchanged w.tallies → Seeing s w level cache u
  sees e =
      record { kept = kept-blank s w level cache g.loop.blank; there = cache_there; flag = λ q. eqb-true _ 0 (sym e ∙ q) }

  -- once the words represent the state after it, the next one's turn comes
  again : {w' : Words} {cache' : List ℕ} {r : code.Manager} → StepRepresented s level m w w' cache' r → length cache' ≡ length cache → ListLoop s ls d w₀ w' (set managers level r) cache' (i + 1)
  again {w'} {cache'} {r} x c0 =
      let next = steps_made_step s y.accepted (few y g.loop) ls i w (held_in managers d) g.loop.steps_made masks y.masks_are (long y g.loop) g.more g.given m refl w' cache' r x in
      record {
        steps_made = held next (held_in (set managers level r) d) (held_set managers d level r there);
        low = omega (arith, g.more);
        managers_long = length-set managers level r ∙ g.loop.managers_long;
        held = held_all s managers d level r x.held g.loop.held;
        blank = x.blank;
        cache_long = c0 ∙ g.loop.cache_long;
        rest = x.rest ∙ g.loop.rest;
      }
    where
      next_is : suc i ≡ i + 1
      next_is = omega arith

      held : {ms : ℕ → Manager} → StepsMade s ls (suc i) w' ms → (ms' : ℕ → Manager) → ((k : ℕ) → ms' k ≡ ms k) → StepsMade s ls (i + 1) w' ms'
      held {ms} x ms' q =
          rw (sym next_is) (steps_made_held s y.accepted (few y g.loop) ls (suc i) w' ms x ms' q)

  -- none runs at the level: one starts
  module _ (z : busy_in w.tallies level ≡ false) where
    none_busy : get_or w.tallies (busy_place level) 0 ≡ 0
    none_busy = omega (arith, ltb-false 0 (get_or w.tallies (busy_place level) 0) z)

    pub list_starts : StartReady s masks index w level
    list_starts = start_here s masks index w level m g.read none_busy may

    pub list_started : {ended' tallies' : List ℕ} {r : code.Manager} → Started s w ended' tallies' level (manager_of r) × WellFormed s r → ListLoop s ls d w₀ (record { current = w.current; ended = ended'; tallies = tallies'; queue = w.queue; work = w.work }) (set managers level r) cache (i + 1)
    list_started {ended'} {tallies'} {r} x =
        again (start_done s masks index w level m g.read none_busy cache ended' tallies' r g.loop.blank x) refl

  -- m runs there: it makes a script step
  module _ (z : busy_in w.tallies level ≡ true) where
    advancing : Advancing s masks index w level m
    advancing =
        record { read = g.read; may = may; runs = λ e. omega (arith, e, ltb-true 0 (get_or w.tallies (busy_place level) 0) z) }

    held_here : WellFormed s m
    held_here = g.loop.held level there (running g.read (busy_here advancing))

    module _ {u : Bool} (flag : u ≡ unchanged w.tallies) where
      pub list_able : Advanceable s masks index w.current cache m
      list_able = able g.read (busy_here advancing) (sees flag) held_here

-- m runs there, and has made a script step or asks: it is n by then
pub record Turn (s masks index ls : List ℕ) (d : code.Manager) (w₀ w : Words) (managers : List code.Manager) (cache : List ℕ) (i : ℕ) (u : Bool) (n : code.Manager) : Type 0 where
  pub here : Permitted s masks index ls d w₀ w managers cache i
  pub busy : busy_in w.tallies (level here) ≡ true
  pub flag : u ≡ unchanged w.tallies
  pub step : Stepped s w.current cache false u (m here) n

module _ {s masks index ls : List ℕ} {d : code.Manager} {w₀ w : Words} {managers : List code.Manager} {cache : List ℕ} {i : ℕ} {u : Bool} {n : code.Manager} (t : Turn s masks index ls d w₀ w managers cache i u n) where
  abbrev advances : Advancing s masks index w (level t.here) (m t.here)
  advances = advancing t.here t.busy

  pub list_made : is_asking n.core.effect ≡ false → ScriptStep s w (level t.here) cache (m t.here) n
  list_made q =
      record { is = step_is t.here.read (busy_here advances) (sees t.here t.flag) t.step q; held = t.step.held; present = t.step.present; blank = t.here.loop.blank }

  -- n waits for a value
  module _ {o k : ℕ} (q : n.core.effect ≡ act.Read o k) where
    waits : Waits s w (level t.here) cache u n o k
    waits = waits_of (busy_here advances) t.step q

    -- for existence
    pub list_unseen : k ≡ existence → Unseen s w (level t.here) cache n o
    list_unseen e =
        record { unchanged = u; waits = rw (sym e) waits; blank = t.here.loop.blank; there = cache_there t.here }

    pub list_seen : {cache' : List ℕ} {r : code.Manager} → ScriptStep s w (level t.here) cache' n r → ScriptStep s w (level t.here) cache' (m t.here) r
    list_seen made = stepped_same (busy_here advances) t.step q made

    -- for a field
    module _ (field : k ≡ existence → ⊥) where
      pub list_reads : Readable s w (level t.here) × (ReadReady s cache o k × (k < fields))
      list_reads =
          (readable t.here.read (busy_here advances), (tells t.here.read waits (cache_there t.here), omega (arith, waits.named.field, field)))

      module _ {cache' : List ℕ} (told : Answered s w cache cache' (level t.here) o k) where
        told_seeing : Seeing s w (level t.here) cache' u
        told_seeing = told_sees t.here.read waits (cache_there t.here) told u (sees t.here t.flag).kept (sees t.here t.flag).flag

        pub list_told : Advanceable s masks index w.current cache' n
        list_told = able t.here.read waits.runs told_seeing waits.held

        pub list_forgets : FieldThere cache' o k
        list_forgets = told_forgets t.here.read waits (cache_there t.here) told

        pub list_answered : {cache'' : List ℕ} {r : code.Manager} → Stepped s w.current cache' false u n r → Forgotten cache' cache'' o k → ScriptStep s w (level t.here) cache'' (m t.here) r
        list_answered e forgotten =
            list_seen (told_made t.here.read waits (cache_there t.here) told e told_seeing (makes t.here.read waits (cache_there t.here) told e refl field) (forgotten_others forgotten (told_others t.here.read waits (cache_there t.here) told t.here.loop.blank)))

  -- n stands before a CREATE or WITHDRAW
  module _ (q : n.core.effect ≡ act.Change) where
    asked_for : is_asking n.core.effect ≡ true
    asked_for = rw q refl

    stands : manager_of n ≡ manager_of (m t.here)
    stands = (t.step.asks asked_for).0

    pub list_changes : Changing s masks index w.current w.tallies w.work (level t.here) n
    list_changes =
        change_ready t.here.read (change_runs advances stands) cache u t.step.held ((t.step.still asked_for).1 ∙ ap asking q)

    module _ {current' tallies' work' : List ℕ} {r : code.Manager} (made : ChangedBy s w.current current' w.tallies tallies' w.work work' (level t.here) n r) where
      pub list_settles : SettleReady w.ended tallies' w.queue (level t.here)
      list_settles = change_room advances stands made

      pub list_changed : {ended'' tallies'' : List ℕ} → CoreSettled w.ended ended'' tallies' tallies'' w.queue (level t.here) r.core → ListLoop s ls d w₀ (record { current = current'; ended = ended''; tallies = tallies''; queue = w.queue; work = work' }) (set managers (level t.here) r) cache (i + 1)
      list_changed settled = again t.here (change_represented advances stands made settled t.here.loop.blank) refl

  -- what the step did outside is done
  module _ {cache' : List ℕ} {r : code.Manager} (made : ScriptStep s w (level t.here) cache' (m t.here) r) where
    pub list_performs : PerformReady w.current w.tallies w.queue w.work (level t.here) r.core.first r.core.forks (effect_of r.core.effect) × SettleReady w.ended w.tallies w.queue (level t.here)
    list_performs = (done_performs advances made, done_settles advances made)

    pub list_done : {w' : Words} → StepDone w w' (level t.here) r.core → length cache' ≡ length cache → ListLoop s ls d w₀ w' (set managers (level t.here) r) cache' (i + 1)
    list_done x = again t.here (step_represented advances made x)
