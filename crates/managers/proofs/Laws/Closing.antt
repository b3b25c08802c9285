-- The pops that are left at the end of a row of script steps, and what the code's manager then is. Assumes nothing.
use Prim.Native.Nat.{ℕ, ◌-◌, ◌≤◌, ◌<◌}
use mathlib.Core.Path.{◌≡◌, refl, sym, ◌∙◌, ap, ap₂}
use mathlib.Core.Bool.{Bool, true, false, cond, ◌&&◌}
use mathlib.Core.List.{List, [], ◌∷◌}
use native.Mathlib.Omega.{arith}
use borrow.Author.Tests.{lt-leb, ltb-true, ltb-false, leb-true, leb-false}
use lib.Dec.{ltb, leb}
use lib.ListN.{get_or}
use Rattle.lists.proofs.Laws.Range.{not_both, and_left, and_right}
use Rattle.session.specs.Program.{Program, program_of}
use Rattle.frames.proofs.Laws.Values.{either_same}
use Rattle.session.specs.Value.{Value}
use Rattle.std.specs.Prelude.{None}
use Rattle.lists.proofs.Laws.Lists.{holds, fails, truth}
use Rattle.scripts.specs.Limits.{max_script_steps}
use Rattle.scripts.specs.Ending.{is_running}
use Rattle.scripts.specs.State as defined
use Rattle.scripts.specs.Frame.{with_register}
use Rattle.scripts.specs.Manager.{is_end, next_step, concluded}
use Rattle.scripts.specs.declared.Ending.{Ending}
use Rattle.scripts.specs.declared.Ending.TheVariants.{Finished, OutOfSteps}
use Rattle.scripts.proofs.Laws.Settle.{concluded_pop, concluded_last, concluded_out}
use Rattle.frames.specs.Frames.{into_of, returns_of, frame_of, aside_of, no_waiting, below, Waits}
use Rattle.frames.specs.declared.Waiting.{Waiting}
use Rattle.frames.proofs.Laws.Frames.{at_end, not_end, unfinished_there}
use Rattle.cores.specs.Core.{bare, standing, stack_of, effect_of, settled_of, comes_to, is_over, is_asking, is_done, Tall}
use Rattle.operations.specs.Operations.{is_pause}
use Rattle.cores.specs.Moves.{causing, restacked, Popped, stood_as, closed_as}
use Rattle.cores.specs.declared.Core.{Core}
use Rattle.cores.specs.declared.Effect.{Effect}
use Rattle.cores.specs.declared.Effect.TheVariants.{Nothing, End, Write, Read, Change, Fork, Call, Pop}
use Rattle.cores.proofs.Laws.Closed.{closed_over as over_closed, closed_last, closed_unfinished, closed_out}
use Rattle.managers.specs.Manager.{manager_of, stepped_of}
use Rattle.managers.specs.Steps.{WellFormed, Lowering}
use Rattle.managers.specs.declared.Manager.{Manager}
use Rattle.managers.proofs.Laws.Turns.{below-popped, no_pops}
use Rattle.managers.proofs.Laws.Advance.{Turning, stack_some, asking_pause, pause_unfinished}

-- an effect that asks has not ended its manager
pub asking_lasts : (e : Effect) → is_asking e ≡ true → is_over e ≡ false
asking_lasts Nothing a = refl
asking_lasts End a = absurd (not_both false a refl)
asking_lasts (Write object field value) a = refl
asking_lasts (Read object field) a = refl
asking_lasts Change a = refl
asking_lasts (Fork level object name parameter) a = refl
asking_lasts (Call object way parameter) a = refl
asking_lasts (Pop reply) a = refl

done_tall : (e : Effect) (h : ℕ) → is_done e ≡ true → Tall e h
done_tall Nothing h d = tt
done_tall End h d = tt
done_tall (Write object field value) h d = tt
done_tall (Read object field) h d = tt
done_tall Change h d = tt
done_tall (Fork level object name parameter) h d = tt
done_tall (Call object way parameter) h d = absurd (not_both false d refl)
done_tall (Pop reply) h d = absurd (not_both false d refl)

-- where nothing is left to do to the frames of a core that runs, its pops are to come
plain-settled : (p : Program) (c : Core) (gs : List defined.Frame) (x : Effect) → is_done x ≡ true → is_over x ≡ false → is_asking x ≡ false → settled_of p c gs x ≡ concluded p (standing c gs)
plain-settled p c gs Nothing d o a = refl
plain-settled p c gs End d o a = absurd (not_both true refl o)
plain-settled p c gs (Write object field value) d o a = refl
plain-settled p c gs (Read object field) d o a = absurd (not_both true refl a)
plain-settled p c gs Change d o a = absurd (not_both true refl a)
plain-settled p c gs (Fork level object name parameter) d o a = refl
plain-settled p c gs (Call object way parameter) d o a = absurd (not_both false d refl)
plain-settled p c gs (Pop reply) d o a = absurd (not_both false d refl)

over_settled : (p : Program) (c : Core) (gs : List defined.Frame) (x : Effect) → is_over x ≡ true → settled_of p c gs x ≡ bare c (stack_of c.height (frame_of c.top) gs)
over_settled p c gs Nothing o = absurd (not_both false o refl)
over_settled p c gs End o = refl
over_settled p c gs (Write object field value) o = absurd (not_both false o refl)
over_settled p c gs (Read object field) o = absurd (not_both false o refl)
over_settled p c gs Change o = absurd (not_both false o refl)
over_settled p c gs (Fork level object name parameter) o = absurd (not_both false o refl)
over_settled p c gs (Call object way parameter) o = absurd (not_both false o refl)
over_settled p c gs (Pop reply) o = absurd (not_both false o refl)

asking-settled : (p : Program) (c : Core) (gs : List defined.Frame) (x : Effect) → is_asking x ≡ true → settled_of p c gs x ≡ standing c gs
asking-settled p c gs Nothing a = absurd (not_both false a refl)
asking-settled p c gs End a = absurd (not_both false a refl)
asking-settled p c gs (Write object field value) a = absurd (not_both false a refl)
asking-settled p c gs (Read object field) a = refl
asking-settled p c gs Change a = refl
asking-settled p c gs (Fork level object name parameter) a = absurd (not_both false a refl)
asking-settled p c gs (Call object way parameter) a = absurd (not_both false a refl)
asking-settled p c gs (Pop reply) a = absurd (not_both false a refl)

-- the top, at its script's end, pops to the frame below it
late_comes : (s : List ℕ) (c r : Core) (w : Waiting) (gs : List defined.Frame) → is_end (next_step (program_of s) (frame_of c.top)) ≡ true → is_done c.effect ≡ true → is_over c.effect ≡ false → is_asking c.effect ≡ false → Popped s c w None r → comes_to (program_of s) (causing r c.effect) gs ≡ comes_to (program_of s) c (aside_of w ∷ gs)
unfolding comes_to
late_comes s c r w gs e d o a h =
    ap (λ m. record { manager = m; effect = effect_of c.effect })
    (plain-settled p (causing r c.effect) gs c.effect d o a
    ∙ ap (λ x. concluded p (standing x gs)) h.core_is
    ∙ ap (λ f. concluded p (bare c (f ∷ gs))) (h.top_is ∙ ap (with_register (aside_of w) (into_of c.top.answer)) (either_same (returns_of c.top.answer) None))
    ∙ sym (concluded_pop p (standing c (aside_of w ∷ gs)) (frame_of c.top) (aside_of w) gs e)
    ∙ sym (plain-settled p c (aside_of w ∷ gs) c.effect d o a))
  where
    p : Program
    p = program_of s

pub lowering_start : (s masks index current cache : List ℕ) (all unchanged : Bool) (limit : ℕ) (c₀ : Core) (ws₀ : List Waiting) (c : Core) (ws : List Waiting) → Turning s masks index current cache all unchanged limit c₀ ws₀ c ws → is_done c.effect ≡ true → Lowering s index ws c c
lowering_start s masks index current cache all unchanged limit c₀ ws₀ c ws t d =
    record {
      indexed = t.able.indexed;
      same = refl;
      sits = t.sits;
      done = d;
      room = t.room;
      each = t.each;
      effect_is = refl;
      steps_are = refl;
      level_is = refl;
      first_is = refl;
      asks = λ _. refl;
      unfinished = λ a.
          let x = t.asks a in
          let waits = ap is_pause x.1 ∙ asking_pause c.effect a in
          (unfinished_there s t.able.indexed.accepted c.top t.sits.top (pause_unfinished s current cache all unchanged c.level c.top.object (next_step (program_of s) (frame_of c.top)) waits), omega (arith, x.0, t.limited.1));
    }

module _ (s index : List ℕ) (ws : List Waiting) (c₀ c : Core) (t : Lowering s index ws c₀ c) where
  abbrev p : Program
  p = program_of s

  -- a core that runs has not been ended, and has a frame
  not_over : is_running c.ending ≡ true → is_over c.effect ≡ false
  not_over r = elim (truth (is_over c.effect)) [
    | holds o ↦ absurd (not_both (is_running c.ending) r (t.sits.over o))
    | fails o ↦ o
  ]

  -- one more pop
  module _ (q : (is_running c.ending && (leb c.top.count c.top.next && ltb 1 c.height)) ≡ true) where
    run : is_running c.ending ≡ true
    run = and_left (is_running c.ending) (leb c.top.count c.top.next && ltb 1 c.height) q

    rest : (leb c.top.count c.top.next && ltb 1 c.height) ≡ true
    rest = and_right (is_running c.ending) (leb c.top.count c.top.next && ltb 1 c.height) q

    there : leb c.top.count c.top.next ≡ true
    there = and_left (leb c.top.count c.top.next) (ltb 1 c.height) rest

    pub lowering_two : 1 < c.height
    lowering_two = ltb-true 1 c.height (and_right (leb c.top.count c.top.next) (ltb 1 c.height) rest)

    pub lowering_waits : Waits s (aside_of (get_or ws (c.height - 2) no_waiting))
    lowering_waits = t.each (c.height - 2) (let two = lowering_two in omega arith)

    not_asking : is_asking c.effect ≡ false
    not_asking = elim (truth (is_asking c.effect)) [
      | holds a ↦ absurd (omega (arith, (t.unfinished a).0, leb-true c.top.count c.top.next there))
      | fails a ↦ a
    ]

    pub lowering_on : (r : Core) → Popped s c (get_or ws (c.height - 2) no_waiting) None r → (r' : Core) → r' ≡ causing r c.effect → Lowering s index ws c₀ r'
    lowering_on r h r' is =
        let two = lowering_two in
        let e : r' ≡ causing (restacked c (c.height - 1) r.top) c.effect = is ∙ ap (λ z. causing z c.effect) h.core_is in
        let height : r'.height ≡ c.height - 1 = ap (λ z. z.height) e in
        let effect' : r'.effect ≡ c.effect = ap (λ z. z.effect) e in
        let over' : is_over r'.effect ≡ false = ap is_over effect' ∙ not_over run in
        let asking' : is_asking r'.effect ≡ false = ap is_asking effect' ∙ not_asking in
        let done' : is_done r'.effect ≡ true = ap is_done effect' ∙ t.done in
        let gs = below ws (c.height - 1 - 1) in
        record {
          indexed = t.indexed;
          same = ap (λ k. comes_to p r' (below ws (k - 1))) height
              ∙ ap (λ z. comes_to p z gs) is
              ∙ late_comes s c r (get_or ws (c.height - 2) no_waiting) gs (at_end s t.indexed.accepted c.top t.sits.top there) t.done (not_over run) not_asking h
              ∙ ap (comes_to p c) (sym (below-popped ws c.height two))
              ∙ t.same;
          sits = record {
            level = rw (ap (λ z. z.level) e) t.sits.level;
            low = omega (arith, height, t.sits.low);
            made = rw (ap (λ z. z.steps) e) t.sits.made;
            wrote = rw (ap (λ z. z.writes) e) t.sits.wrote;
            forked = rw (ap (λ z. z.forks) e) t.sits.forked;
            fits = rw (ap (λ z. z.first) e) t.sits.fits;
            top = rw (ap (λ z. z.top) e) h.top_placed;
            over = λ o. absurd (not_both (is_over r'.effect) o over');
            runs = λ _. rw (ap (λ z. z.ending) e) run;
            some = λ _. omega (arith, height, two);
            tall = done_tall r'.effect r'.height done';
          };
          done = done';
          room = t.room;
          each = λ k hk. t.each k (omega (arith, hk, height));
          effect_is = effect' ∙ t.effect_is;
          steps_are = ap (λ z. z.steps) e ∙ t.steps_are;
          level_is = ap (λ z. z.level) e ∙ t.level_is;
          first_is = ap (λ z. z.first) e ∙ t.first_is;
          asks = λ a. absurd (not_both (is_asking r'.effect) a asking');
          unfinished = λ a. absurd (not_both (is_asking r'.effect) a asking');
        }

    pub lowering_less : (r : Core) → Popped s c (get_or ws (c.height - 2) no_waiting) None r → (r' : Core) → r' ≡ causing r c.effect → r'.height < c.height
    lowering_less r h r' is =
        let two = lowering_two in
        let height : r'.height ≡ c.height - 1 = ap (λ z. z.height) (is ∙ ap (λ z. causing z c.effect) h.core_is) in
        omega (arith, height, two)

  -- no pop is left
  module _ (q : (is_running c.ending && (leb c.top.count c.top.next && ltb 1 c.height)) ≡ false) where
    abbrev gs : List defined.Frame
    gs = below ws (c.height - 1)

    -- how a core is closed: it had ended; its first frame pops; it runs on; its steps are used up
    pub data Close : Type 0 where
      was_over : is_running c.ending ≡ false → closed_as c ≡ c → Close
      finishes : is_running c.ending ≡ true → c.height ≡ 1 → is_end (next_step p (frame_of c.top)) ≡ true → closed_as c ≡ stood_as c 0 Finished None → Close
      runs_on : is_running c.ending ≡ true → c.top.next < c.top.count → c.steps < max_script_steps → closed_as c ≡ c → Close
      spent : is_running c.ending ≡ true → c.top.next < c.top.count → max_script_steps ≤ c.steps → closed_as c ≡ stood_as c c.height OutOfSteps c.reply → Close

    has_frame : is_running c.ending ≡ true → 0 < c.height
    has_frame r = t.sits.some (not_over r)

    pub close : Close
    close = elim (truth (is_running c.ending)) [
      | fails r ↦ was_over r (over_closed c r)
      | holds r ↦ elim (truth (leb c.top.count c.top.next)) [
        | holds h ↦
            let low : ltb 1 c.height ≡ false = rw (r, h) at q in
            finishes r (omega (arith, ltb-false 1 c.height low, has_frame r)) (at_end s t.indexed.accepted c.top t.sits.top h) (closed_last c r h)
        | fails h ↦ elim (truth (ltb c.steps max_script_steps)) [
          | holds k ↦
              let few = ltb-true c.steps max_script_steps k in
              runs_on r (leb-false c.top.count c.top.next h) few (closed_unfinished c r h few)
          | fails k ↦
              let most = ltb-false c.steps max_script_steps k in
              spent r (leb-false c.top.count c.top.next h) most (closed_out c r h most)
        ]
      ]
    ]

    -- the manager that is put together again is what the core comes to
    abbrev put : Core → Manager
    put r = record { core = r; waiting = ws }

    settled_is : Close → manager_of (put (closed_as c)) ≡ settled_of p c gs c.effect
    unfolding manager_of below
    settled_is (was_over r e) = elim (truth (is_over c.effect)) [
      | holds o ↦ ap (λ z. manager_of (put z)) e ∙ sym (over_settled p c gs c.effect o)
      | fails o ↦ absurd (not_both (is_running c.ending) (t.sits.runs o) r)
    ]
    settled_is (finishes r one h e) = elim (truth (is_asking c.effect)) [
      | holds a ↦ absurd (not_both (is_end (next_step p (frame_of c.top))) h (not_end s t.indexed.accepted c.top t.sits.top (t.unfinished a).0))
      | fails a ↦
          ap (λ z. manager_of (put z)) e
          ∙ sym (plain-settled p c gs c.effect t.done (not_over r) a ∙ ap (λ n. concluded p (standing c (below ws (n - 1)))) one ∙ concluded_last p (standing c []) (frame_of c.top) h)
    ]
    settled_is (runs_on r unfinished few e) = elim (truth (is_asking c.effect)) [
      | holds a ↦
          ap (λ z. manager_of (put z)) e
          ∙ ap (bare c) (stack_some c.height (frame_of c.top) gs (has_frame r))
          ∙ sym (asking-settled p c gs c.effect a)
      | fails a ↦
          ap (λ z. manager_of (put z)) e
          ∙ ap (bare c) (stack_some c.height (frame_of c.top) gs (has_frame r))
          ∙ sym (plain-settled p c gs c.effect t.done (not_over r) a ∙ no_pops p c gs r few (not_end s t.indexed.accepted c.top t.sits.top unfinished))
    ]
    settled_is (spent r unfinished most e) = elim (truth (is_asking c.effect)) [
      | holds a ↦ absurd (omega (arith, most, (t.unfinished a).1))
      | fails a ↦
          ap (λ z. manager_of (put z)) e
          ∙ ap (λ fs. bare (stood_as c c.height OutOfSteps c.reply) fs) (stack_some c.height (frame_of c.top) gs (has_frame r))
          ∙ sym (plain-settled p c gs c.effect t.done (not_over r) a ∙ concluded_out p (standing c gs) (frame_of c.top) gs most (not_end s t.indexed.accepted c.top t.sits.top unfinished))
    ]

    -- what closing leaves as it was
    pub record Left (r : Core) : Type 0 where
      pub level : r.level ≡ c.level
      pub first : r.first ≡ c.first
      pub steps : r.steps ≡ c.steps
      pub writes : r.writes ≡ c.writes
      pub forks : r.forks ≡ c.forks
      pub top : r.top ≡ c.top
      pub effect : r.effect ≡ c.effect
      pub lower : r.height ≤ c.height
      pub runs : is_running r.ending ≡ true → (0 < r.height) × ((r.top.next < r.top.count) × (r.steps < max_script_steps))
      pub stays : is_running r.ending ≡ true → r ≡ c

    -- one with another number of frames, ending and reply is left so
    left_as : (r : Core) (h : ℕ) (e : Ending) (v : Value) → r ≡ stood_as c h e v → h ≤ c.height
        → (is_running e ≡ true → (0 < h) × ((c.top.next < c.top.count) × (c.steps < max_script_steps))) → (is_running e ≡ true → stood_as c h e v ≡ c) → Left r
    left_as r h e v x low live same =
        let ending : is_running r.ending ≡ is_running e = ap (λ z. is_running z.ending) x in
        record {
          level = ap (λ z. z.level) x;
          first = ap (λ z. z.first) x;
          steps = ap (λ z. z.steps) x;
          writes = ap (λ z. z.writes) x;
          forks = ap (λ z. z.forks) x;
          top = ap (λ z. z.top) x;
          effect = ap (λ z. z.effect) x;
          lower = omega (arith, ap (λ z. z.height) x, low);
          runs = λ y. rw x (live (sym ending ∙ y));
          stays = λ y. x ∙ same (sym ending ∙ y);
        }

    left_by : (r : Core) → Close → closed_as c ≡ r → Left r
    left_by r (was_over had e) is =
        left_as r c.height c.ending c.reply (sym is ∙ e) (omega arith) (λ y. absurd (not_both (is_running c.ending) y had)) (λ _. refl)
    left_by r (finishes run one h e) is =
        left_as r 0 Finished None (sym is ∙ e) (omega arith) (λ y. absurd (not_both false y refl)) (λ y. absurd (not_both false y refl))
    left_by r (runs_on run unfinished few e) is =
        left_as r c.height c.ending c.reply (sym is ∙ e) (omega arith) (λ _. (has_frame run, (unfinished, few))) (λ _. refl)
    left_by r (spent run unfinished most e) is =
        left_as r c.height OutOfSteps c.reply (sym is ∙ e) (omega arith) (λ y. absurd (not_both false y refl)) (λ y. absurd (not_both false y refl))

    module _ (r : Core) (is : r ≡ closed_as c) where
      pub left : Left r
      left = left_by r close (sym is)

      pub closed_comes : stepped_of (put r) ≡ comes_to p c gs
      unfolding comes_to
      closed_comes =
          ap₂ (λ m x. record { manager = m; effect = effect_of x }) (ap (λ z. manager_of (put z)) is ∙ settled_is close) left.effect

      pub closed_held : WellFormed s (put r)
      closed_held =
          let x = left in
          record {
            level = rw x.level t.sits.level;
            low = omega (arith, x.lower, t.sits.low);
            made = rw x.steps t.sits.made;
            wrote = rw x.writes t.sits.wrote;
            forked = rw x.forks t.sits.forked;
            fits = rw x.first t.sits.fits;
            top = rw x.top t.sits.top;
            room = t.room;
            each = λ k hk. t.each k (omega (arith, hk, x.lower));
            live = λ y. (x.runs y).0;
            few = λ y. (x.runs y).1.1;
            unfinished = λ y. (x.runs y).1.0;
          }

      -- one that asks runs on as it was
      pub closed_asks : is_asking c.effect ≡ true → r ≡ c
      closed_asks a =
          let over : is_over c.effect ≡ false = asking_lasts c.effect a in
          let run = t.sits.runs over in
          let g = t.unfinished a in
          is ∙ closed_unfinished c run (lt-leb c.top.count c.top.next g.0) g.1

      -- and one that had ended is as it was
      pub closed_over : is_running c.ending ≡ false → r ≡ c
      closed_over n = is ∙ over_closed c n
