-- The loops of the code's manager: what holds each time round, and at their end. Assumes nothing.
use Prim.Native.Nat.{ℕ, zero, suc, ◌+◌, ◌-◌, ◌*◌, ◌≤◌, ◌<◌}
use mathlib.Core.Path.{◌≡◌, refl, sym, ◌∙◌, ap, subst}
use mathlib.Core.Bool.{Bool, true, false, cond, ◌&&◌}
use mathlib.Core.List.{List, ◌∷◌}
use native.Mathlib.Decide.{ℕ_discrete}
use native.Mathlib.Omega.{arith}
use borrow.Author.Tests.{lt-ltb, ltb-true}
use lib.Dec.{eqb, ltb}
use lib.ListN.{length, get_or, set, length-set}
use lib.Seq.{get_or-set_same, get_or-set_other}
use Rattle.lists.proofs.Laws.Range.{not_both, and_left, and_right}
use Rattle.session.specs.Limits.{fields}
use Rattle.session.specs.declared.Step.{Step}
use Rattle.session.specs.declared.Step.TheVariants as op
use Rattle.session.specs.Program.{Program, program_of}
use Rattle.session.specs.Value.{Value}
use Rattle.std.specs.Prelude.{Some}
use Rattle.lists.proofs.Laws.Lists.{holds, fails, truth}
use Rattle.scripts.specs.Limits.{max_frames, max_script_steps}
use Rattle.scripts.specs.Ending.{is_running}
use Rattle.scripts.specs.Effect as effect
use Rattle.scripts.specs.State as defined
use Rattle.scripts.specs.Manager.{is_end, next_step}
use Rattle.fields.specs.Reads.{script_found, is_own, shown_in, Agrees}
use Rattle.frames.specs.Frames.{frame_of, aside_of, no_waiting, aside_from, below, Placed, Waits}
use Rattle.frames.specs.declared.Waiting.{Waiting}
use Rattle.frames.proofs.Laws.Frames.{set_aside_same, not_end}
use Rattle.cores.specs.Core.{bare, standing, stack_of, effect_of, settled_of, comes_to, is_over, is_asking, is_nothing, is_done, Tall, Present, Sits}
use Rattle.cores.specs.Moves.{causing, ending_as, restacked, Pushed, Popped}
use Rattle.operations.specs.Operations.{Operable, is_pause, pause_on, pause_of, asking, Operated}
use Rattle.cores.specs.declared.Core.{Core}
use Rattle.cores.specs.declared.Effect.{Effect}
use Rattle.cores.specs.declared.Effect.TheVariants.{Nothing, End, Write, Read, Change, Fork, Call, Pop}
use Rattle.managers.specs.Manager.{manager_of}
use Rattle.managers.specs.Steps.{Leads, internal, InternalSteps, waiting_frames, Advanceable, is_paused}
use Rattle.managers.specs.declared.Manager.{Manager}
use Rattle.managers.proofs.Laws.Leads.{leads_alike}
use Rattle.managers.proofs.Laws.Turns.{below_length, below-pushed, below-popped, comes_alike, internal_comes, no_pops, push_comes, pop_comes, turn_leads}

-- a way to read: what the words at hand say of fields and scripts
abbrev pub saying_of : List ℕ → List ℕ → List ℕ → Bool → Bool → ℕ → ℕ → ℕ → Value
saying_of s current cache all unchanged level o k =
    cond (ltb k fields) (shown_in s current cache all level o k) (Some (script_found current cache (is_own s all level o) unchanged o))

pub saying_agrees : (s current cache : List ℕ) (all unchanged : Bool) (level : ℕ) → Agrees s current cache all unchanged level (saying_of s current cache all unchanged level)
saying_agrees s current cache all unchanged level =
    record { shown = λ o k ho hk e. rw (lt-ltb k fields hk) refl; existing = λ o ho e. refl }

-- a stack of some frames has its top
pub stack_some : (h : ℕ) (f : defined.Frame) (gs : List defined.Frame) → 0 < h → stack_of h f gs ≡ f ∷ gs
stack_some zero f gs some = absurd (omega arith)
stack_some (suc h) f gs some = refl

-- what holds each time round: script steps led here from the manager with core c₀ and the frames ws₀
pub record Turning (s masks index current cache : List ℕ) (all unchanged : Bool) (limit : ℕ) (c₀ : Core) (ws₀ : List Waiting) (c : Core) (ws : List Waiting) : Type 0 where
  pub able : Advanceable s masks index current cache (record { core = c₀; waiting = ws₀ })
  pub limited : (c₀.steps < limit) × (limit ≤ max_script_steps)
  pub leads : (read : ℕ → ℕ → Value) → Agrees s current cache all unchanged c₀.level read → Leads (program_of s) read (manager_of (record { core = c₀; waiting = ws₀ })) (comes_to (program_of s) c (below ws (c.height - 1)))
  pub sits : Sits s c
  pub present : Present s c.effect
  pub room : length ws ≡ waiting_frames
  pub each : (k : ℕ) → k + 1 < c.height → Waits s (aside_of (get_or ws k no_waiting))
  pub asks : is_asking c.effect ≡ true → (c.steps < limit) × (pause_of s current cache all unchanged c ≡ asking c.effect)
  pub few : c.steps ≤ limit
  pub grown : c₀.steps ≤ c.steps
  pub early : c.steps ≡ c₀.steps → is_paused s current cache all unchanged c₀ ≡ false → (c.effect ≡ Nothing) × (frame_of c.top ≡ frame_of c₀.top)

-- each time round makes this less: a step more, a frame less, or something left to do
abbrev pub turns_left : Core → ℕ
turns_left c = 2 * (max_script_steps - c.steps) + c.height + cond (is_nothing c.effect) 1 0

nothing_over : (e : Effect) → e ≡ Nothing → is_over e ≡ false
nothing_over e q = rw q refl

asking_not_nothing : (e : Effect) → e ≡ Nothing → is_asking e ≡ true → ⊥
asking_not_nothing e q a = not_both (is_asking e) a (ap is_asking q)

start_internal : (p : Program) (read : ℕ → ℕ → Value) (c : Core) (ws : List Waiting) → 0 < c.height → InternalSteps p read 0 (manager_of (record { core = c; waiting = ws })) (standing c (below ws (c.height - 1)))
unfolding InternalSteps manager_of
start_internal p read c ws some =
    ap (bare c) (stack_some c.height (frame_of c.top) (below ws (c.height - 1)) some)

-- what an ended core comes to is told by its stack
over_settled : (p : Program) (c : Core) (gs hs : List defined.Frame) → stack_of c.height (frame_of c.top) gs ≡ stack_of c.height (frame_of c.top) hs → (x : Effect) → is_over x ≡ true → settled_of p c gs x ≡ settled_of p c hs x
over_settled p c gs hs e Nothing o = absurd (not_both false o refl)
over_settled p c gs hs e End o = ap (bare c) e
over_settled p c gs hs e (Write object field value) o = absurd (not_both false o refl)
over_settled p c gs hs e (Read object field) o = absurd (not_both false o refl)
over_settled p c gs hs e Change o = absurd (not_both false o refl)
over_settled p c gs hs e (Fork level object name parameter) o = absurd (not_both false o refl)
over_settled p c gs hs e (Call object way parameter) o = absurd (not_both false o refl)
over_settled p c gs hs e (Pop reply) o = absurd (not_both false o refl)

over_comes : (p : Program) (c : Core) (gs hs : List defined.Frame) → is_over c.effect ≡ true → stack_of c.height (frame_of c.top) gs ≡ stack_of c.height (frame_of c.top) hs → comes_to p c gs ≡ comes_to p c hs
unfolding comes_to
over_comes p c gs hs o e =
    ap (λ m. record { manager = m; effect = effect_of c.effect }) (over_settled p c gs hs e c.effect o)

same_height : (p : Program) (c r : Core) (ws : List Waiting) → r.height ≡ c.height → comes_to p r (below ws (c.height - 1)) ≡ comes_to p r (below ws (r.height - 1))
same_height p c r ws e = ap (λ h. comes_to p r (below ws (h - 1))) (sym e)

-- a core that has not become lower, or has ended, comes to the same above as many frames as before
pub same_frames : (p : Program) (c r : Core) (ws : List Waiting) → ((r.height ≡ 0 → ⊥) → r.height ≡ c.height) → (is_over r.effect ≡ false → r.height ≡ c.height) → comes_to p r (below ws (c.height - 1)) ≡ comes_to p r (below ws (r.height - 1))
same_frames p c r ws flat tall = elim (ℕ_discrete r.height 0) [
  | no h ↦ same_height p c r ws (flat h)
  | yes z ↦ elim (truth (is_over r.effect)) [
    | holds w ↦ over_comes p r (below ws (c.height - 1)) (below ws (r.height - 1)) w (rw z refl)
    | fails w ↦ same_height p c r ws (tall w)
  ]
]

-- is a frame to be made
abbrev is_call : Effect → Bool
is_call Nothing = false
is_call End = false
is_call (Write object field value) = false
is_call (Read object field) = false
is_call Change = false
is_call (Fork level object name parameter) = false
is_call (Call object way parameter) = true
is_call (Pop reply) = false

-- an effect that asks is not nothing, and makes no frame
asking_not : (e : Effect) → is_asking e ≡ true → is_nothing e ≡ false
asking_not Nothing a = absurd (not_both false a refl)
asking_not End a = refl
asking_not (Write object field value) a = refl
asking_not (Read object field) a = refl
asking_not Change a = refl
asking_not (Fork level object name parameter) a = refl
asking_not (Call object way parameter) a = refl
asking_not (Pop reply) a = refl

asking_no_call : (e : Effect) → is_asking e ≡ true → is_call e ≡ false
asking_no_call Nothing a = refl
asking_no_call End a = refl
asking_no_call (Write object field value) a = refl
asking_no_call (Read object field) a = refl
asking_no_call Change a = refl
asking_no_call (Fork level object name parameter) a = refl
asking_no_call (Call object way parameter) a = absurd (not_both false a refl)
asking_no_call (Pop reply) a = refl

-- what asks waits
pub asking_pause : (e : Effect) → is_asking e ≡ true → is_pause (asking e) ≡ true
asking_pause Nothing a = absurd (not_both false a refl)
asking_pause End a = absurd (not_both false a refl)
asking_pause (Write object field value) a = absurd (not_both false a refl)
asking_pause (Read object field) a = refl
asking_pause Change a = refl
asking_pause (Fork level object name parameter) a = absurd (not_both false a refl)
asking_pause (Call object way parameter) a = absurd (not_both false a refl)
asking_pause (Pop reply) a = absurd (not_both false a refl)

-- no script's end waits
pub pause_unfinished : (s current cache : List ℕ) (all unchanged : Bool) (level o : ℕ) (i : Step) → is_pause (pause_on s current cache all unchanged level o i) ≡ true → is_end i ≡ false
unfolding pause_on
pause_unfinished s current cache all unchanged level o op.End w = absurd (not_both false w refl)
pause_unfinished s current cache all unchanged level o (op.Set a n) w = refl
pause_unfinished s current cache all unchanged level o (op.Add a b) w = refl
pause_unfinished s current cache all unchanged level o (op.Jump a b) w = refl
pause_unfinished s current cache all unchanged level o (op.Read a b) w = refl
pause_unfinished s current cache all unchanged level o (op.Write a b) w = refl
pause_unfinished s current cache all unchanged level o (op.Send a b c) w = refl
pause_unfinished s current cache all unchanged level o (op.Quit a) w = refl
pause_unfinished s current cache all unchanged level o (op.Create a) w = refl
pause_unfinished s current cache all unchanged level o op.Withdraw w = refl

pub pause_same : (s current cache : List ℕ) (all unchanged : Bool) (c d : Core) → c.level ≡ d.level → frame_of c.top ≡ frame_of d.top → pause_of s current cache all unchanged c ≡ pause_of s current cache all unchanged d
pause_same s current cache all unchanged c d l f =
    ap (λ i. pause_on s current cache all unchanged i (frame_of c.top).object (next_step (program_of s) (frame_of c.top))) l
    ∙ ap (λ g. pause_on s current cache all unchanged d.level g.object (next_step (program_of s) g)) f

-- how an operation turns out: a script step is made, the script's end is met, or the step waits
data Turned (s current cache : List ℕ) (all unchanged : Bool) (c r : Core) : Type 0 where
  stepped_on : r.steps ≡ c.steps + 1 → Turned s current cache all unchanged c r
  ended : is_end (next_step (program_of s) (frame_of c.top)) ≡ true → r ≡ ending_as c → Turned s current cache all unchanged c r
  asked : r ≡ causing c r.effect → is_asking r.effect ≡ true → is_paused s current cache all unchanged c ≡ true → Turned s current cache all unchanged c r

ending_steps : (c : Core) → (ending_as c).steps ≡ c.steps
ending_steps c = elim (truth (eqb c.height 1)) [
  | holds e ↦ rw e refl
  | fails e ↦ rw e refl
]

turned_grows : (s current cache : List ℕ) (all unchanged : Bool) (c r : Core) → Turned s current cache all unchanged c r → (c.steps ≤ r.steps) × (r.steps ≤ c.steps + 1)
turned_grows s current cache all unchanged c r (stepped_on n) = (omega (arith, n), omega (arith, n))
turned_grows s current cache all unchanged c r (ended x e) =
    let n = ap (λ z. z.steps) e ∙ ending_steps c in
    (omega (arith, n), omega (arith, n))
turned_grows s current cache all unchanged c r (asked e a b) =
    let n = ap (λ z. z.steps) e in
    (omega (arith, n), omega (arith, n))

-- a core with another number of frames and another top sits as well
restacked_sits : (s : List ℕ) (c r : Core) (h : ℕ) → r ≡ restacked c h r.top → Placed s r.top → Sits s c → is_over c.effect ≡ false → 0 < h → h ≤ max_frames → Sits s r
restacked_sits s c r h e top sits over some low =
    let x = ap (λ z. z.effect) e in
    record {
      level = rw (ap (λ z. z.level) e) sits.level;
      low = rw (ap (λ z. z.height) e) low;
      made = rw (ap (λ z. z.steps) e) sits.made;
      wrote = rw (ap (λ z. z.writes) e) sits.wrote;
      forked = rw (ap (λ z. z.forks) e) sits.forked;
      fits = rw (ap (λ z. z.first) e) sits.fits;
      top = top;
      over = λ o. absurd (not_both (is_over r.effect) o (nothing_over r.effect x));
      runs = λ _. rw (ap (λ z. z.ending) e) (sits.runs over);
      some = λ _. rw (ap (λ z. z.height) e) some;
      tall = rw x tt;
    }

-- turns make less, by how they turn out
one_or_none : (b : Bool) → cond b 1 0 ≤ 1
one_or_none true = omega arith
one_or_none false = omega arith

less_done : (s current cache : List ℕ) (all unchanged : Bool) (c r : Core) → c.steps < max_script_steps → 0 < c.height → r.height ≤ c.height → is_done r.effect ≡ true → Turned s current cache all unchanged c r → turns_left r < 2 * (max_script_steps - c.steps) + c.height + 1
less_done s current cache all unchanged c r few some lower d (stepped_on n) =
    omega (arith, few, lower, n, one_or_none (is_nothing r.effect))
less_done s current cache all unchanged c r few some lower d (ended x e) = elim (truth (eqb c.height 1)) [
  | holds one ↦ rw (e, one) (omega (arith, some))
  | fails more ↦ absurd (not_both (is_done r.effect) d (rw (e, more) refl))
]
less_done s current cache all unchanged c r few some lower d (asked e a b) =
    let quiet : is_nothing r.effect ≡ false = asking_not r.effect a in
    rw quiet (omega (arith, ap (λ z. z.steps) e, ap (λ z. z.height) e))

less_pushed : (s current cache : List ℕ) (all unchanged : Bool) (c r : Core) → c.steps < max_script_steps → is_call r.effect ≡ true → r.height ≡ c.height → Turned s current cache all unchanged c r → (left : ℕ) → left ≡ 2 * (max_script_steps - r.steps) + (r.height + 1) + 1 → left < 2 * (max_script_steps - c.steps) + c.height + 1
less_pushed s current cache all unchanged c r few d still (stepped_on n) left is = omega (arith, few, still, n, is)
less_pushed s current cache all unchanged c r few d still (ended x e) left is = elim (truth (eqb c.height 1)) [
  | holds one ↦ absurd (not_both (is_call r.effect) d (rw (e, one) refl))
  | fails more ↦ absurd (not_both (is_call r.effect) d (rw (e, more) refl))
]
less_pushed s current cache all unchanged c r few d still (asked e a b) left is =
    absurd (not_both (is_call r.effect) d (asking_no_call r.effect a))

less_popped : (s current cache : List ℕ) (all unchanged : Bool) (c r : Core) → c.steps < max_script_steps → 1 < r.height → r.height ≡ c.height → Turned s current cache all unchanged c r → (left : ℕ) → left ≡ 2 * (max_script_steps - r.steps) + (r.height - 1) + 1 → left < 2 * (max_script_steps - c.steps) + c.height + 1
less_popped s current cache all unchanged c r few two still (stepped_on n) left is = omega (arith, few, two, still, n, is)
less_popped s current cache all unchanged c r few two still (ended x e) left is =
    let n = ap (λ z. z.steps) e ∙ ending_steps c in
    omega (arith, few, two, still, n, is)
less_popped s current cache all unchanged c r few two still (asked e a b) left is =
    let n = ap (λ z. z.steps) e in
    omega (arith, few, two, still, n, is)

module _ (s masks index current cache : List ℕ) (all unchanged : Bool) (limit : ℕ) (c₀ : Core) (ws₀ : List Waiting) where
  abbrev p : Program
  p = program_of s

  abbrev m₀ : Manager
  m₀ = record { core = c₀; waiting = ws₀ }

  pub turning_start : Advanceable s masks index current cache m₀ → (c₀.steps < limit) × (limit ≤ max_script_steps) → c₀.effect ≡ Nothing → Turning s masks index current cache all unchanged limit c₀ ws₀ c₀ ws₀
  turning_start a l q =
      let gs = below ws₀ (c₀.height - 1) in
      let h = a.held in
      let run = a.running in
      let here : comes_to p c₀ gs ≡ record { manager = standing c₀ gs; effect = effect.Nothing } =
      internal_comes p c₀ gs q
      ∙ ap (λ n. record { manager = n; effect = effect.Nothing }) (no_pops p c₀ gs run (h.few run) (not_end s a.indexed.accepted c₀.top h.top (h.unfinished run))) in
      record {
        able = a;
        limited = l;
        leads = λ read see. subst (Leads p read (manager_of m₀)) (sym here) (internal 0 (start_internal p read c₀ ws₀ (h.live run)) refl);
        sits = record {
          level = h.level;
          low = h.low;
          made = h.made;
          wrote = h.wrote;
          forked = h.forked;
          fits = h.fits;
          top = h.top;
          over = λ o. absurd (not_both (is_over c₀.effect) o (nothing_over c₀.effect q));
          runs = λ _. run;
          some = λ _. h.live run;
          tall = rw q tt;
        };
        present = rw q tt;
        room = h.room;
        each = h.each;
        asks = λ a. absurd (asking_not_nothing c₀.effect q a);
        few = omega (arith, l.0);
        grown = omega arith;
        early = λ _ _. (q, refl);
      }

  module _ (c : Core) (ws : List Waiting) (t : Turning s masks index current cache all unchanged limit c₀ ws₀ c ws) where
    -- what the words at hand say is a way to read
    abbrev shown : ℕ → ℕ → Value
    shown = saying_of s current cache all unchanged c₀.level

    at_hand : Agrees s current cache all unchanged c₀.level shown
    at_hand = saying_agrees s current cache all unchanged c₀.level

    alike : (c.level ≡ c₀.level) × (c.first ≡ c₀.first)
    unfolding manager_of
    alike =
        let a = leads_alike p shown (manager_of m₀) (comes_to p c (below ws (c.height - 1))) (t.leads shown at_hand) in
        let b = comes_alike p c (below ws (c.height - 1)) in
        (sym b.0 ∙ a.0, sym b.1 ∙ a.1)

    pub turning_level : c.level ≡ c₀.level
    turning_level = alike.0

    pub turning_first : c.first ≡ c₀.first
    turning_first = alike.1

    pub turning_operable : c.effect ≡ Nothing → c.steps < limit → Operable s masks current cache c
    turning_operable q l =
        record {
          leveled = t.able.leveled;
          fields_there = t.able.fields_there;
          cache_there = t.able.cache_there;
          current_scripted = t.able.current_scripted;
          cache_scripted = t.able.cache_scripted;
          sits = t.sits;
          internal = q;
          few = omega (arith, l, t.limited.1);
        }

    some : c.effect ≡ Nothing → 0 < c.height
    some q = t.sits.some (nothing_over c.effect q)

    enough : c.effect ≡ Nothing → suc (length (below ws (c.height - 1))) ≡ c.height
    enough q = omega (arith, below_length ws (c.height - 1), some q)

    -- an operation was made
    module _ (q : c.effect ≡ Nothing) (l : c.steps < limit) (r : Core) (o : Operated s current cache all unchanged c r) where
      run : is_running c.ending ≡ true
      run = t.sits.runs (nothing_over c.effect q)

      made_here : (read : ℕ → ℕ → Value) → Agrees s current cache all unchanged c₀.level read → Leads p read (manager_of m₀) (comes_to p r (below ws (c.height - 1)))
      made_here read see =
          turn_leads s masks current cache all unchanged c r (turning_operable q l) o read (subst (λ i. Agrees s current cache all unchanged i read) (sym turning_level) see) (below ws (c.height - 1)) (enough q) (manager_of m₀) (t.leads read see)

      stands_here : comes_to p r (below ws (c.height - 1)) ≡ comes_to p r (below ws (r.height - 1))
      stands_here = same_frames p c r ws o.flat o.tall

      -- it made a script step, or met the script's end, or asks
      turned : Turned s current cache all unchanged c r
      turned = elim (truth (is_end (next_step p (frame_of c.top)))) [
        | holds e ↦ ended e (o.ends e)
        | fails e ↦ elim (truth (is_asking r.effect)) [
          | holds w ↦ let x = o.asks w in asked x.0 w (ap is_pause x.1 ∙ asking_pause r.effect w)
          | fails w ↦ stepped_on (o.steps e w).steps_are
        ]
      ]

      grows : (c.steps ≤ r.steps) × (r.steps ≤ c.steps + 1)
      grows = turned_grows s current cache all unchanged c r turned

      asks_here : is_asking r.effect ≡ true → (r.steps < limit) × (pause_of s current cache all unchanged r ≡ asking r.effect)
      asks_here w =
          let x = o.asks w in (
            omega (arith, l, ap (λ z. z.steps) x.0),
            pause_same s current cache all unchanged r c (ap (λ z. z.level) x.0) (ap (λ z. frame_of z.top) x.0) ∙ x.1,
          )

      -- no step is made only where the first asks
      no_early : r.steps ≡ c₀.steps → is_paused s current cache all unchanged c₀ ≡ false → ⊥
      no_early e shut =
          let back : c.steps ≡ c₀.steps = omega (arith, e, grows.0, t.grown) in
          let first = (t.early back shut).1 in
          let unfinished : is_end (next_step p (frame_of c.top)) ≡ false = ap (λ f. is_end (next_step p f)) first ∙ not_end s t.able.indexed.accepted c₀.top t.able.held.top (t.able.held.unfinished t.able.running) in
          by turned back first unfinished
        where
          by : Turned s current cache all unchanged c r → c.steps ≡ c₀.steps → frame_of c.top ≡ frame_of c₀.top → is_end (next_step (program_of s) (frame_of c.top)) ≡ false → ⊥
          by (stepped_on n) back first unfinished = omega (arith, e, n, t.grown)
          by (ended x y) back first unfinished = not_both (is_end (next_step (program_of s) (frame_of c.top))) x unfinished
          by (asked x y z) back first unfinished =
              not_both (is_paused s current cache all unchanged c) z (ap is_pause (pause_same s current cache all unchanged c c₀ turning_level first) ∙ shut)

      pub turning_made : Turning s masks index current cache all unchanged limit c₀ ws₀ r ws
      turning_made =
          record {
            able = t.able;
            limited = t.limited;
            leads = λ read see. subst (Leads p read (manager_of m₀)) stands_here (made_here read see);
            sits = o.sits;
            present = o.present;
            room = t.room;
            each = λ k h. t.each k (omega (arith, h, o.lower));
            asks = asks_here;
            few = omega (arith, grows.1, l);
            grown = omega (arith, grows.0, t.grown);
            early = λ e shut. absurd (no_early e shut);
          }

      -- each turn makes less
      pub turning_less : is_done r.effect ≡ true → turns_left r < turns_left c
      turning_less d = rw q (less_done s current cache all unchanged c r (turning_operable q l).few (some q) o.lower d turned)

      -- a frame made above the top
      module _ (x u : ℕ) (v : Value) (is : r.effect ≡ Call x u v) (w : Waiting) (aside : (w ≡ aside_from r.top) × Waits s (aside_of w)) (r' : Core) (h : Pushed s r x u v r') where
        still : r.height ≡ c.height
        still = o.tall (rw is refl)

        room_here : r.height < max_frames
        room_here = subst (λ e. Tall e r.height) is o.sits.tall

        pub turning_pushed : Turning s masks index current cache all unchanged limit c₀ ws₀ r' (set ws (r.height - 1) w)
        turning_pushed =
            let tr = turning_made in
            let height : r'.height ≡ r.height + 1 = ap (λ z. z.height) h.core_is in
            let steps : r'.steps ≡ r.steps = ap (λ z. z.steps) h.core_is in
            let quiet' : r'.effect ≡ Nothing = ap (λ z. z.effect) h.core_is in
            let has = some q in
            let gs = below ws (r.height - 1) in
            let frames : below (set ws (r.height - 1) w) (r'.height - 1) ≡ frame_of r.top ∷ gs =
            ap (λ k. below (set ws (r.height - 1) w) (k - 1)) height
            ∙ below-pushed ws r.height w (omega (arith, has, still)) (omega (arith, room_here, t.room))
            ∙ ap (λ x. aside_of x ∷ gs) aside.0
            ∙ ap (λ x. x ∷ gs) (set_aside_same s r.top t.able.indexed.accepted o.sits.top) in
            let same : comes_to p r' (below (set ws (r.height - 1) w) (r'.height - 1)) ≡ comes_to p r gs =
            ap (comes_to p r') frames ∙ push_comes s r r' x u v gs is h in
            record {
              able = t.able;
              limited = t.limited;
              leads = λ read see. subst (Leads p read (manager_of m₀)) (sym same) (tr.leads read see);
              sits = restacked_sits s r r' (r.height + 1) h.core_is h.top_placed tr.sits (rw is refl) (omega arith) (omega (arith, room_here));
              present = rw quiet' tt;
              room = length-set ws (r.height - 1) w ∙ t.room;
              each = λ k hk. each_pushed k hk (ℕ_discrete k (r.height - 1)) height;
              asks = λ a. absurd (asking_not_nothing r'.effect quiet' a);
              few = omega (arith, steps, tr.few);
              grown = omega (arith, steps, tr.grown);
              early = λ e shut. absurd (no_early (sym steps ∙ e) shut);
            }
          where
            each_pushed : (k : ℕ) → k + 1 < r'.height → Dec (k ≡ r.height - 1) → r'.height ≡ r.height + 1 → Waits s (aside_of (get_or (set ws (r.height - 1) w) k no_waiting))
            each_pushed k hk (yes e) height =
                rw (e, get_or-set_same ws (r.height - 1) w no_waiting (omega (arith, room_here, t.room))) aside.1
            each_pushed k hk (no ne) height =
                rw (get_or-set_other ws (r.height - 1) k w no_waiting ne) (turning_made.each k (omega (arith, hk, height, ne)))

        pub pushed_less : turns_left r' < turns_left c
        pushed_less =
            rw q (less_pushed s current cache all unchanged c r (turning_operable q l).few (rw is refl) still turned (turns_left r') (rw h.core_is (omega arith)))

      -- the top popped
      module _ (v : Value) (is : r.effect ≡ Pop v) (r' : Core) (h : Popped s r (get_or ws (r.height - 2) no_waiting) v r') where
        two_here : 1 < r.height
        two_here = subst (λ e. Tall e r.height) is o.sits.tall

        pub turning_popped : Turning s masks index current cache all unchanged limit c₀ ws₀ r' ws
        turning_popped =
            let tr = turning_made in
            let height : r'.height ≡ r.height - 1 = ap (λ z. z.height) h.core_is in
            let steps : r'.steps ≡ r.steps = ap (λ z. z.steps) h.core_is in
            let quiet' : r'.effect ≡ Nothing = ap (λ z. z.effect) h.core_is in
            let gs = below ws (r.height - 1 - 1) in
            let frames : below ws (r.height - 1) ≡ aside_of (get_or ws (r.height - 2) no_waiting) ∷ gs = below-popped ws r.height two_here in
            let same : comes_to p r' (below ws (r'.height - 1)) ≡ comes_to p r (below ws (r.height - 1)) =
            ap (λ k. comes_to p r' (below ws (k - 1))) height
            ∙ pop_comes s r r' (get_or ws (r.height - 2) no_waiting) v gs is h
            ∙ ap (comes_to p r) (sym frames) in
            record {
              able = t.able;
              limited = t.limited;
              leads = λ read see. subst (Leads p read (manager_of m₀)) (sym same) (tr.leads read see);
              sits = restacked_sits s r r' (r.height - 1) h.core_is h.top_placed tr.sits (rw is refl) (omega (arith, two_here)) (omega (arith, tr.sits.low));
              present = rw quiet' tt;
              room = t.room;
              each = λ k hk. tr.each k (omega (arith, hk, height));
              asks = λ a. absurd (asking_not_nothing r'.effect quiet' a);
              few = omega (arith, steps, tr.few);
              grown = omega (arith, steps, tr.grown);
              early = λ e shut. absurd (no_early (sym steps ∙ e) shut);
            }

        pub popped_less : turns_left r' < turns_left c
        popped_less =
            rw q (less_popped s current cache all unchanged c r (turning_operable q l).few two_here (o.tall (rw is refl)) turned (turns_left r') (rw h.core_is (omega arith)))

-- a core that goes on has nothing left to do, and steps below the limit
nothing_at : (e : Effect) → is_nothing e ≡ true → e ≡ Nothing
nothing_at Nothing n = refl
nothing_at End n = absurd (not_both false n refl)
nothing_at (Write object field value) n = absurd (not_both false n refl)
nothing_at (Read object field) n = absurd (not_both false n refl)
nothing_at Change n = absurd (not_both false n refl)
nothing_at (Fork level object name parameter) n = absurd (not_both false n refl)
nothing_at (Call object way parameter) n = absurd (not_both false n refl)
nothing_at (Pop reply) n = absurd (not_both false n refl)

pub unfinished_internal : (c : Core) (limit : ℕ) (b : Bool) → b ≡ (is_nothing c.effect && ltb c.steps limit) → b ≡ true → (c.effect ≡ Nothing) × (c.steps < limit)
unfinished_internal c limit b e t =
    let h = sym e ∙ t in
    (nothing_at c.effect (and_left (is_nothing c.effect) (ltb c.steps limit) h), ltb-true c.steps limit (and_right (is_nothing c.effect) (ltb c.steps limit) h))
