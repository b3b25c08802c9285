-- A row of script steps is what the code's manager promises; so is a single one. Assumes nothing.
use Prim.Native.Nat.{ℕ, ◌+◌, ◌-◌, ◌≤◌, ◌<◌}
use mathlib.Core.Path.{◌≡◌, refl, sym, ◌∙◌, ap, subst}
use mathlib.Core.Bool.{Bool, true, false, ◌&&◌}
use mathlib.Core.List.{List}
use native.Mathlib.Omega.{arith}
use borrow.Author.Tests.{ltb-false}
use lib.Dec.{ltb, leb}
use Rattle.lists.proofs.Laws.Range.{not_both}
use Rattle.session.specs.Program.{Program, program_of}
use Rattle.session.specs.Value.{Value}
use Rattle.lists.proofs.Laws.Lists.{holds, fails, truth}
use Rattle.scripts.specs.Ending.{is_running}
use Rattle.scripts.specs.Effect as effect
use Rattle.scripts.specs.Manager.{top_of, top}
use Rattle.frames.specs.Frames.{frame_of, below}
use Rattle.frames.specs.declared.Waiting.{Waiting}
use Rattle.cores.specs.Core.{effect_of, is_over, is_asking, is_nothing, is_done, Present}
use Rattle.cores.specs.Moves.{causing, closed_as}
use Rattle.operations.specs.Operations.{pause_of, asking}
use Rattle.cores.specs.declared.Core.{Core}
use Rattle.cores.specs.declared.Effect.{Effect}
use Rattle.cores.specs.declared.Effect.TheVariants.{Nothing, End, Write, Read, Change, Fork, Call, Pop}
use Rattle.managers.specs.Manager.{manager_of, stepped_of}
use Rattle.managers.specs.Steps.{Leads, WellFormed, Advanceable, Advanced, Stepped, Lowering, is_paused}
use Rattle.managers.specs.declared.Manager.{Manager}
use Rattle.managers.proofs.Laws.Leads.{leads_one, Steps, none, some, leads_steps}
use Rattle.managers.proofs.Laws.Advance.{saying_of, saying_agrees, pause_same, Turning, stack_some, turning_level, turning_first}
use Rattle.managers.proofs.Laws.Closing.{left, closed_comes, closed_held, closed_asks, closed_over, asking_lasts}

nothing_is : (e : Effect) → e ≡ Nothing → is_nothing e ≡ true
nothing_is e q = rw q refl

-- an effect of its own is not nothing
abbrev is_idle : effect.Effect → Bool
is_idle effect.Nothing = true
is_idle (effect.Write ws) = false
is_idle (effect.Fork u message) = false

not_nothing : (e : Effect) → effect_of e ≡ effect.Nothing → is_idle (effect_of e) ≡ false → ⊥
not_nothing e x y = not_both (is_idle (effect_of e)) (ap is_idle x) y

module _ (s masks index current cache : List ℕ) (all unchanged : Bool) (limit : ℕ) (c₀ : Core) (ws₀ : List Waiting) (c : Core) (ws : List Waiting) (t : Turning s masks index current cache all unchanged limit c₀ ws₀ c ws) (out : (is_nothing c.effect && ltb c.steps limit) ≡ false) (d : Core) (low : Lowering s index ws c d) (q : (is_running d.ending && (leb d.top.count d.top.next && ltb 1 d.height)) ≡ false) (r : Core) (is : r ≡ closed_as d) where
  abbrev p : Program
  p = program_of s

  abbrev m₀ : Manager
  m₀ = record { core = c₀; waiting = ws₀ }

  abbrev m : Manager
  m = record { core = r; waiting = ws }

  at_limit : is_nothing c.effect ≡ true → limit ≤ c.steps
  at_limit n = ltb-false c.steps limit (rw n at out)

  effect_is : r.effect ≡ c.effect
  effect_is = (left s index ws c d low q r is).effect ∙ low.effect_is

  steps_are : r.steps ≡ c.steps
  steps_are = (left s index ws c d low q r is).steps ∙ low.steps_are

  stays : is_asking c.effect ≡ true → r ≡ c
  stays a =
      let b : is_asking d.effect ≡ true = ap is_asking low.effect_is ∙ a in
      closed_asks s index ws c d low q r is b ∙ low.asks b

  asks_here : is_asking r.effect ≡ true → (is_running r.ending ≡ true) × (pause_of s current cache all unchanged r ≡ asking r.effect)
  asks_here a =
      let f : is_asking c.effect ≡ true = ap is_asking (sym effect_is) ∙ a in
      let same = stays f in
      let over : is_over c.effect ≡ false = asking_lasts c.effect f in
      (ap (λ z. is_running z.ending) same ∙ t.sits.runs over, subst (λ z. pause_of s current cache all unchanged z ≡ asking z.effect) (sym same) (t.asks f).1)

  over_here : r.effect ≡ End → is_running r.ending ≡ false
  over_here e =
      let x : d.effect ≡ End = sym (left s index ws c d low q r is).effect ∙ e in
      let no_more = low.sits.over (ap is_over x) in
      ap (λ z. is_running z.ending) (closed_over s index ws c d low q r is no_more) ∙ no_more

  early_here : r.steps ≡ c₀.steps → is_paused s current cache all unchanged c₀ ≡ true
  early_here e = elim (truth (is_paused s current cache all unchanged c₀)) [
    | holds h ↦ h
    | fails h ↦
        let back : c.steps ≡ c₀.steps = sym steps_are ∙ e in
        let internal = (t.early back h).0 in
        absurd (omega (arith, at_limit (nothing_is c.effect internal), back, t.limited.0))
  ]

  pub advance_done : Advanced s current cache all unchanged limit m₀ m
  advance_done =
      let x = left s index ws c d low q r is in
      record {
        leads = λ read see.
            subst (Leads p read (manager_of m₀)) (sym (closed_comes s index ws c d low q r is ∙ low.same)) (t.leads read see);
        held = closed_held s index ws c d low q r is;
        level_is = x.level ∙ low.level_is ∙ turning_level s masks index current cache all unchanged limit c₀ ws₀ c ws t;
        first_is = x.first ∙ low.first_is ∙ turning_first s masks index current cache all unchanged limit c₀ ws₀ c ws t;
        present = subst (Present s) (sym effect_is) t.present;
        done = ap is_done x.effect ∙ low.done;
        asks = asks_here;
        waits = λ a.
            let f : is_asking c.effect ≡ true = ap is_asking (sym effect_is) ∙ a in
            omega (arith, steps_are, (t.asks f).0);
        over = over_here;
        few = omega (arith, steps_are, t.few);
        at_limit = λ n _. omega (arith, at_limit (ap is_nothing (sym effect_is) ∙ n), t.few, steps_are);
        early = early_here;
      }

-- what the manager's last step did before does not matter
pub advanced_self : (s current cache : List ℕ) (all unchanged : Bool) (limit : ℕ) (m r : Manager) (c₀ : Core) → c₀ ≡ causing m.core Nothing → Advanced s current cache all unchanged limit (record { core = c₀; waiting = m.waiting }) r → Advanced s current cache all unchanged limit m r
unfolding manager_of
advanced_self s current cache all unchanged limit m r c₀ e a =
    let b : Advanced s current cache all unchanged limit (record { core = causing m.core Nothing; waiting = m.waiting }) r = subst (λ z. Advanced s current cache all unchanged limit (record { core = z; waiting = m.waiting }) r) e a in
    record {
      leads = b.leads;
      held = b.held;
      level_is = b.level_is;
      first_is = b.first_is;
      present = b.present;
      done = b.done;
      asks = b.asks;
      waits = b.waits;
      over = b.over;
      few = b.few;
      at_limit = b.at_limit;
      early = b.early;
    }

pub self_able : (s masks index current cache : List ℕ) (m : Manager) (c₀ : Core) → c₀ ≡ causing m.core Nothing → Advanceable s masks index current cache m → Advanceable s masks index current cache (record { core = c₀; waiting = m.waiting })
self_able s masks index current cache m c₀ e a =
    subst (λ z. Advanceable s masks index current cache (record { core = z; waiting = m.waiting })) (sym e)
    (record {
      indexed = a.indexed;
      leveled = a.leveled;
      fields_there = a.fields_there;
      cache_there = a.cache_there;
      current_scripted = a.current_scripted;
      cache_scripted = a.cache_scripted;
      held = record {
        level = a.held.level;
        low = a.held.low;
        made = a.held.made;
        wrote = a.held.wrote;
        forked = a.held.forked;
        fits = a.held.fits;
        top = a.held.top;
        room = a.held.room;
        each = a.held.each;
        live = a.held.live;
        few = a.held.few;
        unfinished = a.held.unfinished;
      };
      running = a.running;
    })

-- the top of a manager that runs
held_top : (m : Manager) → 0 < m.core.height → top (manager_of m) ≡ frame_of m.core.top
unfolding manager_of
held_top m high =
    ap top_of (stack_some m.core.height (frame_of m.core.top) (below m.waiting (m.core.height - 1)) high)

-- a limit of one more makes one step
module _ (s current cache : List ℕ) (all unchanged : Bool) (m r : Manager) (h : WellFormed s m) (run : is_running m.core.ending ≡ true) (a : Advanced s current cache all unchanged (m.core.steps + 1) m r) where
  abbrev program : Program
  program = program_of s

  -- a step that is not asked for is made
  made : is_asking r.core.effect ≡ false → (read : ℕ → ℕ → Value) → Leads program read (manager_of m) (stepped_of r) → r.core.steps ≡ m.core.steps + 1
  unfolding manager_of
  made asks read l = by (leads_steps program read (manager_of m) (stepped_of r) l)
    where
      still : (e : Effect) → r.core.effect ≡ e → is_running r.core.ending ≡ true → effect_of e ≡ effect.Nothing → r.core.steps ≡ m.core.steps + 1
      still Nothing e on x = a.at_limit (ap is_nothing e) on
      still End e on x = absurd (not_both (is_running r.core.ending) on (a.over e))
      still (Write object field value) e on x = absurd (not_nothing (Write object field value) x refl)
      still (Read object field) e on x = absurd (not_both (is_asking r.core.effect) (ap is_asking e) asks)
      still Change e on x = absurd (not_both (is_asking r.core.effect) (ap is_asking e) asks)
      still (Fork level object name parameter) e on x = absurd (not_nothing (Fork level object name parameter) x refl)
      still (Call object way parameter) e on x = absurd (not_both (is_done r.core.effect) a.done (ap is_done e))
      still (Pop reply) e on x = absurd (not_both (is_done r.core.effect) a.done (ap is_done e))

      by : Steps (manager_of m) (stepped_of r) → r.core.steps ≡ m.core.steps + 1
      by (none e) =
          still r.core.effect refl (ap (λ d. is_running d.manager.ending) e ∙ run) (ap (λ d. d.effect) e)
      by (some e) = omega (arith, e, a.few)

  -- one that is asked for leaves the manager as it was
  unmoved : is_asking r.core.effect ≡ true → manager_of r ≡ manager_of m
  unfolding manager_of
  unmoved asks = by (leads_steps program at_hand (manager_of m) (stepped_of r) (a.leads at_hand (saying_agrees s current cache all unchanged m.core.level)))
    where
      at_hand : ℕ → ℕ → Value
      at_hand = saying_of s current cache all unchanged m.core.level

      by : Steps (manager_of m) (stepped_of r) → manager_of r ≡ manager_of m
      by (none e) = ap (λ d. d.manager) e
      by (some e) = absurd (omega (arith, e, a.waits asks))

  asked : is_asking r.core.effect ≡ true → (manager_of r ≡ manager_of m) × (pause_of s current cache all unchanged m.core ≡ asking r.core.effect)
  asked w =
      let same = unmoved w in
      let x = a.asks w in
      let top_is : frame_of r.core.top ≡ frame_of m.core.top = sym (held_top r (a.held.live x.0)) ∙ ap top same ∙ held_top m (h.live run) in
      (same, sym (pause_same s current cache all unchanged r.core m.core a.level_is top_is) ∙ x.1)

  pub step_done : Stepped s current cache all unchanged m r
  unfolding manager_of
  step_done =
      record {
        is = λ asks read see.
            let l = a.leads read see in
            leads_one program read (manager_of m) (stepped_of r) l (made asks read l);
        asks = asked;
        still = a.asks;
        held = a.held;
        level_is = a.level_is;
        first_is = a.first_is;
        present = a.present;
        done = a.done;
      }
