-- A core above the frames that wait: what an operation, a frame made and a pop make of it. Assumes nothing.
use Prim.Native.Nat.{ℕ, zero, suc, ◌+◌, ◌-◌, ◌≤◌, ◌<◌}
use mathlib.Core.Path.{◌≡◌, refl, sym, ◌∙◌, ap, subst}
use mathlib.Core.Bool.{Bool, true, false, cond}
use mathlib.Core.List.{List, [], ◌∷◌}
use native.Mathlib.Omega.{arith}
use borrow.Author.Tests.{eq-eqb, ne_eqb}
use lib.ListN.{length, get_or, set}
use lib.Seq.{get_or-set_same, get_or-set_other}
use Rattle.lists.proofs.Laws.Range.{not_both}
use Rattle.session.specs.Program.{Program, program_of}
use Rattle.frames.proofs.Laws.Values.{either_same}
use Rattle.session.specs.Value.{Value}
use Rattle.std.specs.Prelude.{None}
use Rattle.lists.proofs.Laws.Lists.{holds, fails, truth}
use Rattle.scripts.specs.Limits.{max_script_steps}
use Rattle.scripts.specs.Ending.{is_running}
use Rattle.scripts.specs.Effect as effect
use Rattle.scripts.specs.State as defined
use Rattle.scripts.specs.Frame.{frame_for, with_register}
use Rattle.scripts.specs.Manager.{is_end, next_step, popped, concluded}
use Rattle.scripts.proofs.Laws.Counts.{concluded_counts, popped_counts}
use Rattle.scripts.proofs.Laws.Settle.{popped_to_lem, concluded_pop, concluded_last, concluded_not, running_is}
use Rattle.fields.specs.Reads.{Agrees}
use Rattle.frames.specs.Frames.{into_of, returns_of, slot_on, answer_on, script_in, name_in, frame_of, aside_of, no_waiting, below}
use Rattle.frames.specs.declared.Waiting.{Waiting}
use Rattle.cores.specs.Core.{bare, standing, comes_to, settled_of, is_over, is_asking}
use Rattle.cores.specs.Moves.{causing, ending_as, Pushed, Popped}
use Rattle.operations.specs.Operations.{Operable, Operated}
use Rattle.cores.specs.declared.Core.{Core}
use Rattle.cores.specs.declared.Effect.{Effect}
use Rattle.cores.specs.declared.Effect.TheVariants.{Nothing, End, Write, Read, Change, Fork, Call, Pop}
use Rattle.managers.specs.Steps.{Leads}
use Rattle.managers.proofs.Laws.Leads.{leads_step}

-- the frames that wait: another put behind them, and the last one
pub below_set : (ws : List Waiting) (n i : ℕ) (w : Waiting) → n ≤ i → below (set ws i w) n ≡ below ws n
unfolding below
below_set ws zero i w h = refl
below_set ws (suc n) i w h =
    let ne : n ≡ i → ⊥ = λ e. omega (arith, e) in
    rw (get_or-set_other ws i n w no_waiting ne, below_set ws n i w (omega arith)) refl

pub below_length : (ws : List Waiting) (n : ℕ) → length (below ws n) ≡ n
unfolding below
below_length ws zero = refl
below_length ws (suc n) = ap suc (below_length ws n)

pub below-pushed : (ws : List Waiting) (h : ℕ) (w : Waiting) → 0 < h → h ≤ length ws → below (set ws (h - 1) w) (h + 1 - 1) ≡ aside_of w ∷ below ws (h - 1)
unfolding below
below-pushed ws h w some room =
    let i : h + 1 - 1 ≡ suc (h - 1) = omega arith in
    rw (i, get_or-set_same ws (h - 1) w no_waiting (omega arith), below_set ws (h - 1) (h - 1) w (omega arith)) refl

pub below-popped : (ws : List Waiting) (h : ℕ) → 1 < h → below ws (h - 1) ≡ aside_of (get_or ws (h - 2) no_waiting) ∷ below ws (h - 1 - 1)
unfolding below
below-popped ws h two =
    let i : h - 1 ≡ suc (h - 2) = omega arith in
    let j : h - 1 - 1 ≡ h - 2 = omega arith in
    rw (j) (ap (below ws) i)

-- the counts that a core comes to are its own
comes_level : (p : Program) (c : Core) (gs : List defined.Frame) (e : Effect) → ((settled_of p c gs e).level ≡ c.level) × ((settled_of p c gs e).first ≡ c.first)
comes_level p c gs Nothing = let e = concluded_counts p (standing c gs) in (ap (λ x. x.level) e, ap (λ x. x.first) e)
comes_level p c gs End = (refl, refl)
comes_level p c gs (Write object field value) = let e = concluded_counts p (standing c gs) in (ap (λ x. x.level) e, ap (λ x. x.first) e)
comes_level p c gs (Read object field) = (refl, refl)
comes_level p c gs Change = (refl, refl)
comes_level p c gs (Fork level object name parameter) = let e = concluded_counts p (standing c gs) in (ap (λ x. x.level) e, ap (λ x. x.first) e)
comes_level p c gs (Call object way parameter) =
    let e = concluded_counts p (bare c (frame_for object (script_in (slot_on way)) (name_in (slot_on way)) (into_of (answer_on way)) (returns_of (answer_on way)) parameter ∷ frame_of c.top ∷ gs)) in
    (ap (λ x. x.level) e, ap (λ x. x.first) e)
comes_level p c gs (Pop reply) =
    let e = concluded_counts p (popped (standing c gs) reply) ∙ popped_counts (standing c gs) reply in
    (ap (λ x. x.level) e, ap (λ x. x.first) e)

pub comes_alike : (p : Program) (c : Core) (gs : List defined.Frame) → ((comes_to p c gs).manager.level ≡ c.level) × ((comes_to p c gs).manager.first ≡ c.first)
unfolding comes_to
comes_alike p c gs = comes_level p c gs c.effect

-- a step that does nothing outside
abbrev idle : defined.Manager → defined.Stepped
idle m = record { manager = m; effect = effect.Nothing }

-- a core with nothing left to do
pub internal_comes : (p : Program) (c : Core) (gs : List defined.Frame) → c.effect ≡ Nothing → comes_to p c gs ≡ record { manager = concluded p (standing c gs); effect = effect.Nothing }
unfolding comes_to
internal_comes p c gs q = rw q refl

-- one whose top is not at its script's end has no pops to come
pub no_pops : (p : Program) (c : Core) (gs : List defined.Frame) → is_running c.ending ≡ true → c.steps < max_script_steps → is_end (next_step p (frame_of c.top)) ≡ false → concluded p (standing c gs) ≡ standing c gs
no_pops p c gs r few e = concluded_not p (standing c gs) (frame_of c.top) gs (running_is c.ending r) refl few e

-- a frame made above the top
pub push_comes : (s : List ℕ) (c r : Core) (o w : ℕ) (v : Value) (gs : List defined.Frame) → c.effect ≡ Call o w v → Pushed s c o w v r → comes_to (program_of s) r (frame_of c.top ∷ gs) ≡ comes_to (program_of s) c gs
unfolding comes_to
push_comes s c r o w v gs q h =
    rw (q, h.core_is)
    (ap (λ f. record { manager = concluded (program_of s) (bare c (f ∷ frame_of c.top ∷ gs)); effect = effect.Nothing }) (ap frame_of h.top_is))

-- the top popped with its reply
pub pop_comes : (s : List ℕ) (c r : Core) (w : Waiting) (v : Value) (gs : List defined.Frame) → c.effect ≡ Pop v → Popped s c w v r → comes_to (program_of s) r gs ≡ comes_to (program_of s) c (aside_of w ∷ gs)
unfolding comes_to
pop_comes s c r w v gs q h =
    rw (q, h.core_is)
    (ap (λ f. record { manager = concluded (program_of s) (bare c (f ∷ gs)); effect = effect.Nothing }) h.top_is
    ∙ ap (λ m. record { manager = concluded (program_of s) m; effect = effect.Nothing }) (sym (popped_to_lem (standing c (aside_of w ∷ gs)) (frame_of c.top) (aside_of w) gs v)))

-- the top, at its script's end, is to pop: that was to come
pub end_comes : (s : List ℕ) (c : Core) (gs : List defined.Frame) → suc (length gs) ≡ c.height → is_running c.ending ≡ true → is_end (next_step (program_of s) (frame_of c.top)) ≡ true → comes_to (program_of s) (ending_as c) gs ≡ record { manager = concluded (program_of s) (standing c gs); effect = effect.Nothing }
unfolding comes_to
end_comes s c [] h r e =
    rw (eq-eqb c.height 1 (sym h))
    (ap idle (sym (concluded_last (program_of s) (standing c []) (frame_of c.top) e)))
end_comes s c (g ∷ gs) h r e =
    let more : c.height ≡ 1 → ⊥ = λ one. omega (arith, h, one) in
    let f = frame_of c.top in
    rw (ne_eqb c.height 1 more)
    (ap idle
    (ap (concluded (program_of s)) (popped_to_lem (standing c (g ∷ gs)) f g gs None ∙ ap (λ v. bare c (with_register g (into_of c.top.answer) v ∷ gs)) (either_same (returns_of c.top.answer) None))
    ∙ sym (concluded_pop (program_of s) (standing c (g ∷ gs)) f g gs e)))

-- a step waits: nothing has changed
asking_comes : (p : Program) (c : Core) (gs : List defined.Frame) (e : Effect) → is_asking e ≡ true → comes_to p (causing c e) gs ≡ record { manager = standing c gs; effect = effect.Nothing }
unfolding comes_to
asking_comes p c gs Nothing a = absurd (not_both false a refl)
asking_comes p c gs End a = absurd (not_both false a refl)
asking_comes p c gs (Write object field value) a = absurd (not_both false a refl)
asking_comes p c gs (Read object field) a = refl
asking_comes p c gs Change a = refl
asking_comes p c gs (Fork level object name parameter) a = absurd (not_both false a refl)
asking_comes p c gs (Call object way parameter) a = absurd (not_both false a refl)
asking_comes p c gs (Pop reply) a = absurd (not_both false a refl)

-- an operation leads on
pub turn_leads : (s masks current cache : List ℕ) (all unchanged : Bool) (c r : Core) → Operable s masks current cache c → Operated s current cache all unchanged c r → (read : ℕ → ℕ → Value) → Agrees s current cache all unchanged c.level read → (gs : List defined.Frame) → suc (length gs) ≡ c.height → (m : defined.Manager) → Leads (program_of s) read m (comes_to (program_of s) c gs) → Leads (program_of s) read m (comes_to (program_of s) r gs)
turn_leads s masks current cache all unchanged c r able o read see gs h m l =
    let p = program_of s in
    let over : is_over c.effect ≡ false = rw able.internal refl in
    let run = able.sits.runs over in
    let here = internal_comes p c gs able.internal in
    elim (truth (is_end (next_step p (frame_of c.top)))) [
      | holds e ↦
          let same : comes_to p r gs ≡ comes_to p c gs = ap (λ x. comes_to p x gs) (o.ends e) ∙ end_comes s c gs h run e ∙ sym here in
          subst (Leads p read m) (sym same) l
      | fails e ↦
          let stands : idle (concluded p (standing c gs)) ≡ idle (standing c gs) = ap idle (no_pops p c gs run able.few e) in
          elim (truth (is_asking r.effect)) [
            | holds q ↦
                let asked = o.asks q in
                let same : comes_to p r gs ≡ comes_to p c gs =
                ap (λ x. comes_to p x gs) asked.0 ∙ asking_comes p c gs r.effect q ∙ sym stands ∙ sym here in
                subst (Leads p read m) (sym same) l
            | fails q ↦
                subst (Leads p read m) (sym ((o.steps e q).is read see gs h))
                (leads_step p read m (standing c gs) (subst (Leads p read m) (here ∙ stands) l) run)
          ]
    ]
