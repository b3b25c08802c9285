-- What the moves of a core make of the manager that it stands for: each is an operation of the definitions, counted, with the pops of its
-- step. Assumes nothing.
use Prim.Native.Nat.{ℕ, suc, ◌+◌, ◌≤◌, ◌<◌}
use mathlib.Core.Path.{◌≡◌, refl, sym, ◌∙◌, ap, subst}
use mathlib.Core.Bool.{Bool, true, false, cond}
use mathlib.Core.List.{List, [], ◌∷◌}
use native.Mathlib.Omega.{arith}
use borrow.Author.Tests.{lt-ltb, le-ltb, le-leb, lt-leb}
use lib.ListN.{length}
use Rattle.lists.proofs.Laws.Range.{not_both}
use Rattle.session.specs.Limits.{names, fields, registers}
use Rattle.session.specs.Parts.{level_count, object_count}
use Rattle.session.specs.Meaning.{Numbered}
use Rattle.session.specs.Program.{Program}
use Rattle.session.specs.Value.{Value}
use Rattle.std.specs.Prelude.{None}
use Rattle.session.specs.declared.Message.{Message}
use Rattle.scripts.specs.Limits.{max_frames, max_writes, max_forks}
use Rattle.scripts.specs.Value.{is_nil_or0}
use Rattle.scripts.specs.Ending.{is_running}
use Rattle.scripts.specs.Effect.{Written}
use Rattle.scripts.specs.Effect as effect
use Rattle.scripts.specs.State as defined
use Rattle.scripts.specs.Frame.{frame_for, register, with_register, at_step}
use Rattle.scripts.specs.Manager.{with_top, popped, charged, called, forked, concluded}
use Rattle.scripts.specs.declared.Ending.{Ending}
use Rattle.scripts.specs.declared.Ending.TheVariants.{OutOfWrites, Finished}
use Rattle.frames.specs.Frames.{into_of, returns_of, answer_of, answers, way_of, slot_on, answer_on, frame_of, slot_of, script_in, name_in, Same, Becomes, Method}
use Rattle.frames.specs.declared.Frame.{Frame}
use Rattle.frames.proofs.Laws.Frames.{answer_few, way_slot, way_answer, slot_script, slot_name, answer_into, answer_returns, register_next, becomes_placed}
use Rattle.cores.specs.Core.{bare, standing, stack_of, effect_of, comes_to, is_over, is_asking, Tall, Present, Sits}
use Rattle.cores.specs.Moves.{Able, Moves, Makes, passed, past_of, next_top, causing, ended_as, finished_as, own_field, counting}
use Rattle.cores.specs.declared.Core.{Core}
use Rattle.cores.specs.declared.Effect.{Effect}
use Rattle.cores.specs.declared.Effect.TheVariants.{Nothing, Write, Fork, Call, Pop}

-- a step that leaves another top of the same method
pub moves_to : (c r : Core) (t : Frame) (f : defined.Frame) → r ≡ next_top c t → Becomes c.top t f → t.next ≤ t.count → Moves c r f
moves_to c r t f e b near =
    let top : t ≡ r.top = sym (ap (λ x. x.top) e) in
    record { core_is = e ∙ ap (next_top c) top; top_is = subst (λ x. Becomes c.top x f) top b; near = subst (λ x. x.next ≤ x.count) top near }

-- the top that passes its step is within its method still, whatever a register of it then holds
pub moves_past : (c r : Core) (t : Frame) → Able c → r ≡ next_top c t → Becomes c.top t (past_of c) → Moves c r (past_of c)
moves_past c r t able e b =
    moves_to c r t (past_of c) e b (omega (arith, able.unfinished, ap (λ x. x.next) b.frame, b.same.count))

pub moves_put : (c r : Core) (t u : Frame) (k : ℕ) (v : Value) → Able c → r ≡ next_top c u → Becomes c.top t (past_of c) → Becomes t u (with_register (frame_of t) k v) → Moves c r (with_register (past_of c) k v)
moves_put c r t u k v able e past put =
    let frame = put.frame ∙ ap (λ x. with_register x k v) past.frame in
    let same : Same c.top u = record {
      object = put.same.object ∙ past.same.object;
      slot = put.same.slot ∙ past.same.slot;
      start = put.same.start ∙ past.same.start;
      count = put.same.count ∙ past.same.count;
      answer = put.same.answer ∙ past.same.answer;
    } in
    moves_to c r u (with_register (past_of c) k v) e (record { frame = frame; same = same })
    (omega (arith, able.unfinished, ap (λ x. x.next) frame, register_next (past_of c) k v, same.count))

-- a JUMP to a step of its method, if the register is NIL or 0
abbrev jumped_to : Frame → ℕ → Frame
jumped_to f b =
    record {
      object = f.object;
      slot = f.slot;
      next = b;
      start = f.start;
      count = f.count;
      answer = f.answer;
      r0 = f.r0;
      r1 = f.r1;
      r2 = f.r2;
      r3 = f.r3;
    }

module _ (c r : Core) (a b : ℕ) where
  pub moves_jumped : is_nil_or0 (register (frame_of c.top) a) ≡ true → b ≤ c.top.count → r ≡ next_top c (jumped_to c.top b) → Moves c r (cond (is_nil_or0 (register (past_of c) a)) (at_step (past_of c) b) (past_of c))
  moves_jumped test near e =
      let same : Same c.top (jumped_to c.top b) = record { object = refl; slot = refl; start = refl; count = refl; answer = refl } in
      moves_to c r (jumped_to c.top b) _ e
      (record { frame = ap (λ t. cond t (at_step (past_of c) b) (past_of c)) (sym test); same = same }) near

  pub moves_stayed : is_nil_or0 (register (frame_of c.top) a) ≡ false → Moves c r (past_of c) → Moves c r (cond (is_nil_or0 (register (past_of c) a)) (at_step (past_of c) b) (past_of c))
  moves_stayed test m = subst (Moves c r) (ap (λ t. cond t (at_step (past_of c) b) (past_of c)) (sym test)) m

-- a core with other counts of writes and forks, and another effect
abbrev pub effecting : Core → ℕ → ℕ → Effect → Core
effecting c w k x =
    record {
      level = c.level;
      first = c.first;
      steps = c.steps;
      writes = w;
      forks = k;
      height = c.height;
      ending = c.ending;
      reply = c.reply;
      top = c.top;
      effect = x;
    }

-- such a core one script step on, with another top: it goes on
abbrev pub going : Core → Frame → ℕ → ℕ → Effect → Core
going c f w k x = effecting (next_top c f) w k x

-- or the step has ended it, with so many frames, and a reply
abbrev over : Core → Frame → ℕ → Ending → Value → Core
over c f h e v = ended_as (next_top c f) h e v

-- the frames below a single one
alone : (gs : List defined.Frame) → length gs ≡ 0 → gs ≡ []
alone [] e = refl
alone (g ∷ gs) e = absurd (omega (arith, e))

-- a frame that pops above another ends no manager
pops_on : (p : Program) (c : Core) (gs : List defined.Frame) (v : Value) → Able c → 0 < length gs → record { manager = concluded p (popped (bare (next_top c c.top) (past_of c ∷ gs)) v); effect = effect.Nothing } ≡ counting p (record { manager = popped (with_top (standing c gs) (past_of c)) v; effect = effect.Nothing })
unfolding popped
pops_on p c [] v able h = absurd (omega (arith, h))
pops_on p c (g ∷ gs) v able h = rw able.runs

-- within its limits it stays within them
sits_going : (s : List ℕ) (c : Core) (f : Frame) (w k : ℕ) (x : Effect) → Able c → Same c.top f → f.next ≤ f.count → is_over x ≡ false → (w ≤ max_writes) × ((k ≤ max_forks) × Tall x c.height) → Sits s c → Sits s (going c f w k x)
sits_going s c f w k x able same near lasts h sits =
    record {
      level = sits.level;
      low = sits.low;
      made = omega (arith, able.few);
      wrote = h.0;
      forked = h.1.0;
      fits = sits.fits;
      top = becomes_placed s c.top f same near sits.top;
      over = λ q. absurd (not_both (is_over x) q lasts);
      runs = λ _. able.runs;
      some = λ _. sits.some (rw able.internal);
      tall = h.1.1;
    }

sits_over : (s : List ℕ) (c : Core) (f : Frame) (h : ℕ) (e : Ending) (v : Value) → Able c → Same c.top f → f.next ≤ f.count → h ≤ c.height → is_running e ≡ false → Sits s c → Sits s (over c f h e v)
sits_over s c f h e v able same near low ends sits =
    record {
      level = sits.level;
      low = omega (arith, sits.low);
      made = omega (arith, able.few);
      wrote = sits.wrote;
      forked = sits.forked;
      fits = sits.fits;
      top = becomes_placed s c.top f same near sits.top;
      over = λ _. ends;
      runs = λ q. absurd (not_both true refl q);
      some = λ q. absurd (not_both true refl q);
      tall = tt;
    }

pub makes_going : (P : List ℕ → Type 0) (c r : Core) (f : Frame) (w k : ℕ) (x : Effect) (d : defined.Manager → defined.Stepped) → Able c → r ≡ going c f w k x → Same c.top f → f.next ≤ f.count → is_over x ≡ false → is_asking x ≡ false → ((s : List ℕ) → Sits s c → (w ≤ max_writes) × ((k ≤ max_forks) × Tall x c.height)) → ((s : List ℕ) → P s → Present s x) → ((p : Program) (gs : List defined.Frame) → suc (length gs) ≡ c.height → comes_to p (going c f w k x) gs ≡ counting p (d (standing c gs))) → Makes P c r d
makes_going P c r f w k x d able e same near lasts asks within present is =
    record {
      is = λ p gs tall. ap (λ y. comes_to p y gs) e ∙ is p gs tall;
      level_is = ap (λ y. y.level) e;
      first_is = ap (λ y. y.first) e;
      steps_are = ap (λ y. y.steps) e;
      tall = λ _. ap (λ y. y.height) e;
      lower = omega (arith, ap (λ y. y.height) e);
      flat = λ _. ap (λ y. y.height) e;
      asks = ap (λ y. is_asking y.effect) e ∙ asks;
      sits = λ s sits. subst (Sits s) (sym e) (sits_going s c f w k x able same near lasts (within s sits) sits);
      present = λ s h. subst (λ y. Present s y.effect) (sym e) (present s h);
    }

makes_over : (P : List ℕ → Type 0) (c r : Core) (f : Frame) (h : ℕ) (e : Ending) (v : Value) (d : defined.Manager → defined.Stepped) → Able c → r ≡ over c f h e v → Same c.top f → f.next ≤ f.count → h ≤ c.height → ((h ≡ 0 → ⊥) → h ≡ c.height) → is_running e ≡ false → ((p : Program) (gs : List defined.Frame) → suc (length gs) ≡ c.height → comes_to p (over c f h e v) gs ≡ counting p (d (standing c gs))) → Makes P c r d
makes_over P c r f h e v d able q same near low whole ends is =
    record {
      is = λ p gs tall. ap (λ y. comes_to p y gs) q ∙ is p gs tall;
      level_is = ap (λ y. y.level) q;
      first_is = ap (λ y. y.first) q;
      steps_are = ap (λ y. y.steps) q;
      tall = λ lasts. absurd (not_both (is_over r.effect) (ap (λ y. is_over y.effect) q) lasts);
      lower = omega (arith, ap (λ y. y.height) q);
      flat = λ some. ap (λ y. y.height) q ∙ whole (λ none. some (ap (λ y. y.height) q ∙ none));
      asks = ap (λ y. is_asking y.effect) q;
      sits = λ s sits. subst (Sits s) (sym q) (sits_over s c f h e v able same near low ends sits);
      present = λ s _. subst (λ y. Present s y.effect) (sym q) tt;
    }

-- a step that leaves another top only
pub makes_moved : (P : List ℕ → Type 0) (c r : Core) (f : defined.Frame) (d : defined.Manager → defined.Stepped) → Able c → Moves c r f → ((gs : List defined.Frame) → suc (length gs) ≡ c.height → d (standing c gs) ≡ record { manager = with_top (standing c gs) f; effect = effect.Nothing }) → Makes P c r d
unfolding comes_to
makes_moved P c r f d able m e =
    makes_going P c r r.top c.writes c.forks Nothing d able
    (m.core_is ∙ ap (going c r.top c.writes c.forks) able.internal) m.top_is.same m.near refl refl
    (λ s sits. (sits.wrote, (sits.forked, tt)))
    (λ s _. tt)
    (λ p gs tall.
    ap (λ g. record { manager = concluded p (bare (next_top c r.top) (g ∷ gs)); effect = effect.Nothing }) m.top_is.frame
    ∙ rw (e gs tall, able.runs))

-- a ninth frame, or a sixteenth fork, is not made: the sender gets NIL
pub makes_full : (c r : Core) (o w b a : ℕ) (returns : Bool) → Able c → max_frames ≤ c.height → Moves c r (with_register (past_of c) a None) → Makes (λ s. Numbered s o × (w ≤ object_count s)) c r (λ m. called m (passed m) a (frame_for o w b a returns (register (passed m) a)))
unfolding called
makes_full c r o w b a returns able h m =
    makes_moved (λ s. Numbered s o × (w ≤ object_count s)) c r (with_register (past_of c) a None) _ able m (λ gs tall. rw (le-ltb (suc (length gs)) max_frames (omega (arith, tall, h))))

pub makes_unforked : (P : List ℕ → Type 0) (c r : Core) (a u : ℕ) (message : defined.Manager → Message) → Able c → max_forks ≤ c.forks → Moves c r (with_register (past_of c) a None) → Makes P c r (λ m. forked m (passed m) a u (message m))
unfolding forked
makes_unforked P c r a u message able h m =
    makes_moved P c r (with_register (past_of c) a None) _ able m (λ gs tall. rw (le-ltb c.forks max_forks h))

-- a frame is to be made above the top, which has passed its step
pub makes_call : (c n r : Core) (o w b a : ℕ) (returns : Bool) (slot answer way : ℕ) (v : Value) → Able c → Moves c n (past_of c) → c.height < max_frames → v ≡ register (frame_of c.top) a → a < registers → b < names → slot ≡ slot_of w b → answer ≡ answer_of a returns → way ≡ way_of slot answer → r ≡ causing n (Call o way v) → Makes (λ s. Numbered s o × (w ≤ object_count s)) c r (λ m. called m (passed m) a (frame_for o w b a returns (register (passed m) a)))
unfolding comes_to called
makes_call c n r o w b a returns slot answer way v able m low ev small named is says on e =
    let f = n.top in
    let few : answer < answers = rw says (answer_few a returns small) in
    let slot_on_lem : slot_on way ≡ slot = rw on (way_slot slot answer few) in
    let answer_on_lem : answer_on way ≡ answer = rw on (way_answer slot answer few) in
    makes_going (λ s. Numbered s o × (w ≤ object_count s)) c r f c.writes c.forks (Call o way v) _ able
    (e ∙ ap (λ y. causing y (Call o way v)) m.core_is) m.top_is.same m.near refl refl
    (λ s sits. (sits.wrote, (sits.forked, low)))
    (λ s h. (h.0, rw (slot_on_lem, is, slot_script w b named) h.1))
    (λ p gs tall.
    ap (λ g. record { manager = concluded p (bare (next_top c f) (frame_for o (script_in (slot_on way)) (name_in (slot_on way)) (into_of (answer_on way)) (returns_of (answer_on way)) v ∷ g ∷ gs)); effect = effect.Nothing }) m.top_is.frame
    ∙ rw (ev, slot_on_lem, answer_on_lem, says, is, slot_script w b named, slot_name w b named, answer_into a returns small, answer_returns a returns small, lt-ltb (suc (length gs)) max_frames (omega (arith, tall, low)), able.runs))

-- a manager is forked, and the sender gets NIL
pub makes_fork : (c n r : Core) (o b a u : ℕ) (v : Value) → Able c → Moves c n (with_register (past_of c) a None) → c.forks < max_forks → v ≡ register (frame_of c.top) a → r ≡ effecting n n.writes (n.forks + 1) (Fork u o b v) → Makes (λ s. (u < level_count s) × Method o b s) c r (λ m. forked m (passed m) a u (record { object = o; name = b; parameter = register (passed m) a }))
unfolding comes_to forked
makes_fork c n r o b a u v able m few ev e =
    let f = n.top in
    let x = Fork u o b v in
    let grows : c.first + (c.forks + 1) ≡ c.first + c.forks + 1 = omega arith in
    makes_going _ c r f c.writes (c.forks + 1) x _ able
    (e ∙ ap (λ y. effecting y y.writes (y.forks + 1) x) m.core_is) m.top_is.same m.near refl refl
    (λ s sits. (sits.wrote, (omega (arith, few), tt)))
    (λ s h. h)
    (λ p gs tall.
    ap (λ g. record { manager = concluded p (bare (going c f c.writes (c.forks + 1) x) (g ∷ gs)); effect = effect.Fork u (record { object = o; name = b; parameter = v }) }) m.top_is.frame
    ∙ rw (ev, lt-ltb c.forks max_forks few, able.runs, grows))

-- a field gets a value
pub makes_write : (c n r : Core) (a k : ℕ) (v : Value) → Able c → Moves c n (past_of c) → c.writes < max_writes → v ≡ register (frame_of c.top) a → r ≡ effecting n (n.writes + 1) n.forks (Write c.top.object k v) → Makes (λ s. Numbered s c.top.object × (k < fields)) c r (λ m. charged m (passed m) (passed m) (own_field (passed m) k (register (passed m) a)))
unfolding comes_to charged
makes_write c n r a k v able m few ev e =
    let f = n.top in
    let x = Write c.top.object k v in
    makes_going _ c r f (c.writes + 1) c.forks x _ able
    (e ∙ ap (λ y. effecting y (y.writes + 1) y.forks x) m.core_is) m.top_is.same m.near refl refl
    (λ s sits. (omega (arith, few), (sits.forked, tt)))
    (λ s h. h)
    (λ p gs tall.
    ap (λ g. record { manager = concluded p (bare (going c f (c.writes + 1) c.forks x) (g ∷ gs)); effect = effect_of x }) m.top_is.frame
    ∙ rw (ev, le-leb (c.writes + 1) max_writes (omega (arith, few)), able.runs))

-- what would pass the sixteenth write ends the manager, and nothing pops
pub makes_spent : (P : List ℕ → Type 0) (c n r : Core) (g : defined.Manager → defined.Frame) (ws : defined.Manager → List Written) → Able c → Moves c n (past_of c) → ((m : defined.Manager) → max_writes < c.writes + length (ws m)) → r ≡ ended_as n n.height OutOfWrites n.reply → Makes P c r (λ m. charged m (passed m) (g m) (ws m))
unfolding comes_to charged
makes_spent P c n r g ws able m full e =
    let f = n.top in
    makes_over P c r f c.height OutOfWrites c.reply _ able
    (e ∙ ap (λ y. ended_as y y.height OutOfWrites y.reply) m.core_is) m.top_is.same m.near (omega arith) (λ _. refl) refl
    (λ p gs tall.
    ap (λ g. record { manager = bare (over c f c.height OutOfWrites c.reply) (stack_of c.height g gs); effect = effect.Nothing }) m.top_is.frame
    ∙ rw (← tall, lt-leb (c.writes + length (ws (standing c gs))) max_writes (full (standing c gs))))

-- the first frame pops with a reply, which ends the manager
pub makes_finished : (P : List ℕ → Type 0) (c n r : Core) (a : ℕ) (v : Value) → Able c → Moves c n (past_of c) → c.height ≡ 1 → v ≡ register (frame_of c.top) a → r ≡ finished_as n v → Makes P c r (λ m. record { manager = popped (with_top m (passed m)) (register (passed m) a); effect = effect.Nothing })
unfolding comes_to popped concluded
makes_finished P c n r a v able m one ev e =
    makes_over P c r n.top 0 Finished v _ able
    (e ∙ ap (λ y. finished_as y v) m.core_is) m.top_is.same m.near (omega arith) (λ some. absurd (some refl)) refl
    bottom
  where
    bottom : (p : Program) (gs : List defined.Frame) → suc (length gs) ≡ c.height → comes_to p (over c n.top 0 Finished v) gs ≡ counting p (record { manager = popped (with_top (standing c gs) (passed (standing c gs))) (register (passed (standing c gs)) a); effect = effect.Nothing })
    bottom p [] tall = rw (ev, able.runs)
    bottom p (g ∷ gs) tall = absurd (omega (arith, tall, one))

-- another frame is to pop with a reply
pub makes_pop : (P : List ℕ → Type 0) (c n r : Core) (a : ℕ) (v : Value) → Able c → Moves c n (past_of c) → 1 < c.height → v ≡ register (frame_of c.top) a → r ≡ causing n (Pop v) → Makes P c r (λ m. record { manager = popped (with_top m (passed m)) (register (passed m) a); effect = effect.Nothing })
unfolding comes_to
makes_pop P c n r a v able m more ev e =
    let f = n.top in
    makes_going P c r f c.writes c.forks (Pop v) _ able
    (e ∙ ap (λ y. causing y (Pop v)) m.core_is) m.top_is.same m.near refl refl
    (λ s sits. (sits.wrote, (sits.forked, more)))
    (λ s _. tt)
    (λ p gs tall.
    ap (λ g. record { manager = concluded p (popped (bare (next_top c f) (g ∷ gs)) v); effect = effect.Nothing }) m.top_is.frame
    ∙ rw ev (pops_on p c gs _ able (omega (arith, tall, more))))
