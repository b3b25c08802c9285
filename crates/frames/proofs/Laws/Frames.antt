-- Frames: what a set register leaves as it is, and where a script's end is. Assumes nothing.
use Prim.Native.Nat.{ℕ, zero, suc, ◌+◌, ◌-◌, ◌^◌, ◌≤◌, ◌<◌}
use mathlib.Core.Path.{◌≡◌, refl, ◌∙◌, ap, ap₂, subst, sym}
use mathlib.Core.Bool.{Bool, true, false}
use mathlib.Core.List.{List}
use native.Mathlib.Decide.{dec_lt}
use native.Mathlib.Omega.{arith}
use borrow.Author.Tests.{le-leb, lt-leb, leb-true}
use lib.Dec.{leb}
use Rattle.lists.proofs.Laws.Range.{not_both}
use Rattle.session.specs.Limits.{names, registers}
use Rattle.session.specs.Program.{program_of}
use Rattle.contents.specs.Reading.{MethodAt}
use Rattle.session.specs.Questions.{verdict_of, Accepted}
use Rattle.session.specs.Value.{Value}
use Rattle.session.proofs.Laws.Contents.{object_limit}
use Rattle.session.proofs.Laws.Numbers.{number_few}
use Rattle.scripts.specs.State as defined
use Rattle.scripts.specs.Frame.{with_register}
use Rattle.scripts.specs.Manager.{is_end, next_step}
use Rattle.scripts.proofs.Laws.Accepted.{script_short, inside_not_end, outside_end}
use Rattle.frames.specs.Frames.{into_of, returns_of, answer_of, answers, way_of, slot_on, answer_on, slot_of, script_in, name_in, step_numbers, place_of, slot_in, next_in, aside_of, aside_from, frame_of, Same, Becomes, ScriptAt, Placed, Waits}
use Rattle.frames.specs.declared.Frame.{Frame}

-- the byte that says where a reply goes is read back
pub answer_into : (into : ℕ) (returns : Bool) → into < registers → into_of (answer_of into returns) ≡ into
answer_into into true h = omega (arith, h)
answer_into into false h = omega (arith, h)

pub answer_returns : (into : ℕ) (returns : Bool) → into < registers → returns_of (answer_of into returns) ≡ returns
answer_returns into true h = le-leb registers (into + registers) (omega arith)
answer_returns into false h = lt-leb registers into h

-- a frame with a register set is at the same step
pub register_next : (f : defined.Frame) (k : ℕ) (v : Value) → (with_register f k v).next ≡ f.next
unfolding with_register
register_next f zero v = refl
register_next f (suc zero) v = refl
register_next f (suc (suc zero)) v = refl
register_next f (suc (suc (suc k))) v = refl

-- it is one of eight
pub answer_few : (into : ℕ) (returns : Bool) → into < registers → answer_of into returns < answers
answer_few into true h = omega (arith, h)
answer_few into false h = omega (arith, h)

-- so the number of a call is taken apart
pub way_slot : (slot answer : ℕ) → answer < answers → slot_on (way_of slot answer) ≡ slot
way_slot slot answer h = omega (arith, h)

pub way_answer : (slot answer : ℕ) → answer < answers → answer_on (way_of slot answer) ≡ answer
way_answer slot answer h = omega (arith, h)

-- a method's number is taken apart
pub slot_script : (script name : ℕ) → name < names → script_in (slot_of script name) ≡ script
slot_script script name h = omega (arith, h)

pub slot_name : (script name : ℕ) → name < names → name_in (slot_of script name) ≡ name
slot_name script name h = omega (arith, h)

-- a frame that is set aside is the same frame
pub set_aside_same : (s : List ℕ) (f : Frame) → verdict_of s ≡ Accepted → Placed s f → aside_of (aside_from f) ≡ frame_of f
set_aside_same s f a p =
    let low : f.next < step_numbers = omega (arith, p.near, p.at.count_is, script_short s a (script_in f.slot) (name_in f.slot)) in
    let slot : slot_in (place_of f.slot f.next) ≡ f.slot = omega (arith, low) in
    let next : next_in (place_of f.slot f.next) ≡ f.next = omega (arith, low) in
    ap₂ (λ w n. record {
      object = f.object;
      script = script_in w;
      name = name_in w;
      next = n;
      into = into_of f.answer;
      returns = returns_of f.answer;
      r0 = f.r0;
      r1 = f.r1;
      r2 = f.r2;
      r3 = f.r3;
    }) slot next

-- a frame that is set aside waits: its object fits 8 bits, and the number of its step 16
module _ (s : List ℕ) (f : Frame) (a : verdict_of s ≡ Accepted) (p : Placed s f) where
  pub object_fits : f.object < 2 ^ 8
  object_fits = omega (arith, number_few s a f.object p.called.0)

  pub place_fits : place_of f.slot f.next < 2 ^ 16
  place_fits =
      omega (arith, object_limit s a, p.called.1, p.near, p.at.count_is, script_short s a (script_in f.slot) (name_in f.slot))

  pub aside_waits : Waits s (aside_of (aside_from f))
  aside_waits =
      subst (Waits s) (sym (set_aside_same s f a p))
      (record { present = p.called.0; scripted = p.called.1; near = omega (arith, p.near, p.at.count_is) })

-- where a script's method stands: script 0 has none, and any other has those of an object
pub script_none : (s : List ℕ) (script name start : ℕ) → script ≡ 0 → ScriptAt s script name start 0
script_none s script name start z =
    rw z (record { own = λ w e. absurd (omega (arith, e)); count_is = refl })

pub script_own : (s : List ℕ) (script name start count : ℕ) → (script ≡ 0 → ⊥) → MethodAt s (script - 1) name start count → ScriptAt s script name start count
script_own s zero name start count n m = absurd (n refl)
script_own s (suc w) name start count n m =
    let same : suc w - 1 ≡ w = omega arith in
    let there : MethodAt s w name start count = rw same at m in
    record { own = λ v e. subst (λ v. MethodAt s v name start count) (omega (arith, e)) there; count_is = there.count_is }

-- a frame of the same method, within it, is placed as well
pub becomes_placed : (s : List ℕ) (f r : Frame) → Same f r → r.next ≤ r.count → Placed s f → Placed s r
becomes_placed s f r k n p =
    record {
      called = (rw k.object p.called.0, rw k.slot p.called.1);
      at = rw (k.slot, k.start, k.count) p.at;
      near = n;
    }

-- so is one whose register was set
pub register-placed : (s : List ℕ) (f r : Frame) (k : ℕ) (v : Value) → Becomes f r (with_register (frame_of f) k v) → Placed s f → Placed s r
register-placed s f r k v b p =
    let next : r.next ≡ f.next = ap (λ g. g.next) b.frame ∙ register_next (frame_of f) k v in
    becomes_placed s f r b.same (omega (arith, next, b.same.count, p.near)) p

-- the top is at its script's end where it has passed every step of its method, and only there
module _ (s : List ℕ) (a : verdict_of s ≡ Accepted) (f : Frame) (p : Placed s f) where
  pub at_end : leb f.count f.next ≡ true → is_end (next_step (program_of s) (frame_of f)) ≡ true
  at_end h = outside_end s a (frame_of f) (omega (arith, leb-true f.count f.next h, p.at.count_is))

  pub not_end : f.next < f.count → is_end (next_step (program_of s) (frame_of f)) ≡ false
  not_end h = inside_not_end s a (frame_of f) (omega (arith, h, p.at.count_is))

  pub unfinished_there : is_end (next_step (program_of s) (frame_of f)) ≡ false → f.next < f.count
  unfinished_there e = elim (dec_lt f.next f.count) [
    | yes h ↦ h
    | no h ↦ absurd (not_both _ (outside_end s a (frame_of f) (omega (arith, h, p.at.count_is))) e)
  ]
