-- CREATE and WITHDRAW: what they concern is there, and what they write is done to the words as the definition does it. Assumes nothing.
use Prim.Native.Nat.{ℕ, ◌+◌, ◌≤◌, ◌<◌}
use mathlib.Core.Path.{◌≡◌, refl, ap, subst, sym}
use mathlib.Core.List.{List}
use native.Mathlib.Omega.{arith}
use lib.ListN.{length}
use Rattle.session.specs.Limits.{max_levels}
use Rattle.session.specs.Parts.{object_count}
use Rattle.session.specs.Meaning.{Numbered}
use Rattle.session.specs.Program.{Program, program_of}
use Rattle.session.specs.Value.{Value}
use Rattle.std.specs.Prelude.{Some}
use Rattle.session.specs.Questions.{verdict_of, Accepted}
use Rattle.session.specs.declared.Step.{Step}
use Rattle.session.specs.declared.Step.TheVariants as op
use Rattle.session.proofs.Laws.Numbering.{few_levels}
use Rattle.session.proofs.Laws.Numbers.{number_few}
use Rattle.session.proofs.Laws.Verdict.{accepted}
use Rattle.scripts.specs.Existence.{existence, script_seen, withdrawn}
use Rattle.scripts.specs.Effect as effect
use Rattle.scripts.specs.Frame.{at_step}
use Rattle.scripts.specs.Manager.{top, top_of, next_step, written, created, operated, stepped}
use Rattle.scripts.specs.State as defined
use Rattle.scripts.specs.Valid.{Known, Each}
use Rattle.scripts.specs.Value.{number_in}
use Rattle.scripts.proofs.Laws.Accepted.{EffectPresent, script_short, next_present}
use Rattle.scripts.proofs.Laws.Charged.{written_way, created_way}
use Rattle.fields.specs.Limits.{object_values}
use Rattle.fields.specs.Fields.{field_at, FieldThere, FieldSet}
use Rattle.frames.specs.Frames.{frame_of}
use Rattle.frames.specs.declared.Frame.{Frame}
use Rattle.changes.specs.Changes.{IsChange, change_of}
use Rattle.changes.specs.declared.Change.{Change}
use Rattle.changes.specs.declared.Change.TheVariants.{Create, Withdraw}
use Rattle.std.specs.Prelude.{Option, Some, None}
use Rattle.managers.specs.Manager.{manager_of}
use Rattle.managers.specs.Steps.{Changeable, ChangedFrom}
use Rattle.managers.specs.declared.Manager.{Manager}
use Rattle.managers.specs.declared.Changed.{Changed}
use Rattle.managers.proofs.Laws.Advance.{stack_some}
use Rattle.model.specs.Fork as model
use Rattle.model.specs.DepthFirst.{Progress, field_now, RunFork, effected}
use Rattle.tallies.specs.Places.{tally_numbers, changed}
use Rattle.progress.specs.Representation.{RepresentedBy, Words, Spared}
use Rattle.progress.specs.Changes.{Numbers, Writable, Written, ChangeDone}
use Rattle.progress.proofs.Laws.Reads.{own_existence}
use Rattle.progress.proofs.Laws.Representation.{kept_write, kept_change}
use Rattle.progress.proofs.Laws.Spared.{spared_none, spared_then, spared_write, spared_change}

abbrev words : List ℕ → List ℕ → List ℕ → Words
words c e t = record { current = c; ended = e; tallies = t }

-- an existence that is written has a script of the session, or none
abbrev Low : List ℕ → effect.Effect → Type 0
Low s effect.Nothing = Unit
Low s (effect.Write ws) = Each (λ w. w.field ≡ existence → number_in w.value ≤ object_count s) ws
Low s (effect.Fork u message) = Unit

module _ (s : List ℕ) (read : ℕ → ℕ → Value) (m : defined.Manager) (f : defined.Frame) (low : script_seen read f.object ≤ object_count s) where
  abbrev p : Program
  p = program_of s

  created_low : (a : ℕ) → Low s (created p read m f a).effect
  created_low a =
      created_way (λ d. Low s d.effect) p read m f a
      (λ l t u c. ((λ _. low), ((λ z. absurd (omega (arith, z))), ((λ z. absurd (omega (arith, z))), ((λ z. absurd (omega (arith, z))), tt)))))
      tt tt

  withdrawn_low : Low s (written p read m f existence withdrawn).effect
  withdrawn_low =
      written_way (λ d. Low s d.effect) p read m f existence withdrawn (λ l t c. ((λ _. omega arith), tt)) tt tt

  operated_low : (i : Step) → IsChange i → Low s (operated p read m f i).effect
  unfolding operated
  operated_low op.End h = absurd h
  operated_low (op.Set a n) h = absurd h
  operated_low (op.Add a b) h = absurd h
  operated_low (op.Jump a b) h = absurd h
  operated_low (op.Read a b) h = absurd h
  operated_low (op.Write a b) h = absurd h
  operated_low (op.Send a b c) h = absurd h
  operated_low (op.Quit a) h = absurd h
  operated_low (op.Create a) h = created_low a
  operated_low op.Withdraw h = withdrawn_low

-- the words of what it writes
pub create_there : {c c' t : List ℕ} {l o w : ℕ} {x : Option Change} → Writable c t l x → x ≡ Some (Create o w) → (k : ℕ) → k < object_values → length c' ≡ length c → FieldThere c' o k
create_there h is k j same = record { room = rw same h.fields_there; object = subst Numbers is h.numbers; field = j }

pub withdraw_there : {c t : List ℕ} {l o : ℕ} {x : Option Change} → Writable c t l x → x ≡ Some (Withdraw o) → (k : ℕ) → k < object_values → FieldThere c o k
withdraw_there h is k j = record { room = h.fields_there; object = subst Numbers is h.numbers; field = j }

-- it is written
pub wrote_none : (l : ℕ) (f : Frame) (c t : List ℕ) {x : Option Change} → x ≡ None → Written l f x c t c t
wrote_none l f c t is = subst (λ x. Written l f x c t c t) (sym is) (refl, refl)

pub wrote_create : (l : ℕ) (f : Frame) (t : List ℕ) {c c1 c2 c3 c' t' : List ℕ} {o w : ℕ} {x : Option Change} → x ≡ Some (Create o w) → FieldSet c c1 o 0 f.r1 → FieldSet c1 c2 o 1 f.r2 → FieldSet c2 c3 o 2 f.r3 → FieldSet c3 c' o existence (Some w) → t' ≡ changed l t → Written l f x c t c' t'
wrote_create l f t {c} {c1} {c2} {c3} {c'} {t'} is set0 set1 set2 set3 counted =
    subst (λ x. Written l f x c t c' t') (sym is) ((c3, ((c2, ((c1, ((c, (refl, set0)), set1)), set2)), set3)), counted)

pub wrote_withdraw : (l : ℕ) (f : Frame) (t : List ℕ) {c c' t' : List ℕ} {o : ℕ} {x : Option Change} → x ≡ Some (Withdraw o) → FieldSet c c' o existence withdrawn → t' ≡ changed l t → Written l f x c t c' t'
wrote_withdraw l f t {c} {c'} {t'} is set counted =
    subst (λ x. Written l f x c t c' t') (sym is) ((c, (refl, set)), counted)

-- what a change concerns is there
abbrev pub Concerns : List ℕ → Option Change → Type 0
Concerns s None = Unit
Concerns s (Some (Create o w)) = Numbered s o × (w ≤ object_count s)
Concerns s (Some (Withdraw o)) = Numbered s o

concerned : (s : List ℕ) (f : defined.Frame) (c : Option Change) → EffectPresent s (change_of f c) → Low s (change_of f c) → Concerns s c
concerned s f None there low = tt
concerned s f (Some (Create o w)) there low = (there.0.0, low.0 refl)
concerned s f (Some (Withdraw o)) there low = there.0.0

module _ {s masks index current : List ℕ} {m : Manager} (can : Changeable s masks index current m) where
  abbrev a : verdict_of s ≡ Accepted
  a = can.indexed.accepted

  -- the frame that makes it is on top
  top_is : top (manager_of m) ≡ frame_of m.core.top
  unfolding manager_of
  top_is = ap top_of (stack_some m.core.height (frame_of m.core.top) _ (can.held.live can.running))

  top_known : Known s (frame_of m.core.top)
  top_known =
      let t = can.held.top in
      record {
        present = t.called.0;
        scripted = t.called.1;
        named = omega arith;
        near = omega (arith, t.near, t.at.count_is, script_short s a (frame_of m.core.top).script (frame_of m.core.top).name);
      }

  small : m.core.level < max_levels
  small = omega (arith, can.held.level, few_levels s (accepted s a).three)

  module _ {r : Changed} (done : ChangedFrom s current m r) where
    step_is : change_of (frame_of m.core.top) r.change ≡ (stepped (program_of s) (field_at current) (manager_of m)).effect
    step_is = ap (λ d. d.effect) (done.is (field_at current) (λ o n e. refl))

    pub change_there : Concerns s r.change
    unfolding stepped manager_of
    change_there =
        let n = manager_of m in
        let f = frame_of m.core.top in
        let read = field_at current in
        let object = can.held.top.called.0 in
        let there : EffectPresent s (stepped (program_of s) read n).effect =
        next_present s a read n (top n) can.held.level (subst (Known s) (sym top_is) top_known) in
        let low : Low s (stepped (program_of s) read n).effect =
        rw top_is (operated_low s read n (at_step f (f.next + 1)) (can.scripted f.object (number_few s a f.object object)) (next_step (program_of s) f) can.next) in
        concerned s f r.change (subst (EffectPresent s) (sym step_is) there) (subst (Low s) (sym step_is) low)

    numbered : (c : Option Change) → Concerns s c → Numbers c
    numbered None h = tt
    numbered (Some (Create o w)) h = number_few s a o h.0
    numbered (Some (Withdraw o)) h = number_few s a o h

    pub change_writable : (tallies : List ℕ) → tally_numbers ≤ length tallies → Writable current tallies m.core.level r.change
    change_writable tallies room =
        record { fields_there = can.fields_there; tallies_there = room; level_small = small; numbers = numbered r.change change_there }

    module _ (ended : List ℕ) {t c' t' : List ℕ} where
      does : (g : Progress) (run : RunFork) (x : model.Fork) → RepresentedBy s g current ended t → (ch : Option Change) → Concerns s ch → Written m.core.level m.core.top ch current t c' t' → RepresentedBy s (effected run m.core.level x (manager_of m) (change_of (frame_of m.core.top) ch) g) c' ended t'
      unfolding effected
      does g run x q None h (e, i) = rw (e, i) q
      does g run x q (Some (Create o w)) h ((c3, ((c2, ((c1, ((c0, (e, set0)), set1)), set2)), set3)), i) =
          let few = few_levels s (accepted s a).three in
          let f = m.core.top in
          let q1 = kept_write s g current c1 ended t o 0 f.r1 q (rw e at set0) (omega arith) few in
          let q2 = kept_write s _ c1 c2 ended t o 1 f.r2 q1 set1 (omega arith) few in
          let q3 = kept_write s _ c2 c3 ended t o 2 f.r3 q2 set2 (omega arith) few in
          rw i (kept_change s _ c3 c' ended t o existence (Some w) q3 set3 m.core.level small refl h.1 few)
      does g run x q (Some (Withdraw o)) h ((c0, (e, set)), i) =
          rw i (kept_change s g current c' ended t o existence withdrawn q (rw e at set) m.core.level small refl (omega arith) (few_levels s (accepted s a).three))

      spared : (ch : Option Change) → Concerns s ch → Written m.core.level m.core.top ch current t c' t' → Spared s (words current ended t) (words c' ended t')
      spared None h (e, i) = rw (e, i) (spared_none s (words current ended t))
      spared (Some (Create o w)) h ((c3, ((c2, ((c1, ((c0, (e, set0)), set1)), set2)), set3)), i) =
          let f = m.core.top in
          rw i (
          spared_then s (words current ended t) (words c1 ended t) (words c' ended (changed m.core.level t)) (spared_write s a (words current ended t) c1 o 0 f.r1 h.0 (omega arith) (rw e at set0))
          (spared_then s (words c1 ended t) (words c2 ended t) (words c' ended (changed m.core.level t)) (spared_write s a (words c1 ended t) c2 o 1 f.r2 h.0 (omega arith) set1)
          (spared_then s (words c2 ended t) (words c3 ended t) (words c' ended (changed m.core.level t)) (spared_write s a (words c2 ended t) c3 o 2 f.r3 h.0 (omega arith) set2)
          (spared_then s (words c3 ended t) (words c' ended t) (words c' ended (changed m.core.level t)) (spared_write s a (words c3 ended t) c' o existence (Some w) h.0 (omega arith) set3)
          (spared_change s (words c' ended t) m.core.level small))))
          )
      spared (Some (Withdraw o)) h ((c0, (e, set)), i) =
          rw i (
          spared_then s (words current ended t) (words c' ended t) (words c' ended (changed m.core.level t)) (spared_write s a (words current ended t) c' o existence withdrawn h (omega arith) (rw e at set))
          (spared_change s (words c' ended t) m.core.level small)
          )

    pub change_done : (t c' t' : List ℕ) → Written m.core.level m.core.top r.change current t c' t' → ChangeDone s m r.manager current t c' t'
    change_done t c' t' written =
        let stepping : (g : Progress) (ended : List ℕ) → RepresentedBy s g current ended t → record { manager = manager_of r.manager; effect = change_of (frame_of m.core.top) r.change } ≡ stepped (program_of s) (field_now (program_of s) g) (manager_of m) =
        λ g ended q. done.is (field_now (program_of s) g) (own_existence a g q m.core.level) in
        record {
          is = λ ended g q. ap (λ d. d.manager) (stepping g ended q);
          does = λ ended g run x q.
              subst (λ e. RepresentedBy s (effected run m.core.level x (manager_of m) e g) c' ended t') (ap (λ d. d.effect) (stepping g ended q))
              (does ended g run x q r.change change_there written);
          spared = λ ended. spared ended r.change change_there written;
          held = done.held;
          level_is = done.level_is;
          first_is = done.first_is;
        }
