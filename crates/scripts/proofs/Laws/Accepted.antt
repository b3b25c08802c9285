-- What acceptance says of the steps that a manager makes: they concern present objects, and keep frames known. Assumes nothing.
use Prim.Native.Nat.{ℕ, zero, suc, ◌+◌, ◌≤◌, ◌<◌}
use mathlib.Core.Path.{◌≡◌, refl, sym, ◌∙◌, ap, subst}
use mathlib.Core.Bool.{true, false}
use mathlib.Core.List.{List}
use native.Mathlib.Decide.{dec_lt}
use native.Mathlib.Omega.{arith}
use borrow.Author.Tests.{leb-true, ltb-true}
use lib.Dec.{ltb}
use lib.ListN.{length, get_or, get_or-eq_default}
use Rattle.lists.proofs.Laws.Range.{not_both, and_left, and_right}
use Rattle.session.specs.Limits.{max_method, names, fields}
use Rattle.session.specs.Parts.{level_count, object_count}
use Rattle.session.specs.Questions.{operands_fit, verdict_of, Accepted}
use Rattle.session.specs.Meaning.{Numbered, level_of, method_of, step_at}
use Rattle.session.specs.Program.{Program, program_of}
use Rattle.session.specs.Value.{Value}
use Rattle.session.specs.declared.Message.{Message}
use Rattle.session.specs.declared.Step.{Step}
use Rattle.session.specs.declared.Step.TheVariants.{End, Set, Add, Jump, Read, Write, Send, Quit, Create, Withdraw}
use Rattle.lists.proofs.Laws.Lists.{holds, fails, truth}
use Rattle.session.proofs.Laws.Accepted.{levels_join, level_present, method_short, step_fits}
use Rattle.session.proofs.Laws.Numbers.{level_made, made_numbered}
use Rattle.fates.specs.Filter.{fate_of}
use Rattle.fates.specs.declared.Fate.{Fate}
use Rattle.fates.specs.declared.Fate.TheVariants as fate
use Rattle.scripts.specs.Existence.{existence, script_seen, used_of, withdrawn}
use Rattle.scripts.specs.Limits.{max_forks}
use Rattle.scripts.specs.Frame.{register, with_register, at_step}
use Rattle.scripts.specs.Manager.{is_end, script_step, next_step, written, created, called, forked, sent, operated}
use Rattle.scripts.specs.Valid.{Aimed, script_method, Known, Each}
use Rattle.scripts.specs.State.{Frame, Manager}
use Rattle.scripts.specs.Effect.{Effect}
use Rattle.scripts.specs.Effect as effect
use Rattle.scripts.proofs.Laws.Charged.{written_way, created_way}
use Rattle.scripts.proofs.Laws.Effects.{Readable, Legible, Fielded, Sound}
use Rattle.scripts.proofs.Laws.Stack.{runs_any, Preserves}

-- whatever its registers hold, a frame is as known
pub known_register : (s : List ℕ) (f : Frame) (k : ℕ) (v : Value) → Known s f → Known s (with_register f k v)
unfolding with_register
known_register s f zero v h = record { present = h.present; scripted = h.scripted; named = h.named; near = h.near }
known_register s f (suc zero) v h = record { present = h.present; scripted = h.scripted; named = h.named; near = h.near }
known_register s f (suc (suc zero)) v h = record { present = h.present; scripted = h.scripted; named = h.named; near = h.near }
known_register s f (suc (suc (suc k))) v h = record { present = h.present; scripted = h.scripted; named = h.named; near = h.near }

-- steps whose operands fit send to objects that have numbers
pub fits_aimed : (s : List ℕ) (count : ℕ) (i : Step) → operands_fit (level_count s) (object_count s) count i ≡ true → Aimed s i
unfolding operands_fit
fits_aimed s count End q = tt
fits_aimed s count (Set a n) q = tt
fits_aimed s count (Add a b) q = tt
fits_aimed s count (Jump a b) q = tt
fits_aimed s count (Read a b) q = tt
fits_aimed s count (Write a b) q = tt
fits_aimed s count (Send a b c) q = search (and_left, and_right, q)
fits_aimed s count (Quit a) q = tt
fits_aimed s count (Create a) q = tt
fits_aimed s count Withdraw q = tt

-- and write fields
fits_fielded : (levels o count : ℕ) (i : Step) → operands_fit levels o count i ≡ true → Fielded i
unfolding operands_fit
fits_fielded levels o count End q = tt
fits_fielded levels o count (Set a n) q = tt
fits_fielded levels o count (Add a b) q = tt
fits_fielded levels o count (Jump a b) q = tt
fits_fielded levels o count (Read a b) q = tt
fits_fielded levels o count (Write a b) q = ltb-true b fields (search (and_left, and_right, q))
fits_fielded levels o count (Send a b c) q = tt
fits_fielded levels o count (Quit a) q = tt
fits_fielded levels o count (Create a) q = tt
fits_fielded levels o count Withdraw q = tt

-- none of them is the end
fits_not_end : (levels o count : ℕ) (i : Step) → operands_fit levels o count i ≡ true → is_end i ≡ false
unfolding operands_fit
fits_not_end levels o count End q = absurd (not_both false q refl)
fits_not_end levels o count (Set a n) q = refl
fits_not_end levels o count (Add a b) q = refl
fits_not_end levels o count (Jump a b) q = refl
fits_not_end levels o count (Read a b) q = refl
fits_not_end levels o count (Write a b) q = refl
fits_not_end levels o count (Send a b c) q = refl
fits_not_end levels o count (Quit a) q = refl
fits_not_end levels o count (Create a) q = refl
fits_not_end levels o count Withdraw q = refl

-- a script that is read has the methods of a present object, or none
readable_low : (p : Program) (l w : ℕ) → Readable p l w → w ≤ p.objects
readable_low p l zero r = omega arith
readable_low p l (suc w) r = r.0

pub legible_low : (s : List ℕ) (read : ℕ → ℕ → Value) → Legible (program_of s) read → (o : ℕ) → script_seen read o ≤ object_count s
unfolding program_of
legible_low s read g o = readable_low (program_of s) (level_of s o) (script_seen read o) (g o)

-- and they keep frames known
fits_preserves : (s : List ℕ) (p : Program) (read : ℕ → ℕ → Value) (m : Manager) (f : Frame) (count : ℕ) (i : Step) → ((o : ℕ) → script_seen read o ≤ object_count s) → Known s f → count ≤ max_method → operands_fit (level_count s) (object_count s) count i ≡ true → Preserves (Known s) p read m f i
unfolding operands_fit
fits_preserves s p read m f count End t h low q = tt
fits_preserves s p read m f count (Set a n) t h low q = tt
fits_preserves s p read m f count (Add a b) t h low q = tt
fits_preserves s p read m f count (Jump a b) t h low q =
    let target : b ≤ count = leb-true b count (search (and_left, and_right, q)) in
    record { present = h.present; scripted = h.scripted; named = h.named; near = omega arith }
fits_preserves s p read m f count (Read a b) t h low q = tt
fits_preserves s p read m f count (Write a b) t h low q = tt
fits_preserves s p read m f count (Send a b c) t h low q =
    runs_any (fate_of p.levels p.dom m.level (p.level f.object) (p.level c)) (λ r v. record {
      present = search (and_left, and_right, q);
      scripted = t c;
      named = ltb-true b names (search (and_left, and_right, q));
      near = omega arith;
    })
fits_preserves s p read m f count (Quit a) t h low q = tt
fits_preserves s p read m f count (Create a) t h low q = tt
fits_preserves s p read m f count Withdraw t h low q = tt

-- what is written is a field, or the existence, of an object that has a number, and a message that is forked is to an object that has one,
-- by a name at most 15
abbrev pub EffectPresent : List ℕ → Effect → Type 0
EffectPresent s effect.Nothing = Unit
EffectPresent s (effect.Write ws) = Each (λ w. Numbered s w.object × (w.field ≤ existence)) ws
EffectPresent s (effect.Fork u message) = Numbered s message.object × (message.name < names)

written_present : (s : List ℕ) (p : Program) (read : ℕ → ℕ → Value) (m : Manager) (f : Frame) (k : ℕ) (v : Value) → Numbered s f.object → k ≤ existence → EffectPresent s (written p read m f k v).effect
written_present s p read m f k v h q =
    written_way (λ d. EffectPresent s d.effect) p read m f k v (λ l t c. ((h, q), tt)) tt tt

created_present : (s : List ℕ) (p : Program) (read : ℕ → ℕ → Value) (m : Manager) (f : Frame) (a : ℕ) → m.level < level_count s → EffectPresent s (created p read m f a).effect
created_present s p read m f a h =
    created_way (λ d. EffectPresent s d.effect) p read m f a
    (λ l t u c.
    let o = made_numbered s m.level (used_of read m.level) h u in
    ((o, omega arith), ((o, omega arith), ((o, omega arith), ((o, omega arith), tt)))))
    tt tt

forked_present : (s : List ℕ) (m : Manager) (f : Frame) (a u : ℕ) (message : Message) → Numbered s message.object → message.name < names → EffectPresent s (forked m f a u message).effect
unfolding forked
forked_present s m f a u message h q = elim (truth (ltb m.forks max_forks)) [
  | holds e ↦ rw e (h, q)
  | fails e ↦ rw e tt
]

sent_present : (s : List ℕ) (read : ℕ → ℕ → Value) (m : Manager) (f : Frame) (a b c : ℕ) (t : Fate) → Numbered s c → b < names → EffectPresent s (sent read m f a b c t).effect
unfolding sent called
sent_present s read m f a b c fate.Call h q = tt
sent_present s read m f a b c fate.Discard h q = tt
sent_present s read m f a b c fate.Block h q = tt
sent_present s read m f a b c (fate.Fork u) h q = forked_present s m f a u _ h q

fits_present : (s : List ℕ) (p : Program) (read : ℕ → ℕ → Value) (m : Manager) (f : Frame) (count : ℕ) (i : Step) → Numbered s f.object → m.level < level_count s → operands_fit (level_count s) (object_count s) count i ≡ true → EffectPresent s (operated p read m f i).effect
unfolding operands_fit operated
fits_present s p read m f count End h g q = tt
fits_present s p read m f count (Set a n) h g q = tt
fits_present s p read m f count (Add a b) h g q = tt
fits_present s p read m f count (Jump a b) h g q = tt
fits_present s p read m f count (Read a b) h g q = tt
fits_present s p read m f count (Write a b) h g q =
    written_present s p read m f b (register f a) h (omega (arith, ltb-true b fields (search (and_left, and_right, q))))
fits_present s p read m f count (Send a b c) h g q =
    sent_present s read m f a b c _ (search (and_left, and_right, q)) (ltb-true b names (search (and_left, and_right, q)))
fits_present s p read m f count (Quit a) h g q = tt
fits_present s p read m f count (Create a) h g q = created_present s p read m f a g
fits_present s p read m f count Withdraw h g q = written_present s p read m f existence withdrawn h (omega arith)

module _ (s : List ℕ) (a : verdict_of s ≡ Accepted) where
  -- a step writes a field
  step_fielded : (o name j : ℕ) → Fielded (step_at s o name j)
  step_fielded o name j = elim (dec_lt j (length (method_of s o name))) [
    | yes h ↦ fits_fielded (level_count s) (object_count s) (length (method_of s o name)) _ (step_fits s a o name j h)
    | no h ↦ subst Fielded (sym (get_or-eq_default (method_of s o name) End (omega (arith, h)))) tt
  ]

  -- the program of an accepted session is sound
  pub program_sound : Sound (program_of s)
  unfolding program_of
  program_sound = record { lattice = levels_join s a; placed = level_present s a; fielded = step_fielded; owned = level_made s a }

  -- a script's steps are those of its method, at most 16, and their operands fit
  pub script_is : (w name j : ℕ) → script_step (program_of s) w name j ≡ get_or (script_method s w name) j End
  unfolding program_of
  script_is zero name j = refl
  script_is (suc w) name j = refl

  pub script_short : (w name : ℕ) → length (script_method s w name) ≤ max_method
  script_short zero name = omega arith
  script_short (suc w) name = method_short s a w name

  script_fits : (w name j : ℕ) → j < length (script_method s w name) → operands_fit (level_count s) (object_count s) (length (script_method s w name)) (get_or (script_method s w name) j End) ≡ true
  script_fits zero name j h = absurd (omega (arith, h))
  script_fits (suc w) name j h = step_fits s a w name j h

  -- behind them is the end
  behind : (f : Frame) → length (script_method s f.script f.name) ≤ f.next → next_step (program_of s) f ≡ End
  behind f h = script_is f.script f.name f.next ∙ get_or-eq_default (script_method s f.script f.name) End h

  -- a frame's next step stands in its method, or is the end
  in_method : (f : Frame) → is_end (next_step (program_of s) f) ≡ false → f.next < length (script_method s f.script f.name)
  in_method f e = elim (dec_lt f.next (length (script_method s f.script f.name))) [
    | yes h ↦ h
    | no h ↦ absurd (not_both (is_end (next_step (program_of s) f)) (ap is_end (behind f (omega (arith, h)))) e)
  ]

  -- its operands fit
  inside_fits : (f : Frame) → f.next < length (script_method s f.script f.name) → operands_fit (level_count s) (object_count s) (length (script_method s f.script f.name)) (next_step (program_of s) f) ≡ true
  inside_fits f h = rw (script_is f.script f.name f.next) (script_fits f.script f.name f.next h)

  pub next_fits : (f : Frame) → is_end (next_step (program_of s) f) ≡ false → operands_fit (level_count s) (object_count s) (length (script_method s f.script f.name)) (next_step (program_of s) f) ≡ true
  next_fits f e = inside_fits f (in_method f e)

  -- inside its method no step is the end, and outside every one is
  pub inside_not_end : (f : Frame) → f.next < length (script_method s f.script f.name) → is_end (next_step (program_of s) f) ≡ false
  inside_not_end f h = fits_not_end _ _ _ _ (inside_fits f h)

  pub outside_end : (f : Frame) → length (script_method s f.script f.name) ≤ f.next → is_end (next_step (program_of s) f) ≡ true
  outside_end f h = ap is_end (behind f h)

  -- it sends to an object that has a number
  pub next_aimed : (f : Frame) → Aimed s (next_step (program_of s) f)
  next_aimed f = elim (dec_lt f.next (length (script_method s f.script f.name))) [
    | yes h ↦ fits_aimed s (length (script_method s f.script f.name)) _ (inside_fits f h)
    | no h ↦ subst (Aimed s) (sym (behind f (omega (arith, h)))) tt
  ]

  -- a frame that has passed its step is known
  pub passed_known : (f : Frame) → Known s f → is_end (next_step (program_of s) f) ≡ false → Known s (at_step f (f.next + 1))
  passed_known f h e =
      record {
        present = h.present;
        scripted = h.scripted;
        named = h.named;
        near = omega (arith, in_method f e, script_short f.script f.name);
      }

  -- and its step keeps frames known
  pub next_preserves : (read : ℕ → ℕ → Value) → Legible (program_of s) read → (m : Manager) (f : Frame) → Known s f → Preserves (Known s) (program_of s) read m (at_step f (f.next + 1)) (next_step (program_of s) f)
  next_preserves read g m f h = elim (dec_lt f.next (length (script_method s f.script f.name))) [
    | yes l ↦
        let short = script_short f.script f.name in
        fits_preserves s (program_of s) read m (at_step f (f.next + 1)) (length (script_method s f.script f.name)) _ (legible_low s read g)
        (record { present = h.present; scripted = h.scripted; named = h.named; near = omega arith })
        short (inside_fits f l)
    | no l ↦ subst (Preserves (Known s) (program_of s) read m (at_step f (f.next + 1))) (sym (behind f (omega (arith, l)))) tt
  ]

  -- what it does outside concerns objects that have numbers only
  pub next_present : (read : ℕ → ℕ → Value) (m : Manager) (f : Frame) → m.level < level_count s → Known s f → EffectPresent s (operated (program_of s) read m (at_step f (f.next + 1)) (next_step (program_of s) f)).effect
  unfolding operated
  next_present read m f g h = elim (dec_lt f.next (length (script_method s f.script f.name))) [
    | yes l ↦
        fits_present s (program_of s) read m (at_step f (f.next + 1)) (length (script_method s f.script f.name)) _ h.present g
        (inside_fits f l)
    | no l ↦
        subst (λ i. EffectPresent s (operated (program_of s) read m (at_step f (f.next + 1)) i).effect) (sym (behind f (omega (arith, l)))) tt
  ]
