-- What the operations of a core make of the manager that it stands for: what the definitions' operations do. Assumes nothing.
use Prim.Native.Nat.{ℕ, ◌≤◌, ◌<◌}
use mathlib.Core.Path.{◌≡◌, refl, sym, ◌∙◌, ap, subst}
use mathlib.Core.Bool.{Bool, true, false, not}
use mathlib.Core.List.{List}
use native.Mathlib.Omega.{arith}
use borrow.Author.Tests.{leb-true, ltb-true, eqb-false, eq-eqb, ne_eqb}
use lib.Dec.{eqb, ltb}
use lib.ListN.{length}
use Rattle.lists.proofs.Laws.Range.{not_both, and_left, and_right}
use Rattle.dominance.specs.Table.{dominates}
use Rattle.session.specs.Limits.{names, fields, registers, max_objects, max_numbers}
use Rattle.session.specs.Parts.{level_count, object_count, masks_of}
use Rattle.session.specs.Questions.{operands_fit}
use Rattle.session.specs.Meaning.{Numbered, level_of}
use Rattle.session.specs.Program.{program_of}
use Rattle.session.specs.Value.{Value}
use Rattle.std.specs.Prelude.{None}
use Rattle.session.specs.declared.Step.{Step}
use Rattle.session.specs.declared.Step.TheVariants as op
use Rattle.lists.proofs.Laws.Lists.{holds, fails, truth}
use Rattle.session.proofs.Laws.Contents.{object_limit}
use Rattle.session.proofs.Laws.Numbers.{number_low, number_few}
use Rattle.fates.specs.Filter.{fate_of}
use Rattle.fates.specs.declared.Fate.{Fate}
use Rattle.fates.specs.declared.Fate.TheVariants as fate
use Rattle.scripts.specs.Existence.{existence, script_seen, is_there}
use Rattle.scripts.specs.Effect as effect
use Rattle.scripts.specs.State as defined
use Rattle.scripts.specs.Frame.{frame_for, register, with_register}
use Rattle.scripts.specs.Manager.{with_top, is_end, next_step, charged, written, called, sent, operated, stepped}
use Rattle.scripts.specs.Valid.{script_method}
use Rattle.scripts.proofs.Laws.Accepted.{next_fits}
use Rattle.scripts.proofs.Laws.Send.{send_by, lent_fate}
use Rattle.fields.specs.Reads.{own_script_of, unknown, lacking, script_found, found_of, Findable, Small, is_own, Agrees}
use Rattle.std.specs.Prelude.{Ok, Err}
use Rattle.fields.proofs.Laws.Reads.{scripted_small, own_known, found_scripted, seen_script, seen_there_lem, found_seen}
use Rattle.frames.specs.Frames.{script_in, name_in, frame_of, Method}
use Rattle.frames.proofs.Laws.Frames.{unfinished_there}
use Rattle.cores.specs.Core.{standing, is_over, is_asking, Tall, Present, Sits}
use Rattle.cores.specs.Moves.{Able, Moves, Makes, passed, past_of, causing, finished_as, ending_as, own_field, counting}
use Rattle.operations.specs.Operations.{Operable, on, missing, unseen, pause_on, asking, OperationMade, Operated}
use Rattle.cores.specs.declared.Core.{Core}
use Rattle.cores.specs.declared.Effect.{Effect}
use Rattle.cores.specs.declared.Effect.TheVariants.{Nothing, Read, Pop}
use Rattle.cores.proofs.Laws.Makes.{makes_moved}

-- a core that waits for nothing, with another effect
sits_causing : (s : List ℕ) (c : Core) (x : Effect) → c.effect ≡ Nothing → is_over x ≡ false → Tall x c.height → Sits s c → Sits s (causing c x)
sits_causing s c x internal lasts tall sits =
    record {
      level = sits.level;
      low = sits.low;
      made = sits.made;
      wrote = sits.wrote;
      forked = sits.forked;
      fits = sits.fits;
      top = sits.top;
      over = λ q. absurd (not_both (is_over x) q lasts);
      runs = λ _. sits.runs (rw internal);
      some = λ _. sits.some (rw internal);
      tall = tall;
    }

module _ (s current cache : List ℕ) (all unchanged : Bool) (i : Step) (c r : Core) where
  -- an operation that was made
  pub operation_made : (P : List ℕ → Type 0) (d : defined.Manager → defined.Stepped) → Makes P c r d → Sits s c → P s → ((read : ℕ → ℕ → Value) → Agrees s current cache all unchanged c.level read → (gs : List defined.Frame) → d (standing c gs) ≡ operated (program_of s) read (standing c gs) (passed (standing c gs)) i) → OperationMade s current cache all unchanged i c r
  operation_made P d m sits h e =
      record {
        is = λ _ read agrees gs tall. m.is (program_of s) gs tall ∙ ap (counting (program_of s)) (e read agrees gs);
        asks = λ q. absurd (not_both (is_asking r.effect) q m.asks);
        level_is = m.level_is;
        first_is = m.first_is;
        steps_are = λ _. m.steps_are;
        tall = m.tall;
        lower = m.lower;
        flat = m.flat;
        sits = m.sits s sits;
        present = m.present s h;
      }

  -- so too where it left another top only
  pub operation_moved : (f : defined.Frame) → Able c → Sits s c → Moves c r f → ((read : ℕ → ℕ → Value) → Agrees s current cache all unchanged c.level read → (gs : List defined.Frame) → record { manager = with_top (standing c gs) f; effect = effect.Nothing } ≡ operated (program_of s) read (standing c gs) (passed (standing c gs)) i) → OperationMade s current cache all unchanged i c r
  operation_moved f able sits m e =
      operation_made (λ _. Unit) (λ n. record { manager = with_top n f; effect = effect.Nothing })
      (makes_moved (λ _. Unit) c r f _ able m (λ gs tall. refl)) sits tt e

  -- or it waits
  pub operation_asked : (x : Effect) → Able c → Sits s c → r ≡ causing c x → is_asking x ≡ true → is_over x ≡ false → Tall x c.height → Present s x → pause_on s current cache all unchanged c.level c.top.object i ≡ asking x → OperationMade s current cache all unchanged i c r
  operation_asked x able sits e asks lasts tall present pause =
      let x_is : r.effect ≡ x = ap (λ y. y.effect) e in
      record {
        is = λ q. absurd (not_both (is_asking r.effect) (ap is_asking x_is ∙ asks) q);
        asks = λ _. (e ∙ ap (causing c) (sym x_is), pause ∙ ap asking (sym x_is));
        level_is = ap (λ y. y.level) e;
        first_is = ap (λ y. y.first) e;
        steps_are = λ q. absurd (not_both (is_asking r.effect) (ap is_asking x_is ∙ asks) q);
        tall = λ _. ap (λ y. y.height) e;
        lower = omega (arith, ap (λ y. y.height) e);
        flat = λ _. ap (λ y. y.height) e;
        sits = subst (Sits s) (sym e) (sits_causing s c x able.internal lasts tall sits);
        present = subst (λ y. Present s y.effect) (sym e) present;
      }

-- a WRITE, by whether the object is of the level, and there
pub own_level : (s : List ℕ) (all : Bool) (level o : ℕ) → level_of s o ≡ level → is_own s all level o ≡ true
own_level s true level o e = refl
own_level s false level o e = eq-eqb (level_of s o) level e

module _ (s masks current cache : List ℕ) (all unchanged : Bool) (c : Core) (ready : Operable s masks current cache c) (a b : ℕ) where
  number : c.top.object < max_numbers
  number = number_few s ready.leveled.accepted c.top.object ready.sits.top.called.0

  small : Small current
  small = scripted_small s current (object_limit s ready.leveled.accepted) ready.current_scripted

  own_there : (read : ℕ → ℕ → Value) → Agrees s current cache all unchanged c.level read → level_of s c.top.object ≡ c.level → is_there (read c.top.object existence) ≡ not (eqb (script_found current cache true unchanged c.top.object) 0)
  own_there read agrees e =
      let own = own_level s all c.level c.top.object e in
      rw own at (seen_there_lem s current cache all unchanged c.level read agrees c.top.object ready.sits.top.called.0 (rw own (own_known current cache unchanged c.top.object small number)))

  pub write_own_is : (read : ℕ → ℕ → Value) → Agrees s current cache all unchanged c.level read → (gs : List defined.Frame) → level_of s c.top.object ≡ c.level → (script_found current cache true unchanged c.top.object ≡ 0 → ⊥) → charged (standing c gs) (passed (standing c gs)) (passed (standing c gs)) (own_field (passed (standing c gs)) b (register (passed (standing c gs)) a)) ≡ operated (program_of s) read (standing c gs) (passed (standing c gs)) (op.Write a b)
  unfolding operated written program_of
  write_own_is read agrees gs e some =
      rw (eq-eqb (level_of s c.top.object) c.level e, own_there read agrees e, ne_eqb (script_found current cache true unchanged c.top.object) 0 some) refl

  pub write_gone_is : (read : ℕ → ℕ → Value) → Agrees s current cache all unchanged c.level read → (gs : List defined.Frame) → level_of s c.top.object ≡ c.level → script_found current cache true unchanged c.top.object ≡ 0 → record { manager = with_top (standing c gs) (past_of c); effect = effect.Nothing } ≡ operated (program_of s) read (standing c gs) (passed (standing c gs)) (op.Write a b)
  unfolding operated written program_of
  write_gone_is read agrees gs e none =
      rw (eq-eqb (level_of s c.top.object) c.level e, own_there read agrees e, none) refl

  pub write_apart_is : (read : ℕ → ℕ → Value) (gs : List defined.Frame) → (level_of s c.top.object ≡ c.level → ⊥) → record { manager = with_top (standing c gs) (past_of c); effect = effect.Nothing } ≡ operated (program_of s) read (standing c gs) (passed (standing c gs)) (op.Write a b)
  unfolding operated written program_of
  write_apart_is read gs e = rw (ne_eqb (level_of s c.top.object) c.level e) refl

-- a SEND, by what becomes of its message
module _ (s masks current cache : List ℕ) (all unchanged : Bool) (c r : Core) (ready : Operable s masks current cache c) (a b o x y : ℕ) (ex : x ≡ level_of s c.top.object) (ey : y ≡ level_of s o) where
  pub send_made : (t : Fate) (P : List ℕ → Type 0) (d : defined.Manager → defined.Stepped) → fate_of (length masks) (dominates masks) c.level x y ≡ t → Makes P c r d → P s → ((read : ℕ → ℕ → Value) → Agrees s current cache all unchanged c.level read → (gs : List defined.Frame) → d (standing c gs) ≡ sent read (standing c gs) (passed (standing c gs)) a b o t) → OperationMade s current cache all unchanged (op.Send a b o) c r
  send_made t P d e m h is =
      operation_made s current cache all unchanged (op.Send a b o) c r P d m ready.sits h
      (λ read agrees gs. is read agrees gs ∙ sym (send_by s masks ready.leveled read (standing c gs) (passed (standing c gs)) a b o c.level x y t refl ex ey e))

  pub send_blocked : fate_of (length masks) (dominates masks) c.level x y ≡ fate.Block → Able c → Moves c r (with_register (past_of c) a None) → OperationMade s current cache all unchanged (op.Send a b o) c r
  unfolding sent
  send_blocked e able m =
      send_made fate.Block (λ _. Unit) (λ n. record { manager = with_top n (with_register (past_of c) a None); effect = effect.Nothing }) e
      (makes_moved (λ _. Unit) c r (with_register (past_of c) a None) _ able m (λ gs tall. refl)) tt (λ read agrees gs. refl)

  fate_is : (t : Fate) → fate_of (length masks) (dominates masks) c.level x y ≡ t → fate_of (level_count s) (dominates (masks_of s)) c.level (level_of s c.top.object) (level_of s o) ≡ t
  fate_is t e = sym (lent_fate s masks ready.leveled c.level (level_of s c.top.object) (level_of s o)) ∙ rw (ex, ey) at e

  -- a frame is made with the script that is found
  pub send_called : (t : Fate) (returns : Bool) (script : ℕ) → Makes (λ s. Numbered s o × (script ≤ object_count s)) c r (λ m. called m (passed m) a (frame_for o script b a returns (register (passed m) a))) → fate_of (length masks) (dominates masks) c.level x y ≡ t → ((read : ℕ → ℕ → Value) (gs : List defined.Frame) → sent read (standing c gs) (passed (standing c gs)) a b o t ≡ called (standing c gs) (passed (standing c gs)) a (frame_for o (script_seen read o) b a returns (register (passed (standing c gs)) a))) → Numbered s o → script ≡ script_found current cache (is_own s all c.level o) unchanged o → eqb script unknown ≡ false → OperationMade s current cache all unchanged (op.Send a b o) c r
  send_called t returns script m e by n is known =
      send_made t _ _ e m
      (n, rw is (found_scripted s current cache (is_own s all c.level o) unchanged o ready.current_scripted ready.cache_scripted (own_low o n) (number_few s ready.leveled.accepted o n) (rw is at known)))
      (λ read agrees gs. rw (by read gs, seen_script s current cache all unchanged c.level read agrees o n (rw is at known), is) refl)
    where
      own_low : (o : ℕ) → Numbered s o → own_script_of o ≤ object_count s
      own_low o n = elim (truth (ltb o max_objects)) [
        | holds q ↦ rw q (omega (arith, number_low s ready.leveled.accepted o n (ltb-true o max_objects q)))
        | fails q ↦ rw q (omega arith)
      ]

  -- or it waits for that
  pub send_asked : (t : Fate) → fate_of (length masks) (dominates masks) c.level x y ≡ t → unseen o (script_found current cache (is_own s all c.level o) unchanged o) t ≡ on o existence → Able c → Numbered s o → r ≡ causing c (Read o existence) → OperationMade s current cache all unchanged (op.Send a b o) c r
  unfolding pause_on
  send_asked t e w able n is =
      operation_asked s current cache all unchanged (op.Send a b o) c r (Read o existence) able ready.sits is refl refl tt (n, omega arith)
      (ap (unseen o (script_found current cache (is_own s all c.level o) unchanged o)) (fate_is t e) ∙ w)

-- a READ, by what is found
module _ (s masks current cache : List ℕ) (all unchanged : Bool) (c r : Core) (ready : Operable s masks current cache c) (a b : ℕ) (able : Able c) (field : b < fields) where
  pub read_found : (v : Value) → Moves c r (with_register (past_of c) a v) → found_of current cache (is_own s all c.level c.top.object) unchanged c.top.object b ≡ Ok v → OperationMade s current cache all unchanged (op.Read a b) c r
  unfolding operated
  read_found v m e =
      operation_moved s current cache all unchanged (op.Read a b) c r (with_register (past_of c) a v) able ready.sits m
      (λ read agrees gs.
      ap (λ w. record { manager = with_top (standing c gs) (with_register (past_of c) a w); effect = effect.Nothing })
      (found_seen s current cache all unchanged c.level read agrees c.top.object ready.sits.top.called.0 b v field e))

  pub read_missing : (k : ℕ) → found_of current cache (is_own s all c.level c.top.object) unchanged c.top.object b ≡ Err (lacking k) → k ≤ existence → r ≡ causing c (Read c.top.object k) → OperationMade s current cache all unchanged (op.Read a b) c r
  unfolding pause_on
  read_missing k e low is =
      operation_asked s current cache all unchanged (op.Read a b) c r (Read c.top.object k) able ready.sits is refl refl tt (ready.sits.top.called.0, low) (ap (missing c.top.object) e)

-- the words answer to a question about an object that has a number
pub findable : (s masks current cache : List ℕ) (c : Core) (o : ℕ) → Operable s masks current cache c → Numbered s o → Findable current cache o
findable s masks current cache c o ready n =
    let few = object_limit s ready.leveled.accepted in
    record {
      fields_there = ready.fields_there;
      cache_there = ready.cache_there;
      object = number_few s ready.leveled.accepted o n;
      current_small = scripted_small s current few ready.current_scripted;
      cache_small = scripted_small s cache few ready.cache_scripted;
    }

-- the next step of a core, once it is known which
module _ (s current cache : List ℕ) (all unchanged : Bool) (c r : Core) where
  pub operated_made : (i : Step) → OperationMade s current cache all unchanged i c r → next_step (program_of s) (frame_of c.top) ≡ i → is_end i ≡ false → Operated s current cache all unchanged c r
  unfolding stepped
  operated_made i o e unfinished =
      let p = program_of s in
      record {
        steps = λ _ q. record {
          is = λ read agrees gs tall. o.is q read agrees gs tall ∙ ap (λ x. counting p (operated p read (standing c gs) (passed (standing c gs)) x)) (sym e);
          steps_are = o.steps_are q;
        };
        ends = λ q. absurd (not_both _ q (ap is_end e ∙ unfinished));
        asks = λ q. ((o.asks q).0, ap (pause_on s current cache all unchanged c.level c.top.object) e ∙ (o.asks q).1);
        level_is = o.level_is;
        first_is = o.first_is;
        tall = o.tall;
        lower = o.lower;
        flat = o.flat;
        sits = o.sits;
        present = o.present;
      }

-- the first frame has popped, which ended the manager
sits_finished : (s : List ℕ) (c : Core) (v : Value) → Sits s c → Sits s (finished_as c v)
sits_finished s c v sits =
    record {
      level = sits.level;
      low = omega arith;
      made = sits.made;
      wrote = sits.wrote;
      forked = sits.forked;
      fits = sits.fits;
      top = sits.top;
      over = λ _. refl;
      runs = λ q. absurd (not_both true refl q);
      some = λ q. absurd (not_both true refl q);
      tall = tt;
    }

module _ (s current cache : List ℕ) (all unchanged : Bool) (c r : Core) (sits : Sits s c) (internal : c.effect ≡ Nothing) (step : next_step (program_of s) (frame_of c.top) ≡ op.End) (is : r ≡ ending_as c) where
  end_finished : r ≡ finished_as c None → Operated s current cache all unchanged c r
  end_finished e =
      record {
        steps = λ q. absurd (not_both _ (ap is_end step) q);
        ends = λ _. is;
        asks = λ q. absurd (not_both (is_asking r.effect) q (ap (λ x. is_asking x.effect) e));
        level_is = ap (λ x. x.level) e;
        first_is = ap (λ x. x.first) e;
        tall = λ q. absurd (not_both (is_over r.effect) (ap (λ x. is_over x.effect) e) q);
        lower = omega (arith, ap (λ x. x.height) e);
        flat = λ some. absurd (some (ap (λ x. x.height) e));
        sits = subst (Sits s) (sym e) (sits_finished s c None sits);
        present = subst (λ x. Present s x.effect) (sym e) tt;
      }

  end_popped : (c.height ≡ 1 → ⊥) → r ≡ causing c (Pop None) → Operated s current cache all unchanged c r
  end_popped more e =
      let tall : r.height ≡ c.height = ap (λ x. x.height) e in
      let some : 0 < c.height = sits.some (rw internal) in
      record {
        steps = λ q. absurd (not_both _ (ap is_end step) q);
        ends = λ _. is;
        asks = λ q. absurd (not_both (is_asking r.effect) q (ap (λ x. is_asking x.effect) e));
        level_is = ap (λ x. x.level) e;
        first_is = ap (λ x. x.first) e;
        tall = λ _. tall;
        lower = omega arith;
        flat = λ _. tall;
        sits = subst (Sits s) (sym e) (sits_causing s c (Pop None) internal refl (omega (arith, more)) sits);
        present = subst (λ x. Present s x.effect) (sym e) tt;
      }

  pub operated_end : Operated s current cache all unchanged c r
  operated_end = elim (truth (eqb c.height 1)) [
    | holds q ↦ end_finished (rw q at is)
    | fails q ↦ end_popped (eqb-false c.height 1 q) (rw q at is)
  ]

-- a core whose next step is no end makes it, and its operands fit
module _ (s masks current cache : List ℕ) (c : Core) (o : Operable s masks current cache c) where
  pub able_next : (i : Step) → next_step (program_of s) (frame_of c.top) ≡ i → is_end i ≡ false → Able c
  able_next i e unfinished =
      record {
        few = o.few;
        unfinished = unfinished_there s o.leveled.accepted c.top o.sits.top (ap is_end e ∙ unfinished);
        internal = o.internal;
        runs = o.sits.runs (rw o.internal);
      }

  fits_next : (i : Step) → next_step (program_of s) (frame_of c.top) ≡ i → is_end i ≡ false → operands_fit (level_count s) (object_count s) (length (script_method s (script_in c.top.slot) (name_in c.top.slot))) i ≡ true
  fits_next i e unfinished = rw e at (next_fits s o.leveled.accepted (frame_of c.top) (ap is_end e ∙ unfinished))

  pub jump_near : (a b : ℕ) → next_step (program_of s) (frame_of c.top) ≡ op.Jump a b → b ≤ c.top.count
  unfolding operands_fit
  jump_near a b e =
      let q = fits_next (op.Jump a b) e refl in
      let near : b ≤ length (script_method s (script_in c.top.slot) (name_in c.top.slot)) = leb-true b _ (search (and_left, and_right, q)) in
      omega (arith, o.sits.top.at.count_is)

  pub read_field : (a b : ℕ) → next_step (program_of s) (frame_of c.top) ≡ op.Read a b → b < fields
  unfolding operands_fit
  read_field a b e =
      let q = fits_next (op.Read a b) e refl in
      ltb-true b fields (search (and_left, and_right, q))

  pub write_field : (a b : ℕ) → next_step (program_of s) (frame_of c.top) ≡ op.Write a b → b < fields
  unfolding operands_fit
  write_field a b e =
      let q = fits_next (op.Write a b) e refl in
      ltb-true b fields (search (and_left, and_right, q))

  pub send_register : (a b d : ℕ) → next_step (program_of s) (frame_of c.top) ≡ op.Send a b d → a < registers
  unfolding operands_fit
  send_register a b d e =
      let q = fits_next (op.Send a b d) e refl in
      ltb-true a registers (search (and_left, and_right, q))

  pub send_method : (a b d : ℕ) → next_step (program_of s) (frame_of c.top) ≡ op.Send a b d → Method d b s
  unfolding operands_fit
  send_method a b d e =
      let q = fits_next (op.Send a b d) e refl in
      (search (and_left, and_right, q), ltb-true b names (search (and_left, and_right, q)))
