-- CREATE and WITHDRAW by what becomes of them. Assumes nothing.
use Prim.Native.Nat.{ℕ, ◌+◌, ◌≤◌, ◌<◌}
use mathlib.Core.Path.{◌≡◌, refl, sym, ◌∙◌, ap}
use mathlib.Core.Bool.{true, false}
use mathlib.Core.List.{List, ◌∷◌}
use borrow.Author.Tests.{eq-eqb, ne_eqb, lt-ltb, le-ltb, le-leb, lt-leb}
use lib.ListN.{length}
use Rattle.std.specs.Prelude.{None}
use Rattle.session.specs.Limits.{made_objects}
use Rattle.session.specs.Meaning.{made_number, level_of}
use Rattle.session.specs.Program.{program_of}
use Rattle.session.specs.Value.{Value}
use Rattle.std.specs.Prelude.{None, Some}
use Rattle.session.specs.declared.Step.{Step}
use Rattle.session.specs.declared.Step.TheVariants as op
use Rattle.session.proofs.Laws.Numbers.{level_made, made_numbered}
use Rattle.scripts.specs.Existence.{existence, is_there, used_of, making, withdrawn}
use Rattle.scripts.specs.Limits.{max_writes}
use Rattle.scripts.specs.Effect.{Written}
use Rattle.scripts.specs.Effect as effect
use Rattle.scripts.specs.State as defined
use Rattle.scripts.specs.Frame.{with_register}
use Rattle.scripts.specs.Manager.{with_top, with_counts, is_end, next_step, charged, written, created, operated, stepped, concluded}
use Rattle.scripts.proofs.Laws.Existence.{there_script, used_reads}
use Rattle.fields.specs.Fields.{field_at, script_in}
use Rattle.frames.specs.Frames.{frame_of}
use Rattle.frames.proofs.Laws.Frames.{unfinished_there}
use Rattle.cores.specs.Core.{bare, standing, effect_of, comes_to, is_done, Sits}
use Rattle.cores.specs.Moves.{Able, Moves, Makes, passed, past_of, own_field, counting}
use Rattle.changes.specs.Changes.{change_of, Changeable, OwnExistence, Spends, Stood, ChangeMade, StepChanged}
use Rattle.cores.specs.declared.Core.{Core}
use Rattle.changes.specs.declared.Changed.{Changed}
use Rattle.cores.specs.declared.Effect.TheVariants.{Nothing, End}
use Rattle.cores.proofs.Laws.Makes.{effecting, going, makes_going, makes_moved}

stood_of : (s : List ℕ) (P : List ℕ → Type 0) (c r : Core) (d : defined.Manager → defined.Stepped) → Makes P c r d → Sits s c → r.forks ≡ c.forks → is_done r.effect ≡ true → effect_of r.effect ≡ effect.Nothing → Stood s c r
stood_of s P c r d m sits forks done quiet =
    record {
      level_is = m.level_is;
      first_is = m.first_is;
      forks_are = forks;
      steps_are = m.steps_are;
      tall = m.tall;
      lower = m.lower;
      flat = m.flat;
      asks = m.asks;
      done = done;
      quiet = quiet;
      sits = m.sits s sits;
    }

module _ (s current : List ℕ) (i : Step) (c : Core) (r : Changed) (able : Able c) (sits : Sits s c) where
  -- a step that leaves another top only
  pub change_moved : (f : defined.Frame) (n : Core) → Moves c n f → (r.core ≡ n) × (r.change ≡ None) → ((read : ℕ → ℕ → Value) → OwnExistence s current c.level read → (gs : List defined.Frame) → record { manager = with_top (standing c gs) f; effect = effect.Nothing } ≡ operated (program_of s) read (standing c gs) (passed (standing c gs)) i) → ChangeMade s current i c r
  change_moved f n moved left e =
      let m : Moves c r.core f = rw left.0 moved in
      let made = makes_moved (λ _. Unit) c r.core f (λ n. record { manager = with_top n f; effect = effect.Nothing }) able m (λ gs tall. refl) in
      let quiet : r.core.effect ≡ Nothing = ap (λ x. x.effect) m.core_is ∙ able.internal in
      record {
        is = λ read own gs tall. (
          ap (λ x. x.manager) (made.is (program_of s) gs tall ∙ ap (counting (program_of s)) (e read own gs)),
          rw left.1 (ap (λ x. x.effect) (e read own gs)),
        );
        stood = stood_of s (λ _. Unit) c r.core _ made sits (ap (λ x. x.forks) m.core_is) (rw quiet refl) (rw quiet refl);
      }

  -- one that would write too much
  pub change_spent : (g : defined.Manager → defined.Frame) (ws : defined.Manager → List Written) (n : Core) → Spends c n × (n.forks ≡ c.forks) × (n.effect ≡ End) → (r.core ≡ n) × (r.change ≡ None) → ((m : defined.Manager) → max_writes < c.writes + length (ws m)) → ((read : ℕ → ℕ → Value) → OwnExistence s current c.level read → (gs : List defined.Frame) → charged (standing c gs) (passed (standing c gs)) (g (standing c gs)) (ws (standing c gs)) ≡ operated (program_of s) read (standing c gs) (passed (standing c gs)) i) → ChangeMade s current i c r
  unfolding charged
  change_spent g ws n ended left full e =
      let spends : Spends c r.core = rw left.0 ended.0 in
      let forks : r.core.forks ≡ c.forks = rw left.0 ended.1 in
      let over : r.core.effect ≡ End = rw left.0 ended.2 in
      let made = spends g ws full in
      record {
        is = λ read own gs tall. (
          ap (λ x. x.manager) (made.is (program_of s) gs tall ∙ ap (counting (program_of s)) (e read own gs)),
          rw left.1 (rw (lt-leb (c.writes + length (ws (standing c gs))) max_writes (full (standing c gs))) at (ap (λ x. x.effect) (e read own gs))),
        );
        stood = stood_of s (λ _. Unit) c r.core _ made sits forks (rw over refl) (rw over refl);
      }

  -- one that writes
  pub change_charged : (n : Core) (f : defined.Frame) (k : ℕ) (ws : List Written) → Moves c n f → r.core ≡ effecting n (n.writes + k) n.forks n.effect → length ws ≡ k → c.writes + k ≤ max_writes → change_of (frame_of c.top) r.change ≡ effect.Write ws → ((read : ℕ → ℕ → Value) → OwnExistence s current c.level read → (gs : List defined.Frame) → charged (standing c gs) (passed (standing c gs)) f ws ≡ operated (program_of s) read (standing c gs) (passed (standing c gs)) i) → ChangeMade s current i c r
  unfolding comes_to charged
  change_charged n f k ws m is count low told e =
      let t = n.top in
      let internal : n.effect ≡ Nothing = ap (λ x. x.effect) m.core_is ∙ able.internal in
      let core : r.core ≡ going c t (c.writes + k) c.forks Nothing =
      is ∙ ap (effecting n (n.writes + k) n.forks) internal ∙ ap (λ y. effecting y (y.writes + k) y.forks Nothing) m.core_is in
      let made = makes_going (λ _. Unit) c r.core t (c.writes + k) c.forks Nothing
      (λ x. record { manager = with_counts (with_top x f) x.steps (x.writes + k) x.forks x.stamp x.ending; effect = effect.Nothing }) able core m.top_is.same m.near refl refl
      (λ s sits. (low, (sits.forked, tt))) (λ s _. tt)
      (λ p gs tall.
      ap (λ g. record { manager = concluded p (bare (going c t (c.writes + k) c.forks Nothing) (g ∷ gs)); effect = effect.Nothing }) m.top_is.frame
      ∙ rw able.runs refl) in
      let fits : (gs : List defined.Frame) → charged (standing c gs) (passed (standing c gs)) f ws ≡ record { manager = with_counts (with_top (standing c gs) f) c.steps (c.writes + k) c.forks (c.first + c.forks) c.ending; effect = effect.Write ws } =
      λ gs. rw (count, le-leb (c.writes + k) max_writes low) refl in
      record {
        is = λ read own gs tall. (
          ap (λ x. x.manager) (made.is (program_of s) gs tall) ∙ ap (λ x. (counting (program_of s) x).manager) (sym (fits gs) ∙ e read own gs),
          told ∙ ap (λ x. x.effect) (sym (fits gs) ∙ e read own gs),
        );
        stood = stood_of s (λ _. Unit) c r.core _ made sits (ap (λ x. x.forks) core) (rw core refl) (rw core refl);
      }

-- what the definitions' operations come to, by the words
module _ (s masks current : List ℕ) (c : Core) (ready : Changeable s masks current c) where
  own_script_lem : (read : ℕ → ℕ → Value) → OwnExistence s current c.level read → level_of s c.top.object ≡ c.level → read c.top.object existence ≡ field_at current c.top.object existence
  own_script_lem read own e = own c.top.object ready.sits.top.called.0 e

  own_used : (read : ℕ → ℕ → Value) → OwnExistence s current c.level read → used_of read c.level ≡ used_of (field_at current) c.level
  own_used read own =
      used_reads read (field_at current) c.level (λ i h. own (made_number c.level i) (made_numbered s c.level i ready.sits.level h) (level_made s ready.leveled.accepted c.level i ready.sits.level h))

  pub create_apart : (a : ℕ) (read : ℕ → ℕ → Value) (gs : List defined.Frame) → (level_of s c.top.object ≡ c.level → ⊥) → record { manager = with_top (standing c gs) (with_register (past_of c) a None); effect = effect.Nothing } ≡ operated (program_of s) read (standing c gs) (passed (standing c gs)) (op.Create a)
  unfolding operated created program_of
  create_apart a read gs e = rw (ne_eqb (level_of s c.top.object) c.level e) refl

  pub create_gone : (a : ℕ) (read : ℕ → ℕ → Value) → OwnExistence s current c.level read → (gs : List defined.Frame) → level_of s c.top.object ≡ c.level → script_in current c.top.object ≡ 0 → record { manager = with_top (standing c gs) (with_register (past_of c) a None); effect = effect.Nothing } ≡ operated (program_of s) read (standing c gs) (passed (standing c gs)) (op.Create a)
  unfolding operated created program_of
  create_gone a read own gs e none =
      rw (eq-eqb (level_of s c.top.object) c.level e, own_script_lem read own e, ← there_script (field_at current c.top.object existence), none) refl

  pub create_full : (a : ℕ) (read : ℕ → ℕ → Value) → OwnExistence s current c.level read → (gs : List defined.Frame) → level_of s c.top.object ≡ c.level → (script_in current c.top.object ≡ 0 → ⊥) → made_objects ≤ used_of (field_at current) c.level → record { manager = with_top (standing c gs) (with_register (past_of c) a None); effect = effect.Nothing } ≡ operated (program_of s) read (standing c gs) (passed (standing c gs)) (op.Create a)
  unfolding operated created program_of
  create_full a read own gs e some full =
      rw (eq-eqb (level_of s c.top.object) c.level e, own_script_lem read own e, ← there_script (field_at current c.top.object existence), ne_eqb (script_in current c.top.object) 0 some, own_used read own, le-ltb (used_of (field_at current) c.level) made_objects full) refl

  pub create_made : (a : ℕ) (read : ℕ → ℕ → Value) → OwnExistence s current c.level read → (gs : List defined.Frame) → level_of s c.top.object ≡ c.level → (script_in current c.top.object ≡ 0 → ⊥) → used_of (field_at current) c.level < made_objects
      → charged (standing c gs) (passed (standing c gs)) (with_register (past_of c) a (Some (made_number c.level (used_of (field_at current) c.level)))) (making (made_number c.level (used_of (field_at current) c.level)) c.top.r1 c.top.r2 c.top.r3 (script_in current c.top.object)) ≡ operated (program_of s) read (standing c gs) (passed (standing c gs)) (op.Create a)
  unfolding operated created program_of
  create_made a read own gs e some free =
      rw (eq-eqb (level_of s c.top.object) c.level e, own_script_lem read own e, ← there_script (field_at current c.top.object existence), ne_eqb (script_in current c.top.object) 0 some, own_used read own, lt-ltb (used_of (field_at current) c.level) made_objects free) refl

  pub withdraw_apart : (read : ℕ → ℕ → Value) (gs : List defined.Frame) → (level_of s c.top.object ≡ c.level → ⊥) → record { manager = with_top (standing c gs) (past_of c); effect = effect.Nothing } ≡ operated (program_of s) read (standing c gs) (passed (standing c gs)) op.Withdraw
  unfolding operated written program_of
  withdraw_apart read gs e = rw (ne_eqb (level_of s c.top.object) c.level e) refl

  pub withdraw_gone : (read : ℕ → ℕ → Value) → OwnExistence s current c.level read → (gs : List defined.Frame) → level_of s c.top.object ≡ c.level → is_there (field_at current c.top.object existence) ≡ false → record { manager = with_top (standing c gs) (past_of c); effect = effect.Nothing } ≡ operated (program_of s) read (standing c gs) (passed (standing c gs)) op.Withdraw
  unfolding operated written program_of
  withdraw_gone read own gs e none = rw (eq-eqb (level_of s c.top.object) c.level e, own_script_lem read own e, none) refl

  pub withdraw_made : (read : ℕ → ℕ → Value) → OwnExistence s current c.level read → (gs : List defined.Frame) → level_of s c.top.object ≡ c.level → is_there (field_at current c.top.object existence) ≡ true → charged (standing c gs) (passed (standing c gs)) (past_of c) (own_field (past_of c) existence withdrawn) ≡ operated (program_of s) read (standing c gs) (passed (standing c gs)) op.Withdraw
  unfolding operated written program_of
  withdraw_made read own gs e some = rw (eq-eqb (level_of s c.top.object) c.level e, own_script_lem read own e, some) refl

-- a core whose next step is no end makes it
pub changeable : (s masks current : List ℕ) (c : Core) → Changeable s masks current c → (i : Step) → next_step (program_of s) (frame_of c.top) ≡ i → is_end i ≡ false → Able c
changeable s masks current c o i e unfinished =
    record {
      few = o.few;
      unfinished = unfinished_there s o.leveled.accepted c.top o.sits.top (ap is_end e ∙ unfinished);
      internal = o.internal;
      runs = o.sits.runs (rw o.internal);
    }

-- the next step of a core, once it is known which
pub step_changed : (s current : List ℕ) (i : Step) (c : Core) (r : Changed) → ChangeMade s current i c r → next_step (program_of s) (frame_of c.top) ≡ i → StepChanged s current c r
unfolding stepped
step_changed s current i c r m e =
    let p = program_of s in
    record {
      is = λ read own gs tall.
          let x = m.is read own gs tall in
          (x.0 ∙ ap (λ j. (counting p (operated p read (standing c gs) (passed (standing c gs)) j)).manager) (sym e), x.1 ∙ ap (λ j. (operated p read (standing c gs) (passed (standing c gs)) j).effect) (sym e));
      stood = m.stood;
    }
