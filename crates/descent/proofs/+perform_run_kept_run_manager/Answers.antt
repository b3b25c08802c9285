use Prim.Native.Nat.{ℕ}
use mathlib.Core.Path.{◌≡◌, refl, sym, ◌∙◌, ap, subst}
use mathlib.Core.List.{List}
use mathlib.Core.Bool.{Bool, true}
use native.Mathlib.Omega.{arith}
use Rattle.scripts.specs.Limits.{max_script_steps}
use Rattle.scripts.specs.Ending.{is_running}
use Rattle.scripts.specs.Effect as effect
use Rattle.session.specs.Value.{Value}
use Rattle.cores.specs.Core.{effect_of}
use Rattle.cores.specs.declared.Effect.{Effect}
use Rattle.cores.specs.declared.Effect.TheVariants.{Nothing, End, Write, Read, Change, Fork, Call, Pop}
use Rattle.managers.specs.declared.Manager.{Manager}
use Rattle.managers.specs.Steps.{Advanced}
use Rattle.progress.proofs.Laws.Session.{tables}
use Rattle.descent.proofs.Laws.Perform.{perform_nothing, write_there, perform_writes, fork_runs, perform_forks}
use Rattle.descent.proofs.Laws.Run.{Looped, level_small, run_none, fork_starts, run_starts, run_preserves, run_able, run_performable, run_again, run_less, run_changeable, run_counted, run_changed, run_changed_less, run_room, run_ends}
use Rattle.descent.proofs.+perform_run_kept_run_manager.Goals as goal

-- an effect of another tag than a write's and a fork's
other : (e : Effect) → ((o k : ℕ) (v : Value) → e ≡ Write o k v → ⊥) → ((l o n : ℕ) (v : Value) → e ≡ Fork l o n v → ⊥) → effect_of e ≡ effect.Nothing
other Nothing w f = refl
other End w f = refl
other (Write object field value) w f = absurd (w object field value refl)
other (Read object field) w f = refl
other (Fork level object name parameter) w f = absurd (f level object name parameter refl)
other Change w f = refl
other (Call object way parameter) w f = refl
other (Pop reply) w f = refl

-- script steps are made by what the tallies tell of existence
told : {s current : List ℕ} {same unchanged : Bool} {m n : Manager} → same ≡ unchanged → Advanced s current current true same max_script_steps m n → Advanced s current current true unchanged max_script_steps m n
told is made = rw is at made

pub perform-set-requires : goal.perform-set-requires
perform-set-requires t c =
    let z = c.requires in
    let a = tables c.args.session.now in
    write_there a z.performable c.in-Write.is z.represents_some

pub perform-run_kept-requires : goal.perform-run_kept-requires
perform-run_kept-requires t c =
    let z = c.requires in
    let a = tables c.args.session.now in
    (omega arith, (z.represents_some, fork_runs a z.performable c.in-Fork.is c.child_stamp-stamp.ensures))

pub perform-returns-in-Write : goal.perform-returns-in-Write
perform-returns-in-Write t c =
    let z = c.requires in
    let a = tables c.args.session.now in
    let w = c.args.progress.now in
    perform_writes a z.performable c.in-Write.is w c.set.new.fields c.set.ensures

pub perform-returns-in-Fork : goal.perform-returns-in-Fork
perform-returns-in-Fork t c =
    let z = c.requires in
    let a = tables c.args.session.now in
    let w = c.args.progress.now in
    let r = c.run_kept in
    perform_forks a z.performable c.in-Fork.is c.child_stamp-stamp.ensures w r.new.progress r.ensures

pub perform-returns-in_default : goal.perform-returns-in_default
perform-returns-in_default t c =
    let z = c.requires in
    let a = tables c.args.session.now in
    let w = c.args.progress.now in
    perform_nothing a z.performable w (other c.args.effect c.in_default.not-Write c.in_default.not-Fork)

pub run_kept-has_room-requires : goal.run_kept-has_room-requires
run_kept-has_room-requires t c =
    let z = c.requires in
    let a = tables c.args.session.now in
    level_small a c.args.fork.level z.runnable.placed

pub run_manager-returns-then-left-eq0 : goal.run_manager-returns-then-left-eq0
run_manager-returns-then-left-eq0 t c =
    let w = c.args.progress.now in
    run_none c.args.session.now.bytes.now c.args.left c.args.fork w c.ended.result c.if-left-eq0.true

pub run_manager-start-m-requires : goal.run_manager-start-m-requires
run_manager-start-m-requires t c =
    let z = c.requires in
    let a = tables c.args.session.now in
    fork_starts a z.runnable.0 z.represents_some

pub run_manager-loop-progress-init : goal.run_manager-loop-progress-init
run_manager-loop-progress-init t c =
    let z = c.requires in
    let a = tables c.args.session.now in
    let w = c.args.progress.now in
    (refl, run_starts a z.runnable.0 c.if-left-eq0.false w c.start-m.result z.represents_some c.start-m.ensures)

pub run_manager-advance-m-requires-clause-advanceable : goal.run_manager-advance-m-requires-clause-advanceable
run_manager-advance-m-requires-clause-advanceable t c =
    let z = c.requires in
    let a = tables c.args.session.now in
    let l = c.loop-progress in
    (run_able a z.runnable.0 c.if-left-eq0.false l.invariant.1 z.represents_some (ap is_running (sym l.invariant.0) ∙ sym c.is_running.ensures ∙ c.loop-progress-test.true)).0

pub run_manager-change-m-requires : goal.run_manager-change-m-requires
run_manager-change-m-requires t c =
    let z = c.requires in
    let a = tables c.args.session.now in
    let l = c.loop-progress in
    let x = c.advance-m in
    let y = told c.is_unchanged-same.ensures x.ensures in
    record {
      changeable = run_changeable a z.runnable.0 c.if-left-eq0.false l.invariant.1 z.represents_some y c.in-Change.is;
      counted = run_counted a z.runnable.0 c.if-left-eq0.false l.invariant.1 z.represents_some y c.in-Change.is;
    }

pub run_manager-loop-progress-smaller-in-Change : goal.run_manager-loop-progress-smaller-in-Change
run_manager-loop-progress-smaller-in-Change t c =
    let z = c.requires in
    let a = tables c.args.session.now in
    let l = c.loop-progress in
    let x = c.advance-m in
    run_changed_less a z.runnable.0 c.if-left-eq0.false l.invariant.1 z.represents_some (told c.is_unchanged-same.ensures x.ensures) c.in-Change.is c.change-m.ensures.change_done
    (ap is_running (sym l.invariant.0) ∙ sym c.is_running.ensures ∙ c.loop-progress-test.true)

pub run_manager-loop-progress-preserved-in-Change : goal.run_manager-loop-progress-preserved-in-Change
run_manager-loop-progress-preserved-in-Change t c =
    let z = c.requires in
    let a = tables c.args.session.now in
    let l = c.loop-progress in
    let x = c.advance-m in
    let r = c.change-m in (
      refl,
      subst (λ e. Looped c.args.session.now.bytes.now c.args.left c.args.fork c.args.progress.now (record { current = r.new.self.current; ended = e; tallies = r.new.self.tallies }) r.result)
          (sym r.ensures.ended_stays)
          (run_changed a z.runnable.0 c.if-left-eq0.false l.invariant.1 z.represents_some (told c.is_unchanged-same.ensures x.ensures) c.in-Change.is r.ensures.change_done),
    )

pub run_manager-perform-requires : goal.run_manager-perform-requires
run_manager-perform-requires t c =
    let z = c.requires in
    let a = tables c.args.session.now in
    let l = c.loop-progress in (
      omega (arith, c.if-left-eq0.false),
      (
        run_preserves a z.runnable.0 c.if-left-eq0.false l.invariant.1 z.represents_some,
        run_performable a z.runnable.0 c.if-left-eq0.false l.invariant.1 z.represents_some (told c.is_unchanged-same.ensures c.advance-m.ensures),
      ),
    )

pub run_manager-loop-progress-smaller : goal.run_manager-loop-progress-smaller
run_manager-loop-progress-smaller t c =
    let z = c.requires in
    let a = tables c.args.session.now in
    let l = c.loop-progress in
    let x = c.advance-m in
    run_less a z.runnable.0 c.if-left-eq0.false l.invariant.1 z.represents_some (told c.is_unchanged-same.ensures x.ensures)
    (ap is_running (sym l.invariant.0) ∙ sym c.is_running.ensures ∙ c.loop-progress-test.true)
    c.in_default.not-Change

pub run_manager-loop-progress-preserved : goal.run_manager-loop-progress-preserved
run_manager-loop-progress-preserved t c =
    let z = c.requires in
    let a = tables c.args.session.now in
    let l = c.loop-progress in
    let r = c.perform in (
      refl,
      run_again a z.runnable.0 c.if-left-eq0.false l.invariant.1 z.represents_some (told c.is_unchanged-same.ensures c.advance-m.ensures) r.new.progress r.ensures,
    )

pub run_manager-close-requires : goal.run_manager-close-requires
run_manager-close-requires t c =
    let z = c.requires in
    let a = tables c.args.session.now in
    let l = c.loop-progress in
    (run_room a z.runnable.0 c.if-left-eq0.false l.invariant.1 z.represents_some z.runnable.1 (ap is_running (sym l.invariant.0) ∙ sym c.is_running.ensures ∙ c.loop-progress-test.false) c.ended-history.ensures).0

pub run_manager-returns : goal.run_manager-returns
run_manager-returns t c =
    let z = c.requires in
    let a = tables c.args.session.now in
    let l = c.loop-progress in
    let x = c.close in
    run_ends a z.runnable.0 c.if-left-eq0.false l.invariant.1 z.represents_some z.runnable.1
    (ap is_running (sym l.invariant.0) ∙ sym c.is_running.ensures ∙ c.loop-progress-test.false)
    c.ended-history.ensures x.new.ended x.new.self x.ensures
