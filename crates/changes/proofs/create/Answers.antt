-- The conditions in their order.
use Prim.Native.Nat.{◌+◌, ◌*◌}
use mathlib.Core.Path.{◌≡◌, refl, sym, ◌∙◌}
use native.Mathlib.Omega.{arith}
use Rattle.session.specs.Meaning.{made_number}
use Rattle.std.specs.Prelude.{None, Some}
use Rattle.session.specs.declared.Step.TheVariants as op
use Rattle.session.proofs.Laws.Verdict.{accepted}
use Rattle.session.proofs.Laws.Contents.{object_limit}
use Rattle.session.proofs.Laws.Numbering.{few_levels}
use Rattle.session.proofs.Laws.Numbers.{number_few}
use Rattle.scripts.specs.Existence.{used_of, making}
use Rattle.scripts.specs.Frame.{with_register}
use Rattle.fields.specs.Fields.{field_at, script_in}
use Rattle.cores.specs.Moves.{past_of}
use Rattle.changes.proofs.Laws.Changes.{change_moved, change_spent, change_charged, create_apart, create_gone, create_full, create_made}
use Rattle.changes.proofs.create.Goals as goal

pub returns-then-level_of-level : goal.returns-then-level_of-level
returns-then-level_of-level c =
    let m = c.args.core in
    let own = c.requires.1 in
    change_moved _ _ (op.Create c.args.a) m _ c.requires.0 own.sits (with_register (past_of m) c.args.a None) _ c.put.ensures c.unchanged.ensures
    (λ read o gs. create_apart _ _ _ m own c.args.a read gs (λ e. c.if-level_of-level.true (c.level_of.ensures ∙ e)))

pub script_in-script-requires : goal.script_in-script-requires
script_in-script-requires c =
    let own = c.requires.1 in
    record { room = own.fields_there; object = number_few _ own.leveled.accepted _ own.sits.top.called.0; field = omega arith }

pub returns-then-script-eq0 : goal.returns-then-script-eq0
returns-then-script-eq0 c =
    let m = c.args.core in
    let own = c.requires.1 in
    change_moved _ _ (op.Create c.args.a) m _ c.requires.0 own.sits (with_register (past_of m) c.args.a None) _ c.put-then-script-eq0.ensures c.unchanged-then-script-eq0.ensures
    (λ read o gs. create_gone _ _ _ m own c.args.a read o gs (sym c.level_of.ensures ∙ c.if-level_of-level.false) (sym c.script_in-script.ensures ∙ c.if-script-eq0.true))

pub used_of-used-requires : goal.used_of-used-requires
used_of-used-requires c =
    let own = c.requires.1 in
    (own.fields_there, omega (arith, own.sits.level, few_levels _ (accepted _ own.leveled.accepted).three))

pub returns-then-used-ge-MADE_OBJECTS : goal.returns-then-used-ge-MADE_OBJECTS
returns-then-used-ge-MADE_OBJECTS c =
    let m = c.args.core in
    let own = c.requires.1 in
    change_moved _ _ (op.Create c.args.a) m _ c.requires.0 own.sits (with_register (past_of m) c.args.a None) _ c.put-then-used-ge-MADE_OBJECTS.ensures c.unchanged-then-used-ge-MADE_OBJECTS.ensures
    (λ read o gs. create_full _ _ _ m own c.args.a read o gs (sym c.level_of.ensures ∙ c.if-level_of-level.false) (λ e. c.if-script-eq0.false (c.script_in-script.ensures ∙ e)) (rw c.used_of-used.ensures at c.if-used-ge-MADE_OBJECTS.true))

pub returns-then-core : goal.returns-then-core
returns-then-core c =
    let m = c.args.core in
    let own = c.requires.1 in
    let used = used_of (field_at c.args.current.now) m.level in
    change_spent _ c.args.current.now (op.Create c.args.a) m _ c.requires.0 own.sits
    (λ x. with_register (past_of m) c.args.a (Some (made_number m.level used)))
    (λ x. making (made_number m.level used) m.top.r1 m.top.r2 m.top.r3 (script_in c.args.current.now m.top.object))
    _ c.spent.ensures c.unchanged-then-core.ensures (λ x. omega (arith, c.if-core.true))
    (λ read o gs. create_made _ _ _ m own c.args.a read o gs (sym c.level_of.ensures ∙ c.if-level_of-level.false) (λ e. c.if-script-eq0.false (c.script_in-script.ensures ∙ e)) (rw c.used_of-used.ensures at c.if-used-ge-MADE_OBJECTS.false))

pub overflow_cast-result : goal.overflow_cast-result
overflow_cast-result c =
    let own = c.requires.1 in
    omega (arith, own.sits.level, few_levels _ (accepted _ own.leveled.accepted).three, c.used_of-used.ensures, c.if-used-ge-MADE_OBJECTS.false)

pub overflow_cast-result-2 : goal.overflow_cast-result-2
overflow_cast-result-2 c =
    let t = c.args.session.now.bytes.now in
    let m = c.args.core in
    let own = c.requires.1 in
    omega (arith, c.script_in-script.ensures, own.scripted m.top.object (number_few t own.leveled.accepted m.top.object own.sits.top.called.0), object_limit t own.leveled.accepted)

pub returns : goal.returns
returns c =
    let m = c.args.core in
    let own = c.requires.1 in
    let used = used_of (field_at c.args.current.now) m.level in
    let number : 32 + 4 * m.level + c.used_of-used.result ≡ made_number m.level used = rw c.used_of-used.ensures refl in
    change_charged _ c.args.current.now (op.Create c.args.a) m _ c.requires.0 own.sits c.put-m.result (with_register (past_of m) c.args.a (Some (made_number m.level used))) 4
    (making (made_number m.level used) m.top.r1 m.top.r2 m.top.r3 (script_in c.args.current.now m.top.object))
    (rw number at c.put-m.ensures) refl refl (omega (arith, c.if-core.false))
    (rw (number, c.script_in-script.ensures) refl)
    (λ read o gs. create_made _ _ _ m own c.args.a read o gs (sym c.level_of.ensures ∙ c.if-level_of-level.false) (λ e. c.if-script-eq0.false (c.script_in-script.ensures ∙ e)) (rw c.used_of-used.ensures at c.if-used-ge-MADE_OBJECTS.false))
