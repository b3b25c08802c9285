use mathlib.Core.Path.{sym, ◌∙◌, refl}
use native.Mathlib.Omega.{arith}
use Rattle.session.specs.declared.Step.TheVariants as op
use Rattle.session.proofs.Laws.Numbers.{number_few}
use Rattle.scripts.specs.Existence.{existence, withdrawn}
use Rattle.cores.specs.Moves.{past_of, own_field}
use Rattle.changes.proofs.Laws.Changes.{change_moved, change_spent, change_charged, withdraw_apart, withdraw_gone, withdraw_made}
use Rattle.changes.proofs.withdraw.Goals as goal

pub returns-then-level_of-core : goal.returns-then-level_of-core
returns-then-level_of-core c =
    let m = c.args.core in
    let own = c.requires.1 in
    change_moved _ _ op.Withdraw m _ c.requires.0 own.sits (past_of m) _ c.pass.ensures c.unchanged.ensures
    (λ read o gs. withdraw_apart _ _ _ m own read gs (λ e. c.if-level_of-core.true (c.level_of.ensures ∙ e)))

pub is_there-requires : goal.is_there-requires
is_there-requires c =
    let own = c.requires.1 in
    record { room = own.fields_there; object = number_few _ own.leveled.accepted _ own.sits.top.called.0; field = omega arith }

pub returns-then-not-is_there : goal.returns-then-not-is_there
returns-then-not-is_there c =
    let m = c.args.core in
    let own = c.requires.1 in
    change_moved _ _ op.Withdraw m _ c.requires.0 own.sits (past_of m) _ c.pass-then-not-is_there.ensures c.unchanged-then-not-is_there.ensures
    (λ read o gs. withdraw_gone _ _ _ m own read o gs (sym c.level_of.ensures ∙ c.if-level_of-core.false) (sym c.is_there.ensures ∙ c.if-not-is_there.true))

pub returns-then-core-ge-MAX_WRITES : goal.returns-then-core-ge-MAX_WRITES
returns-then-core-ge-MAX_WRITES c =
    let m = c.args.core in
    let own = c.requires.1 in
    change_spent _ _ op.Withdraw m _ c.requires.0 own.sits (λ x. past_of m) (λ x. own_field (past_of m) existence withdrawn)
    _ c.spent.ensures c.unchanged-then-core-ge-MAX_WRITES.ensures (λ x. omega (arith, c.if-core-ge-MAX_WRITES.true))
    (λ read o gs. withdraw_made _ _ _ m own read o gs (sym c.level_of.ensures ∙ c.if-level_of-core.false) (sym c.is_there.ensures ∙ c.if-not-is_there.false))

pub overflow_cast-result : goal.overflow_cast-result
overflow_cast-result c =
    let own = c.requires.1 in
    omega (arith, number_few _ own.leveled.accepted c.args.core.top.object own.sits.top.called.0)

pub returns : goal.returns
returns c =
    let m = c.args.core in
    let own = c.requires.1 in
    change_charged _ _ op.Withdraw m _ c.requires.0 own.sits c.pass-m.result (past_of m) 1 (own_field (past_of m) existence withdrawn)
    c.pass-m.ensures refl refl (omega (arith, c.if-core-ge-MAX_WRITES.false)) refl
    (λ read o gs. withdraw_made _ _ _ m own read o gs (sym c.level_of.ensures ∙ c.if-level_of-core.false) (sym c.is_there.ensures ∙ c.if-not-is_there.false))
