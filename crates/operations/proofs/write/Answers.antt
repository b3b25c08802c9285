use mathlib.Core.Path.{sym, ◌∙◌}
use Rattle.session.specs.declared.Step.TheVariants as op
use Rattle.session.proofs.Laws.Numbers.{number_few}
use Rattle.cores.specs.Moves.{past_of}
use Rattle.operations.proofs.Laws.Operations.{findable, operation_made, operation_moved, write_own_is, write_gone_is, write_apart_is}
use Rattle.operations.proofs.write.Goals as goal

pub returns-then-level_of-core : goal.returns-then-level_of-core
returns-then-level_of-core c =
    operation_moved _ _ _ _ _ (op.Write c.args.a c.args.b) c.args.core c.pass.result (past_of c.args.core) c.requires.0 c.requires.1.sits c.pass.ensures
    (λ read agrees gs. write_apart_is _ _ _ _ c.args.sight.now.all c.args.sight.now.unchanged _ c.requires.1 c.args.a c.args.b read gs (λ e. c.if-level_of-core.true (c.level_of.ensures ∙ e)))

pub script_here-requires : goal.script_here-requires
script_here-requires c = findable _ _ _ _ _ _ c.requires.1 c.requires.1.sits.top.called.0

pub returns-then-script_here-eq0 : goal.returns-then-script_here-eq0
returns-then-script_here-eq0 c =
    operation_moved _ _ _ _ _ (op.Write c.args.a c.args.b) c.args.core c.pass-then-script_here-eq0.result (past_of c.args.core) c.requires.0 c.requires.1.sits c.pass-then-script_here-eq0.ensures
    (λ read agrees gs. write_gone_is _ _ _ _ _ _ _ c.requires.1 c.args.a c.args.b read agrees gs (sym c.level_of.ensures ∙ c.if-level_of-core.false) (sym c.script_here.ensures ∙ c.if-script_here-eq0.true))

pub write_own-requires : goal.write_own-requires
write_own-requires c =
    (c.requires.0, number_few c.args.session.now.bytes.now c.args.session.now.accepted c.args.core.top.object c.requires.1.sits.top.called.0)

pub returns : goal.returns
returns c =
    operation_made _ _ _ _ _ (op.Write c.args.a c.args.b) _ c.write_own.result _ _ c.write_own.ensures c.requires.1.sits (c.requires.1.sits.top.called.0, c.requires.2)
    (λ read agrees gs. write_own_is _ _ _ _ _ _ _ c.requires.1 c.args.a c.args.b read agrees gs (sym c.level_of.ensures ∙ c.if-level_of-core.false) (λ e. c.if-script_here-eq0.false (c.script_here.ensures ∙ e)))
