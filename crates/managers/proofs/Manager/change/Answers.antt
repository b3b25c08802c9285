use mathlib.Core.Path.{subst}
use Rattle.changes.specs.Changes.{StepChanged}
use Rattle.managers.proofs.Laws.Changes.{changed_done, lowering_changed}
use Rattle.managers.proofs.Manager.change.Goals as goal

pub settled-core-requires : goal.settled-core-requires
settled-core-requires c =
    let is = c.causing-quiet.ensures in
    let made = subst (λ z. StepChanged c.args.session.now.bytes.now c.args.current.now z c.make-changed.result) is c.make-changed.ensures in
    lowering_changed _ _ _ _ _ c.requires c.make-changed.result.core made.stood

pub returns : goal.returns
returns c =
    let is = c.causing-quiet.ensures in
    let made = subst (λ z. StepChanged c.args.session.now.bytes.now c.args.current.now z c.make-changed.result) is c.make-changed.ensures in
    let x = c.settled-core.ensures in
    changed_done _ _ _ _ c.args.self c.requires c.make-changed.result made _ x.lowering x.still _ x.closed
