use mathlib.Core.Path.{refl, sym, ◌∙◌, ap, ap₂}
use Rattle.session.specs.declared.Step.TheVariants as op
use Rattle.scripts.specs.Value.{sum}
use Rattle.scripts.specs.Effect as effect
use Rattle.scripts.specs.Frame.{with_register}
use Rattle.scripts.specs.Manager.{with_top, operated}
use Rattle.cores.specs.Core.{standing}
use Rattle.cores.specs.Moves.{past_of}
use Rattle.operations.specs.Operations.{pause_on}
use Rattle.cores.specs.declared.Effect.TheVariants.{Change}
use Rattle.operations.proofs.Laws.Operations.{operation_made, operation_moved, operation_asked, operated_made, able_next, jump_near, read_field, write_field, send_method, send_register}
use Rattle.operations.proofs.operate.Goals as goal

pub put-requires : goal.put-requires
put-requires c =
    let o = c.requires.0 in
    let e = sym c.requires.1 ∙ c.in-Set.is in
    able_next _ _ _ _ _ o (op.Set c.in-Set.a c.in-Set.n) e refl

pub put-requires-in-Add : goal.put-requires-in-Add
put-requires-in-Add c =
    let o = c.requires.0 in
    let e = sym c.requires.1 ∙ c.in-Add.is in
    able_next _ _ _ _ _ o (op.Add c.in-Add.a c.in-Add.b) e refl

pub jump-requires : goal.jump-requires
jump-requires c =
    let o = c.requires.0 in
    let e = sym c.requires.1 ∙ c.in-Jump.is in
    (able_next _ _ _ _ _ o (op.Jump c.in-Jump.a c.in-Jump.b) e refl, jump_near _ _ _ _ _ o c.in-Jump.a c.in-Jump.b e)

pub read-requires : goal.read-requires
read-requires c =
    let o = c.requires.0 in
    let e = sym c.requires.1 ∙ c.in-Read.is in
    (able_next _ _ _ _ _ o (op.Read c.in-Read.a c.in-Read.b) e refl, o, read_field _ _ _ _ _ o c.in-Read.a c.in-Read.b e)

pub write-requires : goal.write-requires
write-requires c =
    let o = c.requires.0 in
    let e = sym c.requires.1 ∙ c.in-Write.is in
    (able_next _ _ _ _ _ o (op.Write c.in-Write.a c.in-Write.b) e refl, o, write_field _ _ _ _ _ o c.in-Write.a c.in-Write.b e)

pub send-requires : goal.send-requires
send-requires c =
    let o = c.requires.0 in
    let e = sym c.requires.1 ∙ c.in-Send.is in
    (able_next _ _ _ _ _ o (op.Send c.in-Send.a c.in-Send.b c.in-Send.c) e refl, o, send_register _ _ _ _ _ o c.in-Send.a c.in-Send.b c.in-Send.c e, send_method _ _ _ _ _ o c.in-Send.a c.in-Send.b c.in-Send.c e)

pub quit-requires : goal.quit-requires
quit-requires c =
    let o = c.requires.0 in
    let e = sym c.requires.1 ∙ c.in-Quit.is in
    (able_next _ _ _ _ _ o (op.Quit c.in-Quit.a) e refl, o.sits.some (rw o.internal))

pub returns-in-Set : goal.returns-in-Set
unfolding operated
returns-in-Set c =
    let o = c.requires.0 in
    let e = sym c.requires.1 ∙ c.in-Set.is in
    let i = op.Set c.in-Set.a c.in-Set.n in
    operated_made _ _ _ _ _ c.args.core c.put.result i
    (operation_moved _ _ _ _ _ i c.args.core c.put.result _ (able_next _ _ _ _ _ o (op.Set c.in-Set.a c.in-Set.n) e refl) o.sits c.put.ensures (λ read agrees gs. refl))
    e refl

pub returns-in-Add : goal.returns-in-Add
unfolding operated
returns-in-Add c =
    let o = c.requires.0 in
    let e = sym c.requires.1 ∙ c.in-Add.is in
    let i = op.Add c.in-Add.a c.in-Add.b in
    let m = c.args.core in
    let total = c.sum.ensures ∙ ap₂ sum c.register.ensures c.register-in-Add.ensures in
    operated_made _ _ _ _ _ c.args.core c.put-in-Add.result i
    (operation_moved _ _ _ _ _ i m c.put-in-Add.result (with_register (past_of m) c.in-Add.a c.sum.result) (able_next _ _ _ _ _ o (op.Add c.in-Add.a c.in-Add.b) e refl) o.sits c.put-in-Add.ensures
    (λ read agrees gs. ap (λ v. record { manager = with_top (standing m gs) (with_register (past_of m) c.in-Add.a v); effect = effect.Nothing }) total))
    e refl

pub returns-in-Jump : goal.returns-in-Jump
unfolding operated
returns-in-Jump c =
    let o = c.requires.0 in
    let e = sym c.requires.1 ∙ c.in-Jump.is in
    let i = op.Jump c.in-Jump.a c.in-Jump.b in
    operated_made _ _ _ _ _ c.args.core c.jump.result i
    (operation_moved _ _ _ _ _ i c.args.core c.jump.result _ (able_next _ _ _ _ _ o (op.Jump c.in-Jump.a c.in-Jump.b) e refl) o.sits c.jump.ensures (λ read agrees gs. refl))
    e refl

pub returns-in-Read : goal.returns-in-Read
returns-in-Read c =
    let o = c.requires.0 in
    let e = sym c.requires.1 ∙ c.in-Read.is in
    operated_made _ _ _ _ _ c.args.core c.read.result (op.Read c.in-Read.a c.in-Read.b) c.read.ensures e refl

pub returns-in-Write : goal.returns-in-Write
returns-in-Write c =
    let o = c.requires.0 in
    let e = sym c.requires.1 ∙ c.in-Write.is in
    operated_made _ _ _ _ _ c.args.core c.write.result (op.Write c.in-Write.a c.in-Write.b) c.write.ensures e refl

pub returns-in-Send : goal.returns-in-Send
returns-in-Send c =
    let o = c.requires.0 in
    let e = sym c.requires.1 ∙ c.in-Send.is in
    operated_made _ _ _ _ _ c.args.core c.send.result (op.Send c.in-Send.a c.in-Send.b c.in-Send.c) c.send.ensures e refl

pub returns-in-Quit : goal.returns-in-Quit
unfolding operated
returns-in-Quit c =
    let o = c.requires.0 in
    let e = sym c.requires.1 ∙ c.in-Quit.is in
    let i = op.Quit c.in-Quit.a in
    operated_made _ _ _ _ _ c.args.core c.quit.result i
    (operation_made _ _ _ _ _ i c.args.core c.quit.result (λ _. Unit) _ c.quit.ensures o.sits tt (λ read agrees gs. refl))
    e refl

pub returns-in-Create : goal.returns-in-Create
unfolding pause_on
returns-in-Create c =
    let o = c.requires.0 in
    let e = sym c.requires.1 ∙ c.in-Create.is in
    let i = op.Create c.in-Create.a in
    operated_made _ _ _ _ _ c.args.core c.causing.result i
    (operation_asked _ _ _ _ _ i c.args.core c.causing.result Change (able_next _ _ _ _ _ o i e refl) o.sits c.causing.ensures refl refl tt tt refl)
    e refl

pub returns-in-Withdraw : goal.returns-in-Withdraw
unfolding pause_on
returns-in-Withdraw c =
    let o = c.requires.0 in
    let e = sym c.requires.1 ∙ c.in-Withdraw.is in
    operated_made _ _ _ _ _ c.args.core c.causing-in-Withdraw.result op.Withdraw
    (operation_asked _ _ _ _ _ op.Withdraw c.args.core c.causing-in-Withdraw.result Change (able_next _ _ _ _ _ o op.Withdraw e refl) o.sits c.causing-in-Withdraw.ensures refl refl tt tt refl)
    e refl
