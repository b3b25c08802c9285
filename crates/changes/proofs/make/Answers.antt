use mathlib.Core.Path.{◌≡◌, refl, sym, ◌∙◌}
use Prim.Native.Nat.{ℕ}
use Rattle.session.specs.declared.Step.{Step}
use Rattle.session.specs.declared.Step.TheVariants as op
use Rattle.changes.specs.Changes.{IsChange}
use Rattle.changes.proofs.Laws.Changes.{changeable, step_changed}
use Rattle.changes.proofs.make.Goals as goal

-- a change that is no CREATE is a WITHDRAW
withdraws : (i : Step) → IsChange i → ((a : ℕ) → i ≡ op.Create a → ⊥) → i ≡ op.Withdraw
withdraws op.End h other = absurd h
withdraws (op.Set a n) h other = absurd h
withdraws (op.Add a b) h other = absurd h
withdraws (op.Jump a b) h other = absurd h
withdraws (op.Read a b) h other = absurd h
withdraws (op.Write a b) h other = absurd h
withdraws (op.Send a b c) h other = absurd h
withdraws (op.Quit a) h other = absurd h
withdraws (op.Create a) h other = absurd (other a refl)
withdraws op.Withdraw h other = refl

pub create-requires : goal.create-requires
create-requires c =
    (changeable c.args.session.now.bytes.now c.args.session.now.masks.now c.args.current.now c.args.core c.requires.0 (op.Create c.in-Create.a) (sym c.requires.1 ∙ c.in-Create.is) refl, c.requires.0)

pub returns-in-Create : goal.returns-in-Create
returns-in-Create c =
    step_changed c.args.session.now.bytes.now c.args.current.now (op.Create c.in-Create.a) c.args.core c.create.result c.create.ensures (sym c.requires.1 ∙ c.in-Create.is)

pub withdraw-requires : goal.withdraw-requires
withdraw-requires c =
    let is = withdraws c.args.step c.requires.2 c.in_default.not-Create in
    (changeable c.args.session.now.bytes.now c.args.session.now.masks.now c.args.current.now c.args.core c.requires.0 op.Withdraw (sym c.requires.1 ∙ is) refl, c.requires.0)

pub returns : goal.returns
returns c =
    let is = withdraws c.args.step c.requires.2 c.in_default.not-Create in
    step_changed c.args.session.now.bytes.now c.args.current.now op.Withdraw c.args.core c.withdraw.result c.withdraw.ensures (sym c.requires.1 ∙ is)
