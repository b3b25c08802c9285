-- What becomes of the message decides.
use mathlib.Core.Path.{◌≡◌, refl, sym, ◌∙◌}
use mathlib.Core.Bool.{true, false}
use Prim.Native.Nat.{ℕ}
use mathlib.Core.Logic.{◌⊎◌, inl, inr}
use native.Mathlib.Omega.{arith}
use Rattle.session.proofs.Laws.Verdict.{accepted}
use Rattle.session.proofs.Laws.Numbering.{few_levels}
use Rattle.fates.specs.declared.Fate.{Fate}
use Rattle.fates.specs.declared.Fate.TheVariants as fate
use Rattle.scripts.specs.Manager.{sent}
use Rattle.scripts.proofs.Laws.Send.{lent_ordered, fork_present}
use Rattle.fields.proofs.Laws.Reads.{told_script, told_missing}
use Rattle.operations.proofs.Laws.Operations.{findable, send_made, send_blocked, send_called, send_asked}
use Rattle.operations.proofs.send.Goals as goal

-- a message that is neither forked nor blocked makes a frame
framed : (t : Fate) → ((u : ℕ) → t ≡ fate.Fork u → ⊥) → (t ≡ fate.Block → ⊥) → (t ≡ fate.Call) ⊎ (t ≡ fate.Discard)
framed fate.Call p q = inl refl
framed fate.Discard p q = inr refl
framed fate.Block p q = absurd (q refl)
framed (fate.Fork u) p q = absurd (p u refl)

pub fate_of-fate-requires : goal.fate_of-fate-requires
fate_of-fate-requires c = lent_ordered _ _ c.requires.1.leveled

pub overflow_cast-u : goal.overflow_cast-u
overflow_cast-u c =
    let t = c.args.session.now.bytes.now in
    let e = sym c.fate_of-fate.ensures ∙ c.in-Fork.is in
    omega (
      arith,
      fork_present t c.args.session.now.masks.now c.requires.1.leveled _ _ c.args.c c.in-Fork.u c.requires.1.sits.level (rw c.level_of-receiver.ensures at e),
      few_levels t (accepted t c.requires.1.leveled.accepted).three,
    )

pub returns-in-Fork : goal.returns-in-Fork
unfolding sent
returns-in-Fork c =
    let e = sym c.fate_of-fate.ensures ∙ c.in-Fork.is in
    send_made _ _ _ _ _ _ _ _ c.requires.1 c.args.a c.args.b c.args.c _ _ c.level_of-sender.ensures c.level_of-receiver.ensures _ _ _ e c.fork.ensures
    (fork_present _ _ c.requires.1.leveled _ _ c.args.c c.in-Fork.u c.requires.1.sits.level (rw c.level_of-receiver.ensures at e), c.requires.3)
    (λ read agrees gs. refl)

pub returns-in-Block : goal.returns-in-Block
returns-in-Block c =
    send_blocked _ _ _ _ _ _ _ _ c.requires.1 c.args.a c.args.b c.args.c _ _ c.level_of-sender.ensures c.level_of-receiver.ensures (sym c.fate_of-fate.ensures ∙ c.in-Block.is) c.requires.0 c.put.ensures

pub script_of-found-requires : goal.script_of-found-requires
script_of-found-requires c = findable _ _ _ _ _ _ c.requires.1 c.requires.3.0

pub returns-in-Err : goal.returns-in-Err
returns-in-Err c =
    let t = told_missing _ _ (rw c.is_own-own.ensures at (sym c.script_of-found.ensures ∙ c.in-Err.is)) in
    elim (framed c.fate_of-fate.result c.in_default.not-Fork c.in_default-fate.not-Block) [
      | inl q ↦ send_asked _ _ _ _ _ _ _ _ c.requires.1 c.args.a c.args.b c.args.c _ _ c.level_of-sender.ensures c.level_of-receiver.ensures fate.Call (sym c.fate_of-fate.ensures ∙ q) (rw t.0 refl) c.requires.0 c.requires.3.0 (rw t.1 at c.causing.ensures)
      | inr q ↦ send_asked _ _ _ _ _ _ _ _ c.requires.1 c.args.a c.args.b c.args.c _ _ c.level_of-sender.ensures c.level_of-receiver.ensures fate.Discard (sym c.fate_of-fate.ensures ∙ q) (rw t.0 refl) c.requires.0 c.requires.3.0 (rw t.1 at c.causing.ensures)
    ]

pub returns-in-Ok : goal.returns-in-Ok
unfolding sent
returns-in-Ok c =
    let t = told_script _ _ (rw c.is_own-own.ensures at (sym c.script_of-found.ensures ∙ c.in-Ok.is)) in
    let known = rw (sym t.1) at t.0 in
    elim (framed c.fate_of-fate.result c.in_default.not-Fork c.in_default-fate.not-Block) [
      | inl q ↦ send_called _ _ _ _ _ _ _ _ c.requires.1 c.args.a c.args.b c.args.c _ _ c.level_of-sender.ensures c.level_of-receiver.ensures fate.Call true _ (rw (c.returns.ensures, q) at c.call.ensures) (sym c.fate_of-fate.ensures ∙ q) (λ read gs. refl) c.requires.3.0 t.1 known
      | inr q ↦ send_called _ _ _ _ _ _ _ _ c.requires.1 c.args.a c.args.b c.args.c _ _ c.level_of-sender.ensures c.level_of-receiver.ensures fate.Discard false _ (rw (c.returns.ensures, q) at c.call.ensures) (sym c.fate_of-fate.ensures ∙ q) (λ read gs. refl) c.requires.3.0 t.1 known
    ]
