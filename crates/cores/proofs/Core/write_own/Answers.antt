use mathlib.Core.Path.{refl}
use native.Mathlib.Omega.{arith}
use Rattle.cores.proofs.Laws.Makes.{makes_spent, makes_write}
use Rattle.cores.proofs.Core.write_own.Goals as goal

pub returns-then-self-ge-MAX_WRITES : goal.returns-then-self-ge-MAX_WRITES
returns-then-self-ge-MAX_WRITES c =
    makes_spent _ c.args.self c.pass-m.result _ _ _ c.requires.0 c.pass-m.ensures (λ m. omega (arith, c.if-self-ge-MAX_WRITES.true)) refl

pub returns : goal.returns
returns c =
    makes_write c.args.self c.pass-m.result _ c.args.a c.args.b c.register.result
    c.requires.0 c.pass-m.ensures c.if-self-ge-MAX_WRITES.false c.register.ensures refl
