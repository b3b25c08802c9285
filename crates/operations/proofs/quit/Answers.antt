use native.Mathlib.Omega.{arith}
use Rattle.cores.proofs.Laws.Makes.{makes_finished, makes_pop}
use Rattle.operations.proofs.quit.Goals as goal

pub returns-then-core-eq1 : goal.returns-then-core-eq1
returns-then-core-eq1 c =
    makes_finished _ c.args.core c.pass-m.result c.finished.result c.args.a c.register-reply.result
    c.requires.0 c.pass-m.ensures c.if-core-eq1.true c.register-reply.ensures c.finished.ensures

pub returns : goal.returns
returns c =
    makes_pop _ c.args.core c.pass-m.result c.causing.result c.args.a c.register-reply.result
    c.requires.0 c.pass-m.ensures (omega (arith, c.requires.1, c.if-core-eq1.false)) c.register-reply.ensures c.causing.ensures
