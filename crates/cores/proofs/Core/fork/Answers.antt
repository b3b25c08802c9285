use mathlib.Core.Path.{refl}
use Rattle.cores.proofs.Laws.Makes.{makes_unforked, makes_fork}
use Rattle.cores.proofs.Core.fork.Goals as goal

pub returns-then-self-ge-MAX_FORKS : goal.returns-then-self-ge-MAX_FORKS
returns-then-self-ge-MAX_FORKS c =
    makes_unforked _ c.args.self c.put.result c.args.a c.args.level _ c.requires c.if-self-ge-MAX_FORKS.true c.put.ensures

pub returns : goal.returns
returns c =
    makes_fork c.args.self c.put-m.result _ c.args.c c.args.b c.args.a c.args.level c.register-parameter.result
    c.requires c.put-m.ensures c.if-self-ge-MAX_FORKS.false c.register-parameter.ensures refl
