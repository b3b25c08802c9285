-- What is found is put, and what is missing asked for.
use mathlib.Core.Path.{sym, ◌∙◌}
use native.Mathlib.Omega.{arith}
use Rattle.session.proofs.Laws.Numbers.{number_few}
use Rattle.fields.proofs.Laws.Reads.{missing_low}
use Rattle.operations.proofs.Laws.Operations.{findable, read_found, read_missing}
use Rattle.operations.proofs.read.Goals as goal

pub find-found-requires : goal.find-found-requires
find-found-requires c = (findable _ _ _ _ _ _ c.requires.1 c.requires.1.sits.top.called.0, c.requires.2)

pub overflow_cast-object : goal.overflow_cast-object
overflow_cast-object c =
    omega (arith, number_few c.args.session.now.bytes.now c.args.session.now.accepted c.args.core.top.object c.requires.1.sits.top.called.0)

pub returns-in-Err : goal.returns-in-Err
returns-in-Err c =
    let e = rw c.is_own-own.ensures at (sym c.find-found.ensures ∙ c.in-Err.is) in
    read_missing _ _ _ _ _ _ _ _ c.requires.1 _ _ c.requires.0 c.requires.2 _ e (missing_low _ _ _ _ _ _ _ c.requires.2 e) c.causing.ensures

pub returns-in-Ok : goal.returns-in-Ok
returns-in-Ok c =
    let e = rw c.is_own-own.ensures at (sym c.find-found.ensures ∙ c.in-Ok.is) in
    read_found _ _ _ _ _ _ _ _ c.requires.1 _ _ c.requires.0 c.requires.2 _ c.put.ensures e
