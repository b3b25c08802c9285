use mathlib.Core.Path.{refl, ap}
use Rattle.cores.proofs.Laws.Makes.{makes_spent}
use Rattle.changes.proofs.spent.Goals as goal

pub returns : goal.returns
returns c =
    let m = c.pass-m.ensures in
    (λ g ws full. makes_spent (λ _. Unit) c.args.core c.pass-m.result _ g ws c.requires m full refl, ap (λ x. x.forks) m.core_is, refl)
