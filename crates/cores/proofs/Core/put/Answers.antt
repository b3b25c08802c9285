use Rattle.cores.proofs.Laws.Makes.{moves_put}
use Rattle.cores.proofs.Core.put.Goals as goal

pub returns : goal.returns
returns c =
    moves_put c.args.self c.step_to.result c.past-past.result c.with_register.result c.args.k c.args.v c.requires c.step_to.ensures c.past-past.ensures c.with_register.ensures
