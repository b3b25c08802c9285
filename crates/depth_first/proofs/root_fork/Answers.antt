use mathlib.Core.Path.{ap}
use Rattle.session.specs.Meaning.{root_object}
use Rattle.session.proofs.Laws.Accepted.{root_present}
use Rattle.session.proofs.Laws.Numbers.{number_own}
use Rattle.depth_first.proofs.Laws.Start.{level_byte_lem}
use Rattle.depth_first.proofs.root_fork.Goals as goal

pub level_of-level-requires : goal.level_of-level-requires
level_of-level-requires c =
    let s = c.args.session.now.bytes.now in
    rw (ap (λ m. m.object) c.root-message.ensures) (number_own s (root_object s) (root_present s c.args.session.now.accepted))

pub overflow_cast-result : goal.overflow_cast-result
overflow_cast-result c =
    record { fits = level_byte_lem c.args.session.now.bytes.now c.args.session.now.accepted c.root-message.result c.level_of-level.result c.root-message.ensures c.level_of-level.ensures }
