use native.Mathlib.Omega.{arith}
use Rattle.scheduler.proofs.Laws.Start.{root_there, level_small, root_room, read_in_lem}
use Rattle.scheduler.proofs.read_in.Goals as goal

pub level_of-level-requires : goal.level_of-level-requires
level_of-level-requires c =
    root_there _ c.args.session.now.accepted _ c.root-message.ensures

pub arrive-waiting-requires : goal.arrive-waiting-requires
arrive-waiting-requires c =
    root_room _ c.args.session.now.accepted _ _ _ c.requires _ _ c.root-message.ensures c.level_of-level.ensures

pub set_waiting-requires : goal.set_waiting-requires
set_waiting-requires c = level_small _ c.args.session.now.accepted _ _ c.root-message.ensures c.level_of-level.ensures

pub returns-clause-initial : goal.returns-clause-initial
returns-clause-initial c =
    rw c.set_waiting.ensures (read_in_lem _ c.args.session.now.accepted _ _ _ c.requires _ _ c.root-message.ensures c.level_of-level.ensures _ _ _ _ c.fill.ensures c.root_row-row.ensures.1 c.arrive-waiting.ensures)
