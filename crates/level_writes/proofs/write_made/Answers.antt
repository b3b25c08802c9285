-- Four versions, each the next one's words.
use Rattle.std.proofs.Common.{rules, ◌≡◌, length}
use Rattle.counts.proofs.Laws.Only.{only_first}
use Rattle.level_state.proofs.Laws.Made.{made_done}
use Rattle.level_writes.proofs.write_made.Goals as goal

pub returns-clause-change_done : goal.returns-clause-change_done
returns-clause-change_done c =
    let one : length c.write-4.new.tallies ≡ 1 = search rules in
    let last = only_first c.write-4.new.tallies c.change.new.self one in
    made_done c.args.state.now.tallies c.change.ensures (rw c.from_mut-tallies.ensures.value at c.write.ensures) c.write-2.ensures c.write-3.ensures (rw last at c.write-4.ensures)
