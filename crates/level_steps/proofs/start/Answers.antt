-- The fork behind those that have ended starts, with the write stamp that was kept for it, and may end at once.
use Rattle.managers.specs.Manager.{manager_of}
use Rattle.level_state.proofs.Laws.Made.{begun, settled_of_lem}
use Rattle.level_steps.proofs.start.Goals as goal

pub returns-clause-started : goal.returns-clause-started
returns-clause-started c =
    let called = c.settle in
    let made = c.start-m in
    let seen = c.script_of-script in (
      begun c.message_at-message.result c.requires (λ n. rw c.ended.ensures at c.message_at-message.ensures n) seen.result called.new.state.ended called.new.state.tallies (manager_of made.result) (rw c.from_ref.ensures.value at seen.ensures.0) (rw c.next-next.ensures at made.ensures.0) (settled_of_lem made.result (rw c.start.ensures at called.ensures.settled)),
      made.ensures.1,
    )
