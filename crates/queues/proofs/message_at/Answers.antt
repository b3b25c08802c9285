use Rattle.std.proofs.Common.{◌+◌, get_or, sym, ap₂}
use Rattle.std.proofs.lemmas.Nat.{and_mask}
use Rattle.lists.specs.Lists.{tab}
use Rattle.rows.specs.Rows.{row_at}
use Rattle.fields.specs.Fields.{value_of}
use Rattle.queues.specs.Queue.{tag_place, number_place, fork_place, fork_of_row, fork_at}
use Rattle.queues.proofs.message_at.Goals as goal

pub returns : goal.returns
unfolding fork_at fork_of_row row_at tab
returns c =
    let ws = c.args.queue.now in
    let at = fork_place c.args.level c.args.i in
    let parameter = value_of (get_or ws (at + tag_place) 0) (get_or ws (at + number_place) 0) in
    rw (c.value_of-parameter.ensures, c.place_of-at.ensures) (λ n. ap₂ (λ object name. record { object = object; name = name; parameter = parameter }) (sym (and_mask _ 8)) (sym (and_mask _ 8)))
