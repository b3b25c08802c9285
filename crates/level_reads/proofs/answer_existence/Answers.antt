-- What is read of existence is kept.
use Rattle.level_state.proofs.Laws.Script.{field_there}
use Rattle.level_reads.proofs.answer_existence.Goals as goal

pub remember-requires : goal.remember-requires
remember-requires c =
    field_there c.args.session.now.accepted c.requires.read_ready

pub returns : goal.returns
returns c =
    record { value = c.existence_of-value.result; is = rw c.from_ref.ensures.value at c.existence_of-value.ensures; kept = c.remember.ensures }
