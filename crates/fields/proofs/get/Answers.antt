use Rattle.fields.specs.Fields.{field_at}
use Rattle.fields.proofs.get.Goals as goal

pub returns : goal.returns
unfolding field_at
returns c = c.value_of.ensures
