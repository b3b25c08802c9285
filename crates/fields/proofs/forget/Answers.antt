use Rattle.fields.proofs.Laws.Fields.{field_forgotten}
use Rattle.fields.proofs.forget.Goals as goal

pub returns : goal.returns
returns c = field_forgotten c.args.fields.now c.args.object c.args.k c.requires
