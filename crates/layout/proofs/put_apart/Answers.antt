use Rattle.layout.proofs.Laws.Placing.{placed_next}
use Rattle.layout.proofs.put_apart.Goals as goal

pub returns : goal.returns
returns c = placed_next c.put_blanks-next.ensures c.put_aligned.ensures
