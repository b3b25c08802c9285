-- What a session that code holds says of its bytes, its level table and its method index. Assumes nothing.
use Rattle.contents.proofs.Laws.Session.{leveled, indexed}
use Rattle.contents.specs.declared.Session.{Session}
use Rattle.level_state.specs.Steps.{Tables}

pub tables : (x : Session) → Tables x.bytes.now x.masks.now x.index.now
tables x = record { indexed = indexed x; leveled = leveled x }
