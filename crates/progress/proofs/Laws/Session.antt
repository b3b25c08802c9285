-- What a session that code holds says of its bytes. Assumes nothing.
use Rattle.contents.specs.declared.Session.{Session}
use Rattle.progress.specs.Representation.{Tables}

-- it is accepted, with its level table and its method index
pub tables : (x : Session) → Tables x.bytes.now x.masks.now x.index.now
tables x = record { accepted = x.accepted; masks_are = x.masks_are; index_is = x.index_is }
