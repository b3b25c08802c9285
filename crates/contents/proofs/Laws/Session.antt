-- What a session that code holds says of its bytes. Assumes nothing.
use Rattle.scripts.specs.Valid.{Leveled}
use Rattle.contents.specs.Reading.{Indexed}
use Rattle.contents.specs.declared.Session.{Session}

-- it is accepted, with its level table
pub leveled : (x : Session) → Leveled x.bytes.now x.masks.now
leveled x = record { accepted = x.accepted; masks_are = x.masks_are }

-- and with its method index
pub indexed : (x : Session) → Indexed x.bytes.now x.index.now
indexed x = record { accepted = x.accepted; index_is = x.index_is }
