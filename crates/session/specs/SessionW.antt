-- Document 01's session W, written out. Assumes nothing.
use Rattle.std.specs.Prelude.{ℕ, ◌-◌, List, [], ◌∷◌, ◌++◌, length, replicate}
use Rattle.session.specs.Limits.{record_bytes}
use Rattle.lists.specs.Lists.{joined}
use Rattle.session.specs.Record.{Record}

-- a record by its first bytes, the rest 0
abbrev padded : List ℕ → Record
padded bytes = bytes ++ replicate (record_bytes - length bytes) 0

-- "level 1 over 0. Object 0, level 0, field 0 = 5. Object 1, level 1, all NIL."
abbrev levels_and_objects : List Record
levels_and_objects =
    padded (1 ∷ 0 ∷ 0x01 ∷ [])
    ∷ padded (1 ∷ 1 ∷ 0x03 ∷ [])
    ∷ padded (2 ∷ 0 ∷ 0 ∷ 1 ∷ 5 ∷ [])
    ∷ padded (2 ∷ 1 ∷ 1 ∷ [])
    ∷ []

-- "Object 0 name 0: READ r0 f0; SEND r0 name 0 to 1; SET r1 9; WRITE f0 r1; QUIT r1. Name 1: READ r1 f0; QUIT r1. Object 1 name 0:
-- WRITE f0 r0; SEND r1 name 1 to 0; WRITE f1 r1." "Root: object 0, name 0, NIL."
abbrev scripts_and_root : List Record
scripts_and_root =
    padded (3 ∷ 0 ∷ 0 ∷ 4 ∷ 0 ∷ 0 ∷ [])
    ∷ padded (3 ∷ 0 ∷ 0 ∷ 6 ∷ 0 ∷ 0 ∷ 1 ∷ [])
    ∷ padded (3 ∷ 0 ∷ 0 ∷ 1 ∷ 1 ∷ 0 ∷ 0 ∷ 0 ∷ 9 ∷ [])
    ∷ padded (3 ∷ 0 ∷ 0 ∷ 5 ∷ 1 ∷ 0 ∷ [])
    ∷ padded (3 ∷ 0 ∷ 0 ∷ 7 ∷ 1 ∷ [])
    ∷ padded (3 ∷ 0 ∷ 1 ∷ 4 ∷ 1 ∷ 0 ∷ [])
    ∷ padded (3 ∷ 0 ∷ 1 ∷ 7 ∷ 1 ∷ [])
    ∷ padded (3 ∷ 1 ∷ 0 ∷ 5 ∷ 0 ∷ 0 ∷ [])
    ∷ padded (3 ∷ 1 ∷ 0 ∷ 6 ∷ 1 ∷ 1 ∷ 0 ∷ [])
    ∷ padded (3 ∷ 1 ∷ 0 ∷ 5 ∷ 1 ∷ 1 ∷ [])
    ∷ padded (4 ∷ 0 ∷ 0 ∷ [])
    ∷ []

unfoldable pub session_w : List ℕ
session_w = joined (levels_and_objects ++ scripts_and_root)
