-- An accepted session emptied for a level. (Of other bytes this says nothing that is used.) Assumes nothing.
-- Laws: an emptied accepted session is accepted (`proofs/Laws/EmptiedAccepted`). It has the same levels, objects' levels and root message
-- (`proofs/Laws/Emptied`: `emptied_masks`, `emptied_count`, `emptied_level`, `emptied_root`), the same fields and methods of every object
-- that the level dominates (`emptied_field`, `emptied_method`), and NIL fields and empty methods of the others (`emptied_field_hidden`,
-- `emptied_method_hidden`).
use Rattle.std.specs.Prelude.{ℕ, ◌-◌, Bool, not, cond, ◌&&◌, List, ◌++◌, map, eqb, take, replicate}
use Rattle.dominance.specs.Table.{dominates}
use Rattle.session.specs.Limits.{record_bytes}
use Rattle.lists.specs.Lists.{select, joined}
use Rattle.session.specs.Record.{Record, records_of, kind_of, object_of, level_byte}
use Rattle.session.specs.Parts.{masks_of}
use Rattle.session.specs.Meaning.{level_of}

-- level c does not dominate level l of the session
abbrev pub hides : List ℕ → ℕ → ℕ → Bool
hides s c l = not (dominates (masks_of s) c l)

-- "its kind 3 records are left out": the records that stay
unfoldable pub stays : List ℕ → ℕ → Record → Bool
stays s c rec = not (eqb (kind_of rec) 3 && hides s c (level_of s (object_of rec)))

-- "its kind 2 record has mask and fields 0": bytes 3 to 15
unfoldable pub blanked : List ℕ → ℕ → Record → Record
blanked s c rec =
    cond (eqb (kind_of rec) 2 && hides s c (level_byte rec)) (take 3 rec ++ replicate (record_bytes - 3) 0) rec

-- "for each object whose level that level does not dominate .. All else stays"
unfoldable pub emptied : ℕ → List ℕ → List ℕ
emptied c s = joined (map (blanked s c) (select (stays s c) (records_of s)))
