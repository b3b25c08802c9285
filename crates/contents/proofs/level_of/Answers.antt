use mathlib.Core.Path.{◌≡◌, sym, ◌∙◌, ap}
use Prim.Native.Nat.{◌+◌}
use native.Mathlib.Omega.{arith}
use lib.ListN.{length}
use Rattle.session.specs.Record.{record_at, byte_of, level_byte}
use Rattle.session.specs.Parts.{level_count}
use Rattle.session.proofs.Laws.Contents.{counts, masks_length, object_record_lem}
use Rattle.session.proofs.Laws.Emptied.{own_level}
use Rattle.session.proofs.Laws.Numbers.{number_low, number_high, level_high}
use Rattle.contents.proofs.level_of.Goals as goal

pub byte_at-requires : goal.byte_at-requires
byte_at-requires c =
    let t = c.args.session.now in
    let n : length c.args.masks.now ≡ level_count t = ap length c.requires.1 ∙ masks_length t c.requires.0 in
    omega (arith, counts t c.requires.0, number_low t c.requires.0 c.args.object c.requires.2 c.if-object-lt-FIRST_MADE.true)

pub returns-then-object-lt-FIRST_MADE : goal.returns-then-object-lt-FIRST_MADE
returns-then-object-lt-FIRST_MADE c =
    let t = c.args.session.now in
    let n : length c.args.masks.now ≡ level_count t = ap length c.requires.1 ∙ masks_length t c.requires.0 in
    let own = number_low t c.requires.0 c.args.object c.requires.2 c.if-object-lt-FIRST_MADE.true in
    c.byte_at.ensures
    ∙ ap (λ m. byte_of (record_at t (m + c.args.object)) 2) n
    ∙ ap level_byte (sym (object_record_lem t c.requires.0 c.args.object own))
    ∙ sym (own_level t c.args.object own)

pub returns-else-object-lt-FIRST_MADE : goal.returns-else-object-lt-FIRST_MADE
returns-else-object-lt-FIRST_MADE c =
    let t = c.args.session.now in
    sym (level_high t c.requires.0 c.args.object c.if-object-lt-FIRST_MADE.false (number_high t c.requires.0 c.args.object c.requires.2))
