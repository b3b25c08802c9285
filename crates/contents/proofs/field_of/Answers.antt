use mathlib.Core.Path.{◌≡◌, sym, ◌∙◌, ap}
use mathlib.Core.Bool.{true, false}
use Prim.Native.Nat.{◌+◌}
use native.Mathlib.Omega.{arith}
use mathlib.Core.List.{[]}
use lib.ListN.{length, get_or}
use borrow.Author.Tests.{eq-eqb, ne_eqb}
use Rattle.session.specs.Record.{record_at, holds, field_in}
use Rattle.session.specs.Parts.{object_records, level_count}
use Rattle.session.proofs.Laws.Record.{field_number, field_nil}
use Rattle.session.proofs.Laws.Contents.{counts, masks_length, object_record_lem}
use Rattle.contents.proofs.field_of.Goals as goal

pub overflow_add-r : goal.overflow_add-r
overflow_add-r c =
    let t = c.args.session.now in
    let n : length c.args.masks.now ≡ level_count t = ap length c.requires.1 ∙ masks_length t c.requires.0 in
    omega (arith, counts t c.requires.0)

pub byte_at-mask-requires : goal.byte_at-mask-requires
byte_at-mask-requires c =
    let t = c.args.session.now in
    let n : length c.args.masks.now ≡ level_count t = ap length c.requires.1 ∙ masks_length t c.requires.0 in
    omega (arith, counts t c.requires.0)

pub word_at-requires : goal.word_at-requires
word_at-requires c =
    let t = c.args.session.now in
    let n : length c.args.masks.now ≡ level_count t = ap length c.requires.1 ∙ masks_length t c.requires.0 in
    omega (arith, counts t c.requires.0)

pub returns-then-mask-k-eq1 : goal.returns-then-mask-k-eq1
returns-then-mask-k-eq1 c =
    let t = c.args.session.now in
    let n : length c.args.masks.now ≡ level_count t = ap length c.requires.1 ∙ masks_length t c.requires.0 in
    let rec = record_at t (length c.args.masks.now + c.args.object) in
    let there : rec ≡ get_or (object_records t) c.args.object [] =
    ap (λ m. record_at t (m + c.args.object)) n ∙ sym (object_record_lem t c.requires.0 c.args.object c.requires.2) in
    let has : holds rec c.args.k ≡ true = eq-eqb _ 1 (rw c.byte_at-mask.ensures at c.if-mask-k-eq1.true) in
    field_number rec c.args.k c.word_at.result has c.word_at.ensures ∙ ap (λ x. field_in x c.args.k) there

pub returns-else-mask-k-eq1 : goal.returns-else-mask-k-eq1
returns-else-mask-k-eq1 c =
    let t = c.args.session.now in
    let n : length c.args.masks.now ≡ level_count t = ap length c.requires.1 ∙ masks_length t c.requires.0 in
    let rec = record_at t (length c.args.masks.now + c.args.object) in
    let there : rec ≡ get_or (object_records t) c.args.object [] =
    ap (λ m. record_at t (m + c.args.object)) n ∙ sym (object_record_lem t c.requires.0 c.args.object c.requires.2) in
    let has-not : holds rec c.args.k ≡ false = ne_eqb _ 1 (rw c.byte_at-mask.ensures at c.if-mask-k-eq1.false) in
    field_nil rec c.args.k has-not ∙ ap (λ x. field_in x c.args.k) there
