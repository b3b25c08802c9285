use Prim.Native.Nat.{◌+◌, ◌*◌}
use mathlib.Core.Path.{◌≡◌, ap}
use native.Mathlib.Omega.{arith}
use lib.ListN.{length}
use Rattle.session.specs.Limits.{max_objects}
use Rattle.session.specs.Parts.{level_count}
use Rattle.session.specs.Program.{program_of}
use Rattle.session.proofs.Laws.Contents.{object_limit, level_limit}
use Rattle.session.proofs.Laws.Numbers.{number_own, number_made}
use Rattle.fields.specs.Fields.{field_at}
use Rattle.results.proofs.Laws.Behind.{rest_length, placed_behind}
use Rattle.results.proofs.Laws.Shown.{range_length}
use Rattle.results.proofs.Laws.Written.{table_length, numbers_placed}
use Rattle.results.proofs.shown.Outcome.write_objects.Goals as goal

pub write_range-at-requires : goal.write_range-at-requires
write_range-at-requires c =
    let t = c.args.self.now.session.bytes.now in
    let n = c.object_count.ensures in (
      λ i h. number_own t (0 + i) (omega (arith, h, n)),
      omega (arith, c.requires, n, object_limit t c.args.self.now.session.accepted),
    )

pub write_range-requires : goal.write_range-requires
write_range-requires c =
    let o = c.args.self.now in
    let t = o.session.bytes.now in
    let a = o.session.accepted in
    let own = c.write_range-at in
    let objects = c.object_count in
    let levels : length o.session.masks.now ≡ level_count t =
    table_length t o.session.masks.now o.fields.now o.histories.now o.counts.now o.clearance o.fields_ready o.histories_ready in (
      λ i h. number_made t (max_objects + i) (omega arith) (omega (arith, h, levels)),
      omega (
        arith,
        c.requires,
        own.ensures.ends,
        range_length (program_of t) (field_at o.fields.now) o.clearance 0 objects.result,
        objects.ensures,
        object_limit t a,
        levels,
        level_limit t a,
        rest_length c.args.res.now own.new.res _ own.result own.ensures,
      ),
    )

pub returns : goal.returns
unfolding program_of
returns c =
    let o = c.args.self.now in
    let t = o.session.bytes.now in
    let own = c.write_range-at in
    let made = c.write_range in
    let objects = c.object_count in
    let levels : length o.session.masks.now ≡ level_count t =
    table_length t o.session.masks.now o.fields.now o.histories.now o.counts.now o.clearance o.fields_ready o.histories_ready in
    numbers_placed (program_of t) (field_at o.fields.now) o.clearance objects.result (4 * length o.session.masks.now) own.result (own.result + made.result)
    c.args.res.now own.new.res _
    objects.ensures (ap (λ n. 4 * n) levels) own.ensures
    (placed_behind c.args.res.now own.new.res _ own.result own.ensures made.new.res _ made.result made.ensures)
