use Prim.Native.Nat.{◌<◌}
use native.Mathlib.Omega.{arith}
use Rattle.dominance.specs.Table.{dominates}
use Rattle.lists.specs.Lists.{tab, joined}
use Rattle.histories.specs.Histories.{ended_in}
use Rattle.results.specs.Writing.{shown_level}
use Rattle.histories.proofs.Laws.Histories.{ended_few}
use Rattle.lists.proofs.Laws.Placed.{groups_none}
use Rattle.results.proofs.Laws.Behind.{rest_length, groups_behind}
use Rattle.results.proofs.Laws.Shown.{level_length}
use Rattle.results.proofs.Laws.Written.{table_few}
use Rattle.results.proofs.shown.Outcome.write_levels.Goals as goal

pub loop-level-init : goal.loop-level-init
loop-level-init c =
    let o = c.args.self.now in
    (omega arith, omega arith, omega arith, groups_none (shown_level (dominates o.session.masks.now) (ended_in o.histories.now o.counts.now) o.clearance) 0 c.args.res.now (omega arith))

pub write_level-at-requires : goal.write_level-at-requires
write_level-at-requires c =
    let o = c.args.self.now in
    let at = c.loop-level in
    let shown = shown_level (dominates o.session.masks.now) (ended_in o.histories.now o.counts.now) o.clearance in
    let few = table_few o.session.bytes.now o.session.masks.now o.fields.now o.histories.now o.counts.now o.clearance o.fields_ready o.histories_ready in (
      omega (arith, few, c.loop-level-test.true, at.invariant.0),
      omega (arith, few, c.loop-level-test.true, at.invariant.0, at.invariant.2, c.requires, rest_length c.args.res.now at.res (joined (tab at.level shown)) at.at at.invariant.3),
    )

pub loop-level-preserved : goal.loop-level-preserved
loop-level-preserved c =
    let o = c.args.self.now in
    let at = c.loop-level in
    let w = c.write_level-at in
    let ended = ended_in o.histories.now o.counts.now in
    let few : at.level < 8 =
    omega (arith, c.loop-level-test.true, at.invariant.0, table_few o.session.bytes.now o.session.masks.now o.fields.now o.histories.now o.counts.now o.clearance o.fields_ready o.histories_ready) in (
      at.invariant.0,
      omega arith,
      omega (arith, at.invariant.2, w.ensures.ends, level_length (dominates o.session.masks.now) ended o.clearance at.level (ended_few o.histories.now o.counts.now o.histories_ready at.level few)),
      groups_behind (shown_level (dominates o.session.masks.now) ended o.clearance) at.level at.at w.result c.args.res.now at.res w.new.res at.invariant.3 w.ensures,
    )
