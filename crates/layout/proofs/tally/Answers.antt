use Rattle.layout.proofs.Laws.Levels.{tallied_aside, tallied_beyond, tallied_more}
use Rattle.layout.proofs.tally.Goals as goal

pub returns-then-byte_at-ne-HISTORY : goal.returns-then-byte_at-ne-HISTORY
returns-then-byte_at-ne-HISTORY c =
    let g = c.args in
    let kind = c.byte_at in
    tallied_aside g.bytes.now g.number g.steps.now g.managers.now c.requires.0 kind.result kind.ensures c.if-byte_at-ne-HISTORY.true

pub returns-then-level-ge-MAX_LEVELS : goal.returns-then-level-ge-MAX_LEVELS
returns-then-level-ge-MAX_LEVELS c =
    let g = c.args in
    let level = c.byte_at-level in
    tallied_beyond g.bytes.now g.number g.steps.now g.managers.now c.requires.0 level.result level.ensures c.if-level-ge-MAX_LEVELS.true

pub returns : goal.returns
returns c =
    let g = c.args in
    let kind = c.byte_at in
    let level = c.byte_at-level in
    let added = c.half_in in
    tallied_more g.bytes.now g.number g.steps.now g.managers.now c.requires.0 kind.result level.result added.result kind.ensures c.if-byte_at-ne-HISTORY.false level.ensures c.if-level-ge-MAX_LEVELS.false added.ensures.0 added.ensures.1
