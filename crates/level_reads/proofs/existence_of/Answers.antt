use mathlib.Core.Path.{sym, ◌∙◌}
use borrow.Author.Tests.{eqb-true}
use Rattle.session.proofs.Laws.Numbers.{number_few}
use Rattle.level_state.proofs.Laws.Reads.{first-existence, read_there, bound_ready, versions_ready, read_current, read_version, existence-current}
use Rattle.level_reads.proofs.existence_of.Goals as goal
use Rattle.level_reads.proofs.existence_of.Goals.{then-j-level-via-then-j-level, then-j-level-via-else-j-level+then-is_level_unchanged}

pub is_level_unchanged-requires : goal.is_level_unchanged-requires
is_level_unchanged-requires g c =
    let p = c.requires in
    let q = bound_ready p.leveled p.readable p.named c.level_of-j.ensures in
    (q.level, q.counted)

pub get-requires : goal.get-requires
get-requires g c =
    let p = c.requires in
    read_there p.leveled p.readable p.named c.level_of-j.ensures

pub returns-then-j-level : goal.returns-then-j-level
returns-then-j-level g c =
    let p = c.requires in
    elim c.then-j-level.branch [
      | then-j-level-via-then-j-level w ↦ read_current p.leveled p.readable p.named c.level_of-j.ensures w.if-j-level.true c.get.ensures
      | then-j-level-via-else-j-level+then-is_level_unchanged w ↦
          existence-current p.leveled p.readable p.named c.level_of-j.ensures (eqb-true _ 0 (sym w.is_level_unchanged.ensures ∙ w.if-is_level_unchanged.true)) c.get.ensures
    ]

pub first_existence-initial-requires : goal.first_existence-initial-requires
first_existence-initial-requires g c =
    number_few _ c.requires.leveled.accepted c.args.object c.requires.named.number

pub bound_of-bound-requires : goal.bound_of-bound-requires
bound_of-bound-requires g c =
    let p = c.requires in
    bound_ready p.leveled p.readable p.named c.level_of-j.ensures

pub versions-requires : goal.versions-requires
versions-requires g c =
    let p = c.requires in
    let q = bound_ready p.leveled p.readable p.named c.level_of-j.ensures in
    (q.level, q.counted)

pub newest_to-requires : goal.newest_to-requires
newest_to-requires g c =
    let p = c.requires in
    let q = versions_ready p.leveled p.readable p.named c.level_of-j.ensures in
    record { within = rw c.versions.ensures q.0; stamps_rise = rw c.versions.ensures q.1 }

pub returns : goal.returns
returns g c =
    let p = c.requires in
    let apart = c.if-j-level.false in
    let bound = c.bound_of-bound.ensures in
    let initial = c.first_existence-initial.ensures ∙ first-existence _ p.leveled.accepted c.args.object p.named.number in
    read_version p.leveled p.readable p.named c.level_of-j.ensures apart bound initial (rw c.versions.ensures at c.newest_to.ensures)
