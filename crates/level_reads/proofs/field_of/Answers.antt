use Rattle.level_state.proofs.Laws.Reads.{read_there, bound_ready, versions_ready, read_current, read_version}
use Rattle.level_reads.proofs.field_of.Goals as goal

pub get-requires : goal.get-requires
get-requires g c =
    let p = c.requires in
    read_there p.leveled p.readable p.named.0 c.level_of-j.ensures

pub returns-then-j-level : goal.returns-then-j-level
returns-then-j-level g c =
    let p = c.requires in
    read_current p.leveled p.readable p.named.0 c.level_of-j.ensures c.if-j-level.true c.get.ensures

pub bound_of-bound-requires : goal.bound_of-bound-requires
bound_of-bound-requires g c =
    let p = c.requires in
    bound_ready p.leveled p.readable p.named.0 c.level_of-j.ensures

pub versions-requires : goal.versions-requires
versions-requires g c =
    let p = c.requires in
    let q = bound_ready p.leveled p.readable p.named.0 c.level_of-j.ensures in
    (q.level, q.counted)

pub newest_to-requires : goal.newest_to-requires
newest_to-requires g c =
    let p = c.requires in
    let q = versions_ready p.leveled p.readable p.named.0 c.level_of-j.ensures in
    record { within = rw c.versions.ensures q.0; stamps_rise = rw c.versions.ensures q.1 }

pub returns : goal.returns
returns g c =
    let p = c.requires in
    let apart = c.if-j-level.false in
    let bound = c.bound_of-bound.ensures in
    read_version p.leveled p.readable p.named.0 c.level_of-j.ensures apart bound c.first_field-initial.ensures (rw c.versions.ensures at c.newest_to.ensures)
