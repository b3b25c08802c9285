use Rattle.std.proofs.Common.{rules, ◌≡◌, true}
use lib.Dec.{ltb}
use Rattle.std.proofs.lemmas.List.Sorted.{IsPartitionPoint-from_clause, IsPartitionedBy-ltb}
use Rattle.lists.specs.Lists.{rising_from}
use Rattle.lists.proofs.Laws.Rising.{rising_le}
use Rattle.session.specs.Record.{kind_of}
use Rattle.session.proofs.Laws.Parts.{kinds_rising}
use Rattle.session_records.proofs.Laws.Kinds.{point_is}
use Rattle.session_records.proofs.kinds.count_below.Goals as goal

pub returns : goal.returns
returns c =
    let xs = c.records.result.now in
    let rising : rising_from kind_of 0 xs ≡ true = rw c.records.ensures (kinds_rising c.args.session.now c.requires) in
    let point = IsPartitionPoint-from_clause (λ rec. ltb (kind_of rec) c.args.kind) xs c.partition_point.result c.partition_point.ensures.partitioned
    (IsPartitionedBy-ltb kind_of xs c.args.kind (λ i j d l h. rising_le kind_of d 0 xs rising i j l h)) (λ a r f' k. search rules) in
    rw (← c.records.ensures) (point_is xs c.args.kind c.partition_point.result rising c.partition_point.ensures.bound point.0 point.1)
