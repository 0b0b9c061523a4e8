use Rattle.std.proofs.{Common.{rules}, lemmas.List.Sorted.{IsPartitionPoint-from_clause}}
use Rattle.std.specs.Ordering.{is_gt}
use Rattle.pf_anchor.specs.Tables.{table_order}
use Rattle.pf_anchor.proofs.{TableMaps.table_order_total, TablesAnswered.parted_at}
use Rattle.pf_anchor.proofs.answered.count_before.Goals as goal

pub returns-clause-place : goal.returns-clause-place
returns-clause-place c =
    IsPartitionPoint-from_clause (λ a. is_gt (table_order (c.args.sought.now.path.now, c.args.sought.now.name.now) a.0)) _ _ c.partition_point.ensures.partitioned
    (parted_at table_order_total (c.args.sought.now.path.now, c.args.sought.now.name.now) c.args.known.now c.requires) (λ a r q k. search rules)
