use Rattle.std.proofs.{Common.{rules}, lemmas.List.Sorted.{IsPartitionPoint-from_clause}}
use Rattle.std.specs.Ordering.{is_ge}
use Rattle.pf_anchor.specs.Known.{place_order, place_of}
use Rattle.pf_anchor.proofs.GivenAt.{parted_past}
use Rattle.pf_anchor.proofs.known.count_up_to.Goals as goal

pub returns-clause-place : goal.returns-clause-place
returns-clause-place c =
    IsPartitionPoint-from_clause (λ k. is_ge (place_order (c.args.depth, c.args.bytes.now) (place_of k.0.0))) _ _ c.partition_point.ensures.partitioned
    (parted_past (c.args.depth, c.args.bytes.now) c.args.known.now c.requires) (λ a r q k. search rules)
