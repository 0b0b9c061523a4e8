use Rattle.std.proofs.{Common.{rules}, lemmas.List.Sorted.{IsPartitionPoint-from_clause}}
use Rattle.std.specs.Ordering.{is_gt}
use Rattle.pf_addr.specs.Path.Paths.{path_order}
use Rattle.pf_anchor.proofs.AnswersAt.{paths_before}
use Rattle.pf_anchor.proofs.answered.count_before_path.Goals as goal

pub returns-clause-place : goal.returns-clause-place
returns-clause-place c =
    IsPartitionPoint-from_clause (λ a. is_gt (path_order c.args.path.now a.0.0)) _ _ c.partition_point.ensures.partitioned
    (paths_before c.args.path.now c.args.known.now c.requires) (λ a r q k. search rules)
