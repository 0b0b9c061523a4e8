use Rattle.std.proofs.{Common.{rules}, lemmas.List.Sorted.{IsPartitionPoint-from_clause}}
use Rattle.std.specs.Ordering.{is_ge}
use Rattle.pf_addr.specs.Path.Paths.{path_order}
use Rattle.pf_anchor.proofs.AnswersAt.{paths_up_to}
use Rattle.pf_anchor.proofs.answered.count_up_to_path.Goals as goal

pub returns-clause-place : goal.returns-clause-place
returns-clause-place c =
    IsPartitionPoint-from_clause (λ a. is_ge (path_order c.args.path.now a.0.0)) _ _ c.partition_point.ensures.partitioned
    (paths_up_to c.args.path.now c.args.known.now c.requires) (λ a r q k. search rules)
