use Rattle.pf_anchor.proofs.AnswersAt.{rest_sorted, found_at_path}
use Rattle.pf_anchor.proofs.answered.all_at.Goals as goal

pub count_up_to_path-count-requires : goal.count_up_to_path-count-requires
count_up_to_path-count-requires c = rest_sorted c.count_before_path-start.result c.args.known.now c.requires

pub returns : goal.returns
returns c = λ packet ts are.
    found_at_path c.args.path.now c.args.known.now c.count_before_path-start.result c.count_up_to_path-count.result c.requires c.count_before_path-start.ensures.place
    c.count_up_to_path-count.ensures.place packet ts are
