use Rattle.pf_addr.proofs.Nesting.{path_few, leads_deeper, has_one_more, each_is_child}
use Rattle.pf_addr.proofs.path.laws.paths_stand_within_one_another.Goals as goal

pub returns : goal.returns
returns c = record { limit = path_few; deeper = leads_deeper; one_more = has_one_more; each = each_is_child }
