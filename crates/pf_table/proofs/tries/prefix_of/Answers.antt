use Rattle.pf_table.proofs.TrieSigns.{prefix_is}
use Rattle.pf_table.proofs.tries.prefix_of.Goals as goal

pub returns : goal.returns
returns c = prefix_is c.args.net c.wide_number.result c.prefix_len.result c.addr.result c.addr.ensures.value c.wide_number.ensures
    c.prefix_len.ensures.value c.prefix_len.ensures.within
