use Rattle.pf_load.proofs.Lists.{lists_read, lists_counted}
use Rattle.pf_load.proofs.files.laws.rules_are_the_ways_that_are_left.Goals as goal

pub returns : goal.returns
returns c = record { read = lists_read; counted = lists_counted c.rules_are_counted.ensures c.ways_have_numbers.ensures.number }
