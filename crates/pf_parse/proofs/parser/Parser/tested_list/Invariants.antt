use Rattle.std.proofs.Common.{◌≡◌, ◌-◌}
use Rattle.pf_parse.specs.Reading.{repeating}
use Rattle.pf_parse.specs.Lists.{item_more, listed_item, list, tested}
use Rattle.pf_parse.proofs.parser.Parser.tested_list.Given as goal

abbrev pub invariant-loop : goal.invariant-loop
invariant-loop l =
    repeating (item_more (listed_item (tested l.what))) (l.end - l.counter) l.list l.self ≡ list (listed_item (tested l.what)) l.fn.self
