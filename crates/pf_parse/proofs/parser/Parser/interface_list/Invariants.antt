use Rattle.std.proofs.Common.{◌≡◌, ◌-◌}
use Rattle.pf_parse.specs.Reading.{repeating}
use Rattle.pf_parse.specs.Lists.{item_more, listed_item, list, interface}
use Rattle.pf_parse.proofs.parser.Parser.interface_list.Given as goal

abbrev pub invariant-loop : goal.invariant-loop
invariant-loop l =
    repeating (item_more (listed_item interface)) (l.end - l.counter) l.list l.self ≡ list (listed_item interface) l.fn.self
