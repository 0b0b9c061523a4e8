use Rattle.std.proofs.Common.{◌≡◌, ◌+◌, ◌-◌, ◌*◌}
use Rattle.pf_parse.specs.Reading.{repeating}
use Rattle.pf_parse.specs.Lists.{item_more, listed_hosts, hosts_in}
use Rattle.pf_parse.proofs.parser.Parser.+hosts.Given as goal

abbrev pub decreases-host_list : goal.decreases-host_list
decreases-host_list l = 2 * l.deep + 1

abbrev pub decreases-hosts_more : goal.decreases-hosts_more
decreases-hosts_more l = 2 * l.deep + 2

abbrev pub invariant-host_list-loop : goal.invariant-host_list-loop
invariant-host_list-loop l =
    repeating (item_more (listed_hosts (hosts_in (l.deep - 1)))) (l.end - l.counter) l.hosts l.self ≡ hosts_in l.deep l.fn.self
