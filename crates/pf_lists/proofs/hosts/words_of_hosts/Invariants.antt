use Rattle.std.proofs.Common.{◌≡◌, map, take}
use Rattle.pf_lists.specs.Hosts.{host_words}
use Rattle.pf_lists.proofs.hosts.words_of_hosts.Given as goal

abbrev pub invariant-loop-host : goal.invariant-loop-host
invariant-loop-host l = l.words ≡ map host_words (take l.host-index l.hosts)
