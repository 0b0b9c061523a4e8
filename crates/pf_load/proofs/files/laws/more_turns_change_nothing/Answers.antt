use Rattle.pf_load.proofs.Turns.{lines_suffice, parts_suffice, options_suffice, interfaces_suffice, protocols_suffice, ports_suffice, hosts_suffice}
use Rattle.pf_load.proofs.files.laws.more_turns_change_nothing.Goals as goal

pub returns : goal.returns
returns c = record {
  lines = lines_suffice;
  parts = parts_suffice;
  options = options_suffice;
  interfaces = interfaces_suffice;
  protocols = protocols_suffice;
  ports = ports_suffice;
  hosts = hosts_suffice;
}
