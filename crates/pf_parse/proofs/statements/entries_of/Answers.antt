use Rattle.pf_parse.specs.Lines.{entries_of}
use Rattle.pf_parse.proofs.InTurn.{after_none}
use Rattle.pf_parse.proofs.statements.entries_of.Goals as goal

pub loop-host-init : goal.loop-host-init
loop-host-init c = rw c.new-entries.ensures (after_none (entries_of c.args.hosts.now))
