use Rattle.pf_state.proofs.ExportParts.{export_fits}
use Rattle.pf_state.proofs.failover.outgoing.written.Goals as goal

pub write_peer-requires : goal.write_peer-requires
write_peer-requires c = rw (c.new.ensures, c.in_ok-push.ensures.items, c.new-groups.ensures.items, c.in_ok-inserts_of.ensures) (export_fits c.args.current.now c.args.states.now c.requires)
