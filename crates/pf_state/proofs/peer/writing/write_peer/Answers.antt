use Rattle.std.proofs.{Common.{◌≡◌, arith}, lemmas.Grind.common_steps}
use Rattle.pf_state.specs.Peer.Written.{Each, IsGroup, message_bytes}
use Rattle.pf_state.proofs.RoundTrip.{message_again}
use Rattle.pf_state.proofs.peer.writing.write_peer.Goals as goal

pub returns-clause-read : goal.returns-clause-read
returns-clause-read c =
    let m = c.args.message.now in
    let same : c.extend_from_slice-3.new.self.items ≡ message_bytes m = grind (arith, common_steps) in
    let groups : Each IsGroup m.groups = rw c.as_slice.ensures at c.in_ok-push_groups.ensures.kept in
    rw same (message_again m (record { checksum = omega arith; groups = groups; fits = omega (arith, c.requires) }))
