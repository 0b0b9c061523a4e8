use Rattle.std.proofs.Common.{refl}
use Rattle.pfd.proofs.connection.carry_on_stage.Goals as goal

pub returns-in-Session : goal.returns-in-Session
returns-in-Session g c =
    rw c.in-Session.is
    (c.go_on_by.new.session, refl, c.go_on_by.ensures.number, c.go_on_by.new.last, c.go_on_by.ensures.part)

pub returns-in-Asking : goal.returns-in-Asking
returns-in-Asking g c =
    rw c.in-Asking.is
    (c.go_on_asking_by.new.session, refl, c.go_on_asking_by.ensures.number, c.go_on_asking_by.new.last, c.go_on_asking_by.ensures.part)

pub returns-in-Peer : goal.returns-in-Peer
returns-in-Peer g c =
    rw c.in-Peer.is
    (refl, (c.go_on_peer_by.new.stream, refl, λ goes. (c.go_on_peer_by.new.last, c.go_on_peer_by.ensures.part goes)))
