use Rattle.pf_addr.specs.Writing.{Continues-then, after_nothing}
use Rattle.pfd_conf.proofs.firewall.Firewall.write_explained.Goals as goal

pub returns : goal.returns
returns g c =
    let w =
    after_nothing tt
    (Continues-then (Continues-then (rw (c.deref.ensures.value, c.origins.ensures) at c.write_matches-so_far.ensures)
    (rw c.note.ensures at c.write_more-so_far.ensures)) (rw (c.judge.ensures, c.origins-2.ensures) at c.write_verdict.ensures)) in
    w.0
