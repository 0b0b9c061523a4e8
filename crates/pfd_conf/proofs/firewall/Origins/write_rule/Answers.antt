use Rattle.pf_addr.specs.Writing.{Continues-then}
use Rattle.pfd_conf.proofs.firewall.Origins.write_rule.Goals as goal

pub returns : goal.returns
returns g c =
    Continues-then
    (Continues-then
    (Continues-then
    (Continues-then
    (Continues-then
    (Continues-then (rw c.files.ensures at c.write_front-so_far.ensures) c.write_more-so_far.ensures)
    (rw c.sign.ensures at c.write_more-so_far-2.ensures))
    c.write_more_number-so_far.ensures)
    c.write_more-so_far-3.ensures)
    c.write_rule_text-so_far.ensures)
    c.write_more.ensures
