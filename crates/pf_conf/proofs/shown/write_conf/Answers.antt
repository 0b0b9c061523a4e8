use Rattle.pf_addr.specs.Writing.{Continues-then, after_nothing}
use Rattle.pf_conf.proofs.shown.write_conf.Goals as goal

pub returns : goal.returns
returns g c = after_nothing tt (Continues-then (rw c.as_slice.ensures at c.write_rulesets-so_far.ensures) (rw c.as_slice-2.ensures at c.write_tables.ensures))
