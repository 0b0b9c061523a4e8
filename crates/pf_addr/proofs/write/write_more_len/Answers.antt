use Rattle.std.proofs.{Common.rules, lemmas.Bool.ne_eqb}
use Rattle.pf_addr.specs.{Address.width, Writing.Continues-then}
use Rattle.pf_addr.proofs.write.write_more_len.Goals as goal

pub returns : goal.returns
returns g c = rw (ne_eqb c.args.net.len (width c.args.net.family) (search rules)) (Continues-then c.write_more-so_far.ensures (rw (c.from.ensures, c.prefix_len-2.ensures.value) at c.write_more_number.ensures))
