use Rattle.pf_conf.proofs.Texts.{WroteSome}
use Rattle.pf_conf.proofs.tables.write_entries.Given as goal

abbrev pub invariant-loop-entry : goal.invariant-loop-entry
invariant-loop-entry g l = WroteSome l.fn.begun (g.W.Write.contents l.initial.out) l.so_far (g.W.Write.contents l.out) l.table l.entry-iterator
