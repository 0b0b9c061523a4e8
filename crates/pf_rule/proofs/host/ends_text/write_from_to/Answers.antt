use Rattle.std.proofs.Common.{subst, sym}
use Rattle.pf_addr.specs.Writing.{Continues, Continues-then}
use Rattle.pf_rule.specs.Laws.Host.Ends.{ends_in_order}
use Rattle.pf_rule.proofs.host.ends_text.write_from_to.Goals as goal

pub returns : goal.returns
returns g c =
    subst (Continues c.args.so_far (g.W.Write.contents c.args.out.now) c.write_end.result (g.W.Write.contents c.write_end.new.out)) (sym (ends_in_order c.args.source c.args.destination))
    (Continues-then c.write_more-so_far.ensures (Continues-then c.write_end-so_far.ensures (Continues-then c.write_more-so_far-2.ensures c.write_end.ensures)))
