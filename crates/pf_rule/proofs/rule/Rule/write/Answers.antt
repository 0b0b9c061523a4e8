use Rattle.std.proofs.Common.{subst, sym}
use Rattle.pf_addr.specs.Writing.{Writes, Continues-then}
use Rattle.pf_rule.specs.InOrder.{in_order}
use Rattle.pf_rule.proofs.rule.Rule.write.Goals as goal

pub returns : goal.returns
returns g c =
    let rest =
    Continues-then c.write_reference-so_far.ensures
    (Continues-then c.write_more-so_far.ensures
    (Continues-then c.write_more-so_far-2.ensures
    (Continues-then c.write_interface-so_far.ensures
    (Continues-then c.write_more-so_far-3.ensures
    (Continues-then c.write_protocol-so_far.ensures
    (Continues-then c.write_ends-so_far.ensures
    (Continues-then c.write_more-so_far-4.ensures c.write_label.ensures))))))) in
    let whole = rest.following (g.W.Write.contents c.args.out.now) c.effect_text.result.now (c.write_text-so_far.ensures.text, c.write_text-so_far.ensures.retried) in
    let text = rw (c.effect_text.ensures, c.direction_text.ensures, c.quick_text.ensures, c.family_text.ensures, c.state_text.ensures, c.effect.ensures.effect, c.direction.ensures, c.is_quick.ensures, c.interface.ensures, c.family.ensures, c.protocol.ensures, c.source.ensures, c.source_port.ensures, c.destination.ensures, c.destination_port.ensures, c.effect-2.ensures.effect, c.effect-3.ensures.effect, c.own_label.ensures) at whole.0 in
    record {
      text = subst (Writes c.write_label.result (g.W.Write.contents c.args.out.now) (g.W.Write.contents c.write_label.new.out)) (sym (in_order c.args.self.now)) text;
      retried = whole.1;
    }
