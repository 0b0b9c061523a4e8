use Rattle.pf_addr.specs.Spelling.{net_text}
use Rattle.pf_line.proofs.Newlines.{network_plain}
use Rattle.pf_line.proofs.reply.entry.write_network.Goals as goal

pub returns : goal.returns
returns g c = record {
  written = c.write_more_net.ensures;
  one_line = network_plain (net_text c.args.net) (c.net_text_is_one_word.ensures c.args.net (record { len = c.family-kept.ensures.within; front = c.family-kept.ensures.front }));
}
