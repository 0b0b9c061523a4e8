use Rattle.pf_form.specs.Laws.Form.Texts.{found, only}
use Rattle.pf_rule.specs.{RuleGrammar.{rule, rule_decided}, PacketGrammar.{packet, packet_decided}}
use Rattle.pf_rule.proofs.laws.rules_and_packets_are_read_as_spelled.Goals as goal

pub returns-clause-rules : goal.returns-clause-rules
returns-clause-rules c = λ ws r. (found _ rule rule_decided ws r, only _ rule rule_decided ws r)

pub returns-clause-packets : goal.returns-clause-packets
returns-clause-packets c = λ ws p. (found _ packet packet_decided ws p, only _ packet packet_decided ws p)
