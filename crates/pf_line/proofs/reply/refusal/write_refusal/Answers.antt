use Rattle.pf_line.proofs.reply.refusal.write_refusal.Goals as goal

pub returns-in-RulesetFull : goal.returns-in-RulesetFull
returns-in-RulesetFull g c = rw c.in-RulesetFull.is c.write_part-in-RulesetFull.ensures

pub returns-in-TooManyRulesets : goal.returns-in-TooManyRulesets
returns-in-TooManyRulesets g c = rw c.in-TooManyRulesets.is c.write_part-in-TooManyRulesets.ensures

pub returns-in-TicketsExhausted : goal.returns-in-TicketsExhausted
returns-in-TicketsExhausted g c = rw c.in-TicketsExhausted.is c.write_part-in-TicketsExhausted.ensures

pub returns-in-PeerCount : goal.returns-in-PeerCount
returns-in-PeerCount g c = rw c.in-PeerCount.is c.write_part-in-PeerCount.ensures

pub returns-in-HistoryFull : goal.returns-in-HistoryFull
returns-in-HistoryFull g c = rw c.in-HistoryFull.is c.write_part-in-HistoryFull.ensures

pub returns-in-NotGrouped : goal.returns-in-NotGrouped
returns-in-NotGrouped g c = rw c.in-NotGrouped.is c.write_numbered-in-NotGrouped.ensures
