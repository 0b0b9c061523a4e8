use Rattle.pf_load.specs.Changes.{rules_question}
use Rattle.pf_conf.proofs.CommitTexts.{sent_whole}
use Rattle.pf_load.proofs.changes.show_rules.Goals as goal

pub returns : goal.returns
returns g c = sent_whole c.show_ruleset.result (g.W.Write.contents c.args.server.now) (g.W.Write.contents c.ask_list.new.server) (rules_question c.args.ruleset.now) c.in_ok-list.ensures
