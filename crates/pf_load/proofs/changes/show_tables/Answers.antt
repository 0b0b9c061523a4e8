use Rattle.pf_load.specs.Changes.{tables_question}
use Rattle.pf_conf.proofs.CommitTexts.{sent_whole}
use Rattle.pf_load.proofs.changes.show_tables.Goals as goal

pub returns : goal.returns
returns g c = sent_whole c.show_listed.result (g.W.Write.contents c.args.server.now) (g.W.Write.contents c.ask_list.new.server) (tables_question c.args.path.now) c.in_ok-list.ensures
