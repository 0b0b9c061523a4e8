use Rattle.std.proofs.Common.{arith}
use Rattle.std.specs.List.{flat_map}
use Rattle.pf_load.specs.Changes.{tables_question}
use Rattle.pf_conf.proofs.CommitTexts.{one_more_text, stopped_at_text, sent_front}
use Rattle.pf_load.proofs.changes.show_paths.Goals as goal

pub returns-in_err-show_tables : goal.returns-in_err-show_tables
returns-in_err-show_tables g c =
    sent_front c.from_residual.result _ (g.W.Write.contents c.args.server.now) (g.W.Write.contents c.show_tables.new.server) (flat_map tables_question c.args.paths.now) c.from_residual.ensures.1
    (stopped_at_text tables_question (g.W.Write.contents c.args.server.now) (g.W.Write.contents c.loop-path.server) (g.W.Write.contents c.show_tables.new.server) c.args.paths.now c.loop-path.path-index c.path-item.result
    (omega arith) c.path-item.is c.loop-path.invariant c.in_err-show_tables.ensures)

pub loop-path-preserved : goal.loop-path-preserved
loop-path-preserved g c =
    one_more_text tables_question (g.W.Write.contents c.args.server.now) (g.W.Write.contents c.loop-path.server) (g.W.Write.contents c.show_tables.new.server) c.args.paths.now c.loop-path.path-index c.path-item.result
    (omega arith) c.path-item.is c.loop-path.invariant c.in_ok-show_tables.ensures
