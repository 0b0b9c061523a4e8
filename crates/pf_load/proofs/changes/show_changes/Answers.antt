use Rattle.std.specs.List.{flat_map}
use Rattle.pf_addr.specs.Writing.{WritesFront-longer, WritesFront-then, Appends-then}
use Rattle.pf_conf.specs.Commit.Naming.{table_paths}
use Rattle.pf_load.specs.Changes.{rules_question, tables_question, questions}
use Rattle.pf_conf.proofs.CommitTexts.{whole_front, sent_front, sent_whole}
use Rattle.pf_load.proofs.changes.show_changes.Goals as goal

pub returns-in_err-show_rulesets : goal.returns-in_err-show_rulesets
returns-in_err-show_rulesets g c =
    let rules = flat_map rules_question c.args.conf.now.rulesets in
    let tables = flat_map tables_question (table_paths c.args.conf.now.tables) in
    sent_front c.from_residual.result _ (g.W.Write.contents c.args.server.now) (g.W.Write.contents c.show_rulesets.new.server) (questions c.args.conf.now) c.from_residual.ensures.1
    (WritesFront-longer (g.W.Write.contents c.args.server.now) (g.W.Write.contents c.show_rulesets.new.server) rules tables (rw c.as_slice.ensures at c.in_err-show_rulesets.ensures))

pub returns-in_err-paths : goal.returns-in_err-paths
returns-in_err-paths g c =
    let rules = flat_map rules_question c.args.conf.now.rulesets in
    let tables = flat_map tables_question (table_paths c.args.conf.now.tables) in
    sent_front c.from_residual-in_err-paths.result _ (g.W.Write.contents c.args.server.now) (g.W.Write.contents c.show_rulesets.new.server) (questions c.args.conf.now) c.from_residual-in_err-paths.ensures.1
    (WritesFront-longer (g.W.Write.contents c.args.server.now) (g.W.Write.contents c.show_rulesets.new.server) rules tables
    (whole_front (g.W.Write.contents c.args.server.now) (g.W.Write.contents c.show_rulesets.new.server) rules (rw c.as_slice.ensures at c.in_ok-show_rulesets.ensures)))

pub returns-in_err-show_paths : goal.returns-in_err-show_paths
returns-in_err-show_paths g c =
    let rules = flat_map rules_question c.args.conf.now.rulesets in
    let tables = flat_map tables_question (table_paths c.args.conf.now.tables) in
    sent_front c.from_residual-in_err-show_paths.result _ (g.W.Write.contents c.args.server.now) (g.W.Write.contents c.show_paths.new.server) (questions c.args.conf.now) c.from_residual-in_err-show_paths.ensures.1
    (WritesFront-then (g.W.Write.contents c.args.server.now) (g.W.Write.contents c.show_rulesets.new.server) (g.W.Write.contents c.show_paths.new.server) rules tables (rw c.as_slice.ensures at c.in_ok-show_rulesets.ensures)
    (rw (c.deref.ensures.value, c.in_ok-paths.ensures, c.as_slice-tables.ensures) at c.in_err-show_paths.ensures))

pub returns : goal.returns
returns g c =
    let rules = flat_map rules_question c.args.conf.now.rulesets in
    let tables = flat_map tables_question (table_paths c.args.conf.now.tables) in
    sent_whole c.output_checked.result (g.W.Write.contents c.args.server.now) (g.W.Write.contents c.show_paths.new.server) (questions c.args.conf.now)
    (Appends-then (g.W.Write.contents c.args.server.now) (g.W.Write.contents c.show_rulesets.new.server) (g.W.Write.contents c.show_paths.new.server) rules tables (rw c.as_slice.ensures at c.in_ok-show_rulesets.ensures)
    (rw (c.deref.ensures.value, c.in_ok-paths.ensures, c.as_slice-tables.ensures) at c.in_ok-show_paths.ensures))
