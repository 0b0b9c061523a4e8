use Rattle.std.proofs.Common.{List, length, map, ap, ◌∙◌, arith}
use Rattle.pf_table.specs.declared.answer.Deletion.{Deletion}
use Rattle.pf_table.proofs.TableLaws.{one_answer_each}
use Rattle.pf_conf.specs.Tables.{entry_text}
use Rattle.pf_load.specs.Changes.{absent_by}
use Rattle.pf_load.proofs.Differing.{one_more_absent, all_absent}
use Rattle.pf_load.proofs.changes.absent_in.Goals as goal

pub index-requires : goal.index-requires
index-requires c = omega (arith, ap length c.in_ok-answers.ensures, (one_answer_each c.args.other.now c.args.entries.now).1)

pub loop-at-preserved : goal.loop-at-preserved
loop-at-preserved c =
    let answers = c.in_ok-answers.answers.items in
    one_more_absent c.loop-at.absent.items c.add_absent.new.absent.items (map entry_text (absent_by answers c.args.entries.now)) answers c.args.entries.now c.loop-at.at c.index.result.now c.index-entries-at.result
    (omega (arith, ap length c.in_ok-answers.ensures, (one_answer_each c.args.other.now c.args.entries.now).1)) c.loop-at-test.true c.index.ensures c.index-entries-at.is c.in_ok-add_absent.ensures c.loop-at.invariant

pub returns : goal.returns
returns c =
    let answers = c.in_ok-answers.answers.items in
    all_absent c.loop-at.absent.items (map entry_text (absent_by answers c.args.entries.now)) answers c.args.entries.now c.loop-at.at c.loop-at-test.false c.loop-at.invariant
    ∙ ap (λ (ds : List Deletion). map entry_text (absent_by ds c.args.entries.now)) c.in_ok-answers.ensures
