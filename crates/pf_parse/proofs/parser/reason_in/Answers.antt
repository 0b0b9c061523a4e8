use Rattle.std.proofs.Common.{[], ◌∙◌, arith}
use Rattle.pf_parse.specs.declared.fault.Reason.TheVariants.{Translation}
use Rattle.pf_parse.proofs.Steps.{reason_next, reason_here}
use Rattle.pf_parse.proofs.parser.reason_in.Goals as goal

pub returns-then-is_word : goal.returns-then-is_word
returns-then-is_word c =
    reason_here c.args.table.now c.loop-row.row-index _ c.args.word.now (omega arith) (cc) ∙ c.loop-row.invariant

pub loop-row-preserved : goal.loop-row-preserved
loop-row-preserved c =
    reason_next c.args.table.now c.loop-row.row-index (record { ref_ptr = (0, 0); now = [] }, Translation) c.args.word.now (omega arith) (cc) ∙ c.loop-row.invariant
