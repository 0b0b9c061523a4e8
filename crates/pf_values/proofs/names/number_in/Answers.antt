use Rattle.std.proofs.Common.{[], ◌∙◌, arith}
use Rattle.pf_values.proofs.Steps.{number_next, number_here}
use Rattle.pf_values.proofs.names.number_in.Goals as goal

pub returns-then-eq : goal.returns-then-eq
returns-then-eq c =
    number_here c.args.table.now c.loop-row.row-index _ c.args.name.now (omega arith) (cc) ∙ c.loop-row.invariant

pub loop-row-preserved : goal.loop-row-preserved
loop-row-preserved c =
    number_next c.args.table.now c.loop-row.row-index (record { ref_ptr = (0, 0); now = [] }, 0) c.args.name.now (omega arith) (cc) ∙ c.loop-row.invariant
