use Rattle.wirdalf_c.proofs.{Configurations.handed_back, Kept.copied_answered}
use Rattle.wirdalf_c.proofs.wirdalf_clone.Goals as goal

pub returns-clause-copied : goal.returns-clause-copied
returns-clause-copied c =
    rw c.lend.ensures.value (copied_answered c.shared.result c.lend.result.now c.args.copy.now c.keep.new.config c.keep.result c.keep.new.place (rw c.durable.ensures at c.shared.ensures.ok) c.shared.ensures.err c.keep.ensures)

pub returns-clause-same : goal.returns-clause-same
returns-clause-same c = handed_back c.args.config.now c.lend.result.now c.lend.ensures.value
