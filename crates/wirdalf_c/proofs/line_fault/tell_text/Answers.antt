use Rattle.wirdalf_c.proofs.Fronts.{front_reported}
use Rattle.wirdalf_c.specs.declared.record.TheConstants.{REPLY_LIMIT}
use Rattle.wirdalf_c.proofs.line_fault.tell_text.Goals as goal

pub returns-clause-room : goal.returns-clause-room
returns-clause-room c = front_reported REPLY_LIMIT c.args.text.now c.copy_from_slice.new.self _ c.min-count.result c.min-count.ensures c.copy_from_slice.ensures.after
