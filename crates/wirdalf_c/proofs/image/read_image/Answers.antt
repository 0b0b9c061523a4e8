use Rattle.wirdalf_c.proofs.Kept.{unread_reported}
use Rattle.wirdalf_c.proofs.image.read_image.Goals as goal

pub returns-clause-refused : goal.returns-clause-refused
returns-clause-refused c = rw c.as_read_fault.ensures (unread_reported c.in-Err.fault c.args.bytes.now (rw c.in-Ok.ensures.seen at c.in-Err.ensures.refused))
