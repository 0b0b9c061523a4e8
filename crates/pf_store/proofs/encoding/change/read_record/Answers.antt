use Rattle.pf_store.proofs.ByKind.{nothing_read}
use Rattle.pf_store.proofs.encoding.change.read_record.Goals as goal

pub returns-in-empty : goal.returns-in-empty
returns-in-empty c = nothing_read c.args.version c.args.from.now.now c.in-empty.len_below
