use Rattle.pf_core.proofs.Edited.{edits_exactly, deletes_nothing}
use Rattle.pf_core.proofs.durable.laws.edits_change_one_table.Goals as goal

pub returns : goal.returns
returns c = record { exactly = edits_exactly; nothing = deletes_nothing }
