use Rattle.std.proofs.Common.{◌∙◌}
use Rattle.pf_conf.specs.Tables.{entry_text}
use Rattle.pf_conf.proofs.CommitTexts.{made}
use Rattle.pf_load.proofs.changes.entry_text.Goals as goal

pub returns-in-Ok : goal.returns-in-Ok
returns-in-Ok c =
    c.of.ensures
    ∙ made c.write_entry.result c.in-Ok.field-0 c.new-text.result.items c.write_entry.new.out.items (entry_text c.args.entry) c.new-text.ensures.items c.write_entry.ensures c.in-Ok.is
