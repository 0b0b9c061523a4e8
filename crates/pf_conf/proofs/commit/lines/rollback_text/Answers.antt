use Rattle.pf_conf.specs.Commit.Lines.{rollback_line}
use Rattle.pf_conf.proofs.CommitTexts.{made}
use Rattle.pf_conf.proofs.commit.lines.rollback_text.Goals as goal

pub returns-in-Ok : goal.returns-in-Ok
returns-in-Ok c =
    made c.write_rollback.result c.in-Ok.field-0 c.new-text.result.items c.write_rollback.new.out.items (rollback_line c.args.begun.now) c.new-text.ensures.items c.write_rollback.ensures c.in-Ok.is
