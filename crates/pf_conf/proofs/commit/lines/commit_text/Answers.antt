use Rattle.pf_conf.specs.Commit.Lines.{commit_line}
use Rattle.pf_conf.proofs.CommitTexts.{made}
use Rattle.pf_conf.proofs.commit.lines.commit_text.Goals as goal

pub returns-in-Ok : goal.returns-in-Ok
returns-in-Ok c =
    made c.write_commit.result c.in-Ok.field-0 c.new-text.result.items c.write_commit.new.out.items (commit_line c.args.begun.now) c.new-text.ensures.items c.write_commit.ensures c.in-Ok.is
